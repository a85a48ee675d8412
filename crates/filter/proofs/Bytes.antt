-- Bytes compared, and bytes read as numbers.
use Rattle.std.proofs.Common.{◌≡◌, ℕ, zero, suc, ◌+◌, ◌*◌, ◌≤◌, Bool, true, false, ◌&&◌, eqb, List, [], ◌∷◌, length, drop, sym, refl, ap, ◌∙◌, arith, length-drop, length-take, eq-eqb, ne_eqb, eqb-true}
use Rattle.std.specs.Prelude.{◌↔◌, ◌-◌, IsTrue, All, take}
use mathlib.Core.Logic.{by_cases}
use lib.Pointwise.{pointwise}
use native.Mathlib.Decide.{ℕ_discrete}
use lib.ListN.{length-replicate, get_or-replicate}
use Rattle.wire.specs.Wire.{number, number_after, part}
use Rattle.std.specs.List.{fold}
use Rattle.filter.specs.Filter.{mixed, hash, same, empty, zeros}

pub true_false : true ≡ false → ⊥
true_false e = let z : ◌≡◌ {A = ℕ} 0 1 = cc in omega arith

pub both_true : (a b : Bool) → a && b ≡ true → (a ≡ true) × (b ≡ true)
both_true true b e = (refl, e)
both_true false b e = absurd (true_false (sym e))

-- what is not true is false
pub refuted : (b : Bool) → (b ≡ true → ⊥) → b ≡ false
refuted true h = absurd (h refl)
refuted false h = refl

pub same_refl : (l : List ℕ) → same l l ≡ true
unfolding same
same_refl [] = refl
same_refl (x ∷ xs) = rw (eq-eqb x x refl) (same_refl xs)

pub same_true : (a b : List ℕ) → same a b ≡ true → a ≡ b
unfolding same
same_true [] [] e = refl
same_true [] (y ∷ ys) e = absurd (true_false (sym e))
same_true (x ∷ xs) [] e = absurd (true_false (sym e))
same_true (x ∷ xs) (y ∷ ys) e =
    let parts : (eqb x y ≡ true) × (same xs ys ≡ true) = both_true (eqb x y) (same xs ys) e in
    rw (eqb-true x y parts.0, same_true xs ys parts.1)

pub zeros_long : (n : ℕ) → length (zeros n) ≡ n
zeros_long n = length-replicate n 0

-- part of a list is as long as asked, where it is there
pub part_long : (f : List ℕ) (at k : ℕ) → at + k ≤ length f → length (part at k f) ≡ k
part_long f at k room = simp (length-take, length-drop) (omega arith)

-- slices are compared byte by byte
pointwise_same : (a b : List ℕ) → pointwise eqb a b ≡ same a b
unfolding same
pointwise_same [] [] = refl
pointwise_same [] (y ∷ ys) = refl
pointwise_same (x ∷ xs) [] = refl
pointwise_same (x ∷ xs) (y ∷ ys) = rw (pointwise_same xs ys)

pub slice_same : (f key : List ℕ) (at : ℕ) → pointwise eqb (take (at + length key - at) (drop at f)) key ≡ same (part at (length key) f) key
slice_same f key at = let long : at + length key - at ≡ length key = omega arith in rw long (pointwise_same (part at (length key) f) key)

-- only zeros write the number zero
after_zero : (m : ℕ) (bs : List ℕ) → number_after m bs ≡ 0 → (m ≡ 0) × (bs ≡ zeros (length bs))
unfolding number_after
after_zero m [] e = (e, refl)
after_zero m (b ∷ bs) e =
    let rest : (m * 256 + b ≡ 0) × (bs ≡ zeros (length bs)) = after_zero (m * 256 + b) bs e in
    let zero_b : b ≡ 0 = omega arith in
    (omega arith, rw zero_b (ap (λ l. 0 ∷ l) rest.1))

number_zero : (bs : List ℕ) → number bs ≡ 0 → bs ≡ zeros (length bs)
unfolding number
number_zero bs e = (after_zero 0 bs e).1

zeros_number : (n : ℕ) → number (zeros n) ≡ 0
unfolding number number_after
zeros_number zero = refl
zeros_number (suc n) = zeros_number n

pub zeros_empty : (l : List ℕ) → l ≡ zeros (length l) → empty l ≡ true
unfolding empty
zeros_empty l e = ap (same l) (sym e) ∙ same_refl l

pub empty_true : (l : List ℕ) → empty l ≡ true → l ≡ zeros (length l)
unfolding empty
empty_true l e = same_true l (zeros (length l)) e

-- bytes are all zero exactly where their number is
pub empty_number : (l : List ℕ) → empty l ≡ eqb (number l) 0
empty_number l =
    by_cases (ℕ_discrete (number l) 0)
    (λ e. zeros_empty l (number_zero l e) ∙ sym (eq-eqb (number l) 0 e))
    (λ d. refuted (empty l) (λ e. d (ap number (empty_true l e) ∙ zeros_number (length l))) ∙ sym (ne_eqb (number l) 0 d))

-- bytes are empty where each of them is zero
pub all_empty : (r : Bool) (l : List ℕ) → (IsTrue r ↔ All (λ b. b ≡ 0) l) → r ≡ empty l
all_empty true l h = sym (zeros_empty l (clear l (h.0 refl)))
  where
    clear : (l : List ℕ) → All (λ b. b ≡ 0) l → l ≡ zeros (length l)
    clear [] a = refl
    clear (b ∷ l) a = rw (a 0 0 (omega arith), ← clear l (λ k d h. a (suc k) d (omega arith)))
all_empty false l h = sym (refuted (empty l) (λ e. true_false (sym (h.1 (λ k d p. rw (empty_true l e) (get_or-replicate (length l) k 0 d p))))))

-- a hash is a fold over the key's bytes
pub folded : (h : ℕ) (key : List ℕ) → fold mixed h key ≡ hash h key
unfolding hash
folded h [] = refl
folded h (b ∷ bs) = folded (mixed h b) bs
