-- The first place of an address in a list, and how it moves when a place is written.
use mathlib.Core.Path.{◌≡◌, refl, ap, subst, sym, ◌∙◌}
use mathlib.Core.Logic.{◌≢◌, ⊎_elim}
use mathlib.Core.List.{List, [], ◌∷◌}
use mathlib.Core.Bool.{Bool, true, false, cond}
use Prim.Native.Nat.{ℕ, zero, suc, ◌+◌, ◌*◌, ◌/◌, ◌<◌, ◌≤◌}
use native.Mathlib.Numerals.{add-one}
use native.Mathlib.Nat.{add-zero, zero-add, not-suc-le-zero, le_of_suc-le-suc, not-le_of_lt, eq-or-lt_of_le}
use native.Mathlib.Omega.{arith}
use lib.ListN.{length, get_or, set, drop_of_length-le}
use lib.Dec.{eqb, ltb}
use lib.Seq.{drop-cons}
use borrow.Author.Tests.{eq-eqb, ne_eqb, eqb-true, lt-ltb, ltb-true, ltb-false}
use Rattle.table.specs.Table.{NoneOf, Passed, slot_for, slot_of}

-- a search that passed i slots
module _ (x : ℕ) (l : List ℕ) (i : ℕ) (p : Passed x l i) where
  pub slot_here : i < length l → get_or l i 0 ≡ x → slot_of x l ≡ i
  unfolding slot_of
  slot_here h q = p.rest ∙ rw (drop-cons l i 0 h, eq-eqb (get_or l i 0) x q) (add-zero i)

  pub slot_next : i < length l → get_or l i 0 ≢ x → Passed x l (i + 1)
  unfolding slot_of
  slot_next h q = record { within = omega arith; rest = p.rest ∙ rw (add-one, drop-cons l i 0 h, ne_eqb (get_or l i 0) x q) (omega arith) }

  pub slot_end : length l ≤ i → i ≡ slot_of x l
  unfolding slot_of
  slot_end h = sym (rw (drop_of_length-le l h) at p.rest ∙ add-zero i)

-- four at a time
pub slots_next : (x : ℕ) (l : List ℕ) (n : ℕ) → Passed x l (4 * n) → n < length l / 4
    → NoneOf x (get_or l (4 * n) 0) (get_or l (4 * n + 1) 0) (get_or l (4 * n + 2) 0) (get_or l (4 * n + 3) 0) → Passed x l (4 * (n + 1))
slots_next x l n p more none =
    let next : (j k : ℕ) → j < length l → Passed x l j → get_or l j 0 ≢ x → k ≡ j + 1 → Passed x l k = λ j k h q off e. subst (Passed x l) (sym e) (slot_next x l j q h off) in
    let one = next (4 * n) (4 * n + 1) (omega arith) p none.first refl in
    let two = next (4 * n + 1) (4 * n + 2) (omega arith) one none.second (omega arith) in
    let three = next (4 * n + 2) (4 * n + 3) (omega arith) two none.third (omega arith) in
    next (4 * n + 3) (4 * (n + 1)) (omega arith) three none.fourth (omega arith)

pub none_passed : (x : ℕ) (l : List ℕ) → Passed x l 0
none_passed x l = record { within = omega arith; rest = sym (zero-add (slot_of x l)) }

module _ (x : ℕ) where
  -- it is at most any place of x
  pub slot_least : (l : List ℕ) (i : ℕ) → i < length l → get_or l i 0 ≡ x → slot_of x l ≤ i
  unfolding slot_of
  slot_least [] i h q = absurd (not-suc-le-zero h)
  slot_least (y ∷ ys) zero h q = rw (eq-eqb y x q) (omega arith)
  slot_least (y ∷ ys) (suc i) h q = go (eqb y x) (slot_least ys i (le_of_suc-le-suc h) q)
    where
      go : (b : Bool) → slot_of x ys ≤ i → cond b 0 (suc (slot_of x ys)) ≤ suc i
      go true k = omega arith
      go false k = omega arith

  -- x stands there, unless it is the length
  pub slot_stands : (l : List ℕ) → slot_of x l < length l → get_or l (slot_of x l) 0 ≡ x
  unfolding slot_of
  slot_stands [] h = absurd (not-suc-le-zero h)
  slot_stands (y ∷ ys) h = go (eqb y x) refl h (λ k. slot_stands ys k)
    where
      go : (b : Bool) → eqb y x ≡ b → cond b 0 (suc (slot_of x ys)) < suc (length ys) → (slot_of x ys < length ys → get_or ys (slot_of x ys) 0 ≡ x) → get_or (y ∷ ys) (cond b 0 (suc (slot_of x ys))) 0 ≡ x
      go true e k ih = eqb-true y x e
      go false e k ih = ih (omega arith)

  -- a place of x with none before it is the first
  pub slot_first : (l : List ℕ) (i : ℕ) → i < length l → get_or l i 0 ≡ x → ((k : ℕ) → k < i → get_or l k 0 ≢ x) → slot_of x l ≡ i
  slot_first l i h q none =
      let low : slot_of x l ≤ i = slot_least l i h q in
      ⊎_elim (λ e. e) (λ m. absurd (none (slot_of x l) m (slot_stands l (omega arith)))) (eq-or-lt_of_le low)

  pub slot_within : (l : List ℕ) → slot_of x l ≤ length l
  unfolding slot_of
  slot_within [] = omega arith
  slot_within (y ∷ ys) = go (eqb y x) (slot_within ys)
    where
      go : (b : Bool) → slot_of x ys ≤ length ys → cond b 0 (suc (slot_of x ys)) ≤ suc (length ys)
      go true k = omega arith
      go false k = omega arith

  -- x written no later than its first place becomes the first
  pub slot_set : (l : List ℕ) (i : ℕ) → i < length l → i ≤ slot_of x l → slot_of x (set l i x) ≡ i
  unfolding slot_of
  slot_set [] i h k = absurd (not-suc-le-zero h)
  slot_set (y ∷ ys) zero h k = rw (eq-eqb x x refl)
  slot_set (y ∷ ys) (suc i) h k = go (eqb y x) k (λ m. slot_set ys i (le_of_suc-le-suc h) m)
    where
      go : (b : Bool) → suc i ≤ cond b 0 (suc (slot_of x ys)) → (i ≤ slot_of x ys → slot_of x (set ys i x) ≡ i) → cond b 0 (suc (slot_of x (set ys i x))) ≡ suc i
      go true m ih = absurd (not-suc-le-zero m)
      go false m ih = ap suc (ih (le_of_suc-le-suc m))

  -- it stays where neither what was overwritten nor what is written is x
  pub slot_set_other : (l : List ℕ) (i v : ℕ) → get_or l i 0 ≢ x → v ≢ x → slot_of x (set l i v) ≡ slot_of x l
  unfolding slot_of
  slot_set_other [] i v h k = refl
  slot_set_other (y ∷ ys) zero v h k = rw (ne_eqb y x h, ne_eqb v x k)
  slot_set_other (y ∷ ys) (suc i) v h k = rw (slot_set_other ys i v h k)

-- where an address is learned
module _ (x : ℕ) (l : List ℕ) where
  -- no later than its first place
  pub for_least : slot_for x l ≤ slot_of x l
  unfolding slot_for
  for_least = go (ltb (slot_of x l) (length l)) refl
    where
      go : (b : Bool) → ltb (slot_of x l) (length l) ≡ b → cond b (slot_of x l) (slot_of 0 l) ≤ slot_of x l
      go true e = omega arith
      go false e = omega (arith, ltb-false (slot_of x l) (length l) e, slot_within 0 l)

  -- where it stands, there
  pub for_known : slot_of x l < length l → slot_for x l ≡ slot_of x l
  unfolding slot_for
  for_known h = rw (lt-ltb (slot_of x l) (length l) h)

  -- over itself or an empty slot
  pub for_free : slot_for x l < length l → (y : ℕ) → y ≢ 0 → y ≢ x → get_or l (slot_for x l) 0 ≢ y
  unfolding slot_for
  for_free = go (ltb (slot_of x l) (length l)) refl
    where
      go : (b : Bool) → ltb (slot_of x l) (length l) ≡ b → cond b (slot_of x l) (slot_of 0 l) < length l → (y : ℕ) → y ≢ 0 → y ≢ x → get_or l (cond b (slot_of x l) (slot_of 0 l)) 0 ≢ y
      go true e k y z n q = n (sym q ∙ slot_stands x l k)
      go false e k y z n q = z (sym q ∙ slot_stands 0 l k)

  -- nowhere, only where neither it nor an empty slot stands
  pub for_none : length l ≤ slot_for x l → (length l ≤ slot_of x l) × (length l ≤ slot_of 0 l)
  unfolding slot_for
  for_none = go (ltb (slot_of x l) (length l)) refl
    where
      go : (b : Bool) → ltb (slot_of x l) (length l) ≡ b → length l ≤ cond b (slot_of x l) (slot_of 0 l) → (length l ≤ slot_of x l) × (length l ≤ slot_of 0 l)
      go true e k = absurd (not-le_of_lt (ltb-true (slot_of x l) (length l) e) k)
      go false e k = (ltb-false (slot_of x l) (length l) e, k)
