-- Which ports a mask names that was made of others: bit by bit, by the laws of lib.Bits.
use mathlib.Core.Path.{◌≡◌, refl, sym, ap, ◌∙◌}
use mathlib.Core.Logic.{by_cases}
use mathlib.Core.Bool.{true, not, ◌&&◌, and-eq-true_iff}
use Prim.Native.Nat.{ℕ, zero, suc, ◌+◌, ◌-◌, ◌/◌, ◌%◌, ◌^◌, ◌<◌}
use native.Mathlib.Decide.{ℕ_discrete, dec_lt}
use native.Mathlib.Nat.{one-mul, div-eq_of_lt, pow-suc}
use native.Mathlib.Omega.{arith}
use lib.Bits.{bit_and, bit_xor, and_shr, and_mod, xor_shr, xor_mod, and_mask, xor_add_and}
use lib.Dec.{eqb}
use lib.Pow.{pow-lt, pow-add, pow_pos, shl-shr, ones_split, ones_lt, high}
use borrow.Author.Tests.{eq-eqb, eqb-true, ne_eqb}
use Rattle.rules.specs.Mask.{names, only, all_but}

-- what two masks both name
and_bit : (x y : ℕ) → x < 2 → y < 2 → eqb (bit_and x y) 1 ≡ (eqb x 1 && eqb y 1)
and_bit zero zero a b = refl
and_bit zero (suc zero) a b = refl
and_bit (suc zero) zero a b = refl
and_bit (suc zero) (suc zero) a b = refl
and_bit (suc (suc x)) y a b = absurd (omega arith)
and_bit zero (suc (suc y)) a b = absurd (omega arith)
and_bit (suc zero) (suc (suc y)) a b = absurd (omega arith)

pub names_both : (m k p : ℕ) → names (bit_and m k) p ≡ (names m p && names k p)
unfolding names
names_both m k p = rw (and_shr m k p, and_mod (m / 2 ^ p) (k / 2 ^ p) 1) (and_bit (m / 2 ^ p % 2) (k / 2 ^ p % 2) (omega arith) (omega arith))

-- a port alone names itself
even_above : (d p : ℕ) → 2 ^ (suc d + p) / 2 ^ p % 2 ≡ 0
even_above d p = rw (pow-add 2 (suc d) p, shl-shr (2 ^ suc d) p, pow-suc) (omega arith)

pub names_only : (q p : ℕ) → names (only q) p ≡ eqb p q
unfolding names
names_only q p = by_cases (dec_lt p q) above (λ n. by_cases (ℕ_discrete p q) same (λ d. below (omega arith) d))
  where
    above : p < q → eqb (2 ^ q / 2 ^ p % 2) 1 ≡ eqb p q
    above h = let e : q ≡ suc (q - suc p) + p = omega arith in let z : 2 ^ q / 2 ^ p % 2 ≡ 0 = ap (λ n. 2 ^ n / 2 ^ p % 2) e ∙ even_above (q - suc p) p in rw z (sym (ne_eqb p q (omega arith)))

    same : p ≡ q → eqb (2 ^ q / 2 ^ p % 2) 1 ≡ eqb p q
    same e = let z : 2 ^ q / 2 ^ p ≡ 1 = rw (← e) (ap (λ n. n / 2 ^ p) (sym (one-mul (2 ^ p))) ∙ shl-shr 1 p) in rw z (sym (eq-eqb p q e))

    below : q < p → (p ≡ q → ⊥) → eqb (2 ^ q / 2 ^ p % 2) 1 ≡ eqb p q
    below h d = rw (div-eq_of_lt (pow-lt h)) (sym (ne_eqb p q d))

-- all sixteen but those of a mask
xor_bit : (x : ℕ) → x < 2 → eqb (bit_xor x 1) 1 ≡ not (eqb x 1)
xor_bit zero a = refl
xor_bit (suc zero) a = refl
xor_bit (suc (suc x)) a = absurd (omega arith)

ones_odd : (d p : ℕ) → (2 ^ (suc d + p) - 1) / 2 ^ p % 2 ≡ 1
ones_odd d p = let h = pow_pos d in rw (ones_split (suc d) p, high (2 ^ suc d - 1) p (ones_lt p), pow-suc) (omega arith)

all_odd : (p : ℕ) → p < 16 → 65535 / 2 ^ p % 2 ≡ 1
all_odd p h = let e : suc (15 - p) + p ≡ 16 = omega arith in rw (← ap (λ n. 2 ^ n - 1) e) (ones_odd (15 - p) p)

flipped : (m : ℕ) → m < 2 ^ 16 → 65535 - m ≡ bit_xor m 65535
flipped m h = let e = and_mask m 16 in omega (arith, xor_add_and m 65535)

names_others : (m p : ℕ) → m < 2 ^ 16 → p < 16 → names (65535 - m) p ≡ not (names m p)
unfolding names
names_others m p h l =
    rw (flipped m h, xor_shr m 65535 p, xor_mod (m / 2 ^ p) (65535 / 2 ^ p) 1, all_odd p l) (xor_bit (m / 2 ^ p % 2) (omega arith))

pub names_all_but : (q m p : ℕ) → q < 16 → p < 16 → names (all_but q m) p ≡ (names m p && not (eqb p q))
unfolding all_but
names_all_but q m p h l = names_both m (65535 - only q) p ∙ ap (λ b. names m p && b) (names_others (only q) p (pow-lt h) l ∙ ap not (names_only q p))

pub all_but_within : (q m p : ℕ) → names (all_but q m) p ≡ true → names m p ≡ true
unfolding all_but
all_but_within q m p e = ((and-eq-true_iff (names m p) (names (65535 - only q) p)).0 (sym (names_both m (65535 - only q) p) ∙ e)).0

pub only_within : (q m p : ℕ) → names m q ≡ true → names (only q) p ≡ true → names m p ≡ true
only_within q m p up e = rw (eqb-true p q (sym (names_only q p) ∙ e)) up
