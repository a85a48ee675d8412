-- Masks with one more bit set: which bits they name, and how many.
use mathlib.Core.Path.{◌≡◌, refl, ap, ap₂, ◌∙◌}
use mathlib.Core.Bool.{◌||◌}
use Prim.Native.Nat.{ℕ, zero, suc, ◌+◌, ◌*◌, ◌/◌, ◌%◌, ◌^◌, ◌≤◌, ◌<◌, max}
use native.Mathlib.Nat.{pow-suc}
use native.Mathlib.Omega.{arith}
use lib.Bits.{bit_or, or_shr, or_mod, or_step, or_zero_r}
use lib.Count.{ones, ones_step}
use lib.Dec.{eqb}
use Rattle.rules.specs.Mask.{names}
use Rattle.rules.proofs.Laws.{names_only}

-- what either of two masks names
or_bit : (x y : ℕ) → x < 2 → y < 2 → eqb (bit_or x y) 1 ≡ (eqb x 1 || eqb y 1)
or_bit zero zero a b = refl
or_bit zero (suc zero) a b = refl
or_bit (suc zero) zero a b = refl
or_bit (suc zero) (suc zero) a b = refl
or_bit (suc (suc x)) y a b = absurd (omega arith)
or_bit zero (suc (suc y)) a b = absurd (omega arith)
or_bit (suc zero) (suc (suc y)) a b = absurd (omega arith)

names_either : (m k p : ℕ) → names (bit_or m k) p ≡ (names m p || names k p)
unfolding names
names_either m k p = rw (or_shr m k p, or_mod (m / 2 ^ p) (k / 2 ^ p) 1) (or_bit (m / 2 ^ p % 2) (k / 2 ^ p % 2) (omega arith) (omega arith))

-- one more bit
pub names_with : (m i p : ℕ) → names (bit_or m (2 ^ i)) p ≡ (names m p || eqb p i)
names_with m i p = names_either m (2 ^ i) p ∙ ap (λ b. names m p || b) (names_only i p)

-- is at most one more
pub ones_with : (i m : ℕ) → ones (bit_or m (2 ^ i)) ≤ ones m + 1
ones_with zero m =
    let now : bit_or m 1 ≡ m / 2 * 2 + 1 = or_step m 1 ∙ rw (or_zero_r (m / 2)) (ap (λ d. m / 2 * 2 + d) (lowest (m % 2) (omega arith))) in
    rw now (omega (arith, ones_step (m / 2 * 2 + 1), ones_step m, ap ones (half (m / 2))))
  where
    lowest : (d : ℕ) → d < 2 → max d 1 ≡ 1
    lowest zero h = refl
    lowest (suc zero) h = refl
    lowest (suc (suc d)) h = absurd (omega arith)

    half : (k : ℕ) → (k * 2 + 1) / 2 ≡ k
    half k = omega arith
ones_with (suc i) m =
    let now : bit_or m (2 ^ suc i) ≡ bit_or (m / 2) (2 ^ i) * 2 + m % 2 = or_step m (2 ^ suc i) ∙ rw (pow-suc 2 i) (ap₂ (λ x d. bit_or (m / 2) x * 2 + d) (whole (2 ^ i)) (even (m % 2) (2 ^ i))) in
    let k = bit_or (m / 2) (2 ^ i) in
    rw now (omega (arith, ones_step (k * 2 + m % 2), ap ones (half k (m % 2) (omega arith)), ones_step m, ones_with i (m / 2)))
  where
    whole : (x : ℕ) → x * 2 / 2 ≡ x
    whole x = omega arith

    even : (d x : ℕ) → max d (x * 2 % 2) ≡ d
    even d x = let z : x * 2 % 2 ≡ 0 = omega arith in rw z (omega arith)

    half : (k d : ℕ) → d < 2 → (k * 2 + d) / 2 ≡ k
    half k d h = omega arith
