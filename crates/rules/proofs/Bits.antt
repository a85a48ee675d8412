-- Laws of masks, bit by bit.
use mathlib.Core.Path.{◌≡◌, sym, ap, ◌∙◌}
use mathlib.Core.Bool.{true, false, true≢false}
use Prim.Native.Nat.{ℕ, ◌*◌, ◌/◌, ◌%◌, ◌^◌, ◌<◌, ◌≤◌}
use native.Mathlib.Decide.{dec_lt}
use native.Mathlib.Nat.{one-mul, mod-eq_of_lt, div-eq_of_lt, lt_of_lt_of_le}
use native.Mathlib.Omega.{arith}
use lib.Bits.{bit_and, and_mask}
use lib.Dec.{eqb}
use lib.Pow.{pow-lt, pow_mono}
use Rattle.rules.specs.Mask.{names, only}

-- a mask of n bits names no port from n on
pub names_none : (n mask p : ℕ) → mask < 2 ^ n → n ≤ p → names mask p ≡ false
unfolding names
names_none n mask p h l = rw (div-eq_of_lt (lt_of_lt_of_le h (pow_mono l)))

pub names_high : (mask p : ℕ) → mask < 65536 → 16 ≤ p → names mask p ≡ false
names_high mask p h l = names_none 16 mask p h l

pub names_below : (n mask p : ℕ) → mask < 2 ^ n → names mask p ≡ true → p < n
names_below n mask p h e = by_order (dec_lt p n)
  where
    by_order : Dec (p < n) → p < n
    by_order (yes l) = l
    by_order (no m) = absurd (true≢false (sym e ∙ names_none n mask p h (omega arith)))

-- the masked bit is the bit
pub names_bit : (mask p : ℕ) → eqb (bit_and (mask / 2 ^ p) 1) 1 ≡ names mask p
unfolding names
names_bit mask p = rw (and_mask (mask / 2 ^ p) 1)

-- a bit of the sixteen fits
pub only_is : (p : ℕ) → p < 16 → 1 * 2 ^ p % 65536 ≡ only p
only_is p h = ap (λ x. x % 65536) (one-mul (2 ^ p)) ∙ mod-eq_of_lt (pow-lt h)
