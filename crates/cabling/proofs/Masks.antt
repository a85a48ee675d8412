-- A mask made port by port: bit p is whether it holds of port p, and none is set above the last port.
use mathlib.Core.Path.{◌≡◌, refl, sym, ap, ◌∙◌}
use mathlib.Core.Logic.{by_cases}
use mathlib.Core.Bool.{Bool, true, false, cond}
use Prim.Native.Nat.{ℕ, zero, suc, ◌+◌, ◌*◌, ◌-◌, ◌/◌, ◌%◌, ◌^◌, ◌<◌, ◌≤◌, min}
use native.Mathlib.Decide.{ℕ_discrete, dec_lt}
use native.Mathlib.Nat.{add-mul-div_right, add-zero, div-eq_of_lt, lt_of_lt_of_le, pow-suc, suc-add, zero-add, one-mul, min-eq_left, min-eq_right}
use native.Mathlib.Numerals.{add-one}
use native.Mathlib.Omega.{arith}
use lib.Pow.{pow-add, pow_mono, pow_pos}
use Rattle.rules.specs.Mask.{names, only}
use Rattle.cabling.specs.declared.Plug.{Plug}
use Rattle.cabling.specs.Cabling.{mask_of}

at_most_bit : (b : Bool) (n : ℕ) → cond b (only n) 0 ≤ 2 ^ n
at_most_bit true n = omega arith
at_most_bit false n = omega arith

pub mask_below : (is : ℕ → Bool) (n : ℕ) → mask_of is n < 2 ^ n
unfolding mask_of
mask_below is zero = omega arith
mask_below is (suc n) = rw (pow-suc 2 n) (omega (arith, mask_below is n, at_most_bit (is n) n))

-- one port more has room among the sixteen
pub mask_room : (is : ℕ → Bool) (n : ℕ) → n < 16 → mask_of is n + cond (is n) (only n) 0 < 65536
unfolding mask_of
mask_room is n h = lt_of_lt_of_le (mask_below is (suc n)) (pow_mono {i = suc n} {j = 16} h)

-- the highest bit, and a lower one
top_bit : (b : Bool) (m n : ℕ) → m < 2 ^ n → names (m + cond b (only n) 0) n ≡ b
unfolding names
top_bit true m n h = let e : (m + 2 ^ n) / 2 ^ n ≡ 1 = ap (λ x. (m + x) / 2 ^ n) (sym (one-mul (2 ^ n))) ∙ add-mul-div_right m 1 (pow_pos n) ∙ rw (div-eq_of_lt h) in rw e
top_bit false m n h = rw (add-zero m, div-eq_of_lt h)

low_bit : (b : Bool) (m d p : ℕ) → names (m + cond b (only (suc d + p)) 0) p ≡ names m p
unfolding names
low_bit true m d p =
    let e : (m + 2 ^ (suc d + p)) / 2 ^ p ≡ m / 2 ^ p + 2 ^ d * 2 = rw (pow-add 2 (suc d) p, pow-suc 2 d) (add-mul-div_right m (2 ^ d * 2) (pow_pos p)) in
    let same : (m / 2 ^ p + 2 ^ d * 2) % 2 ≡ m / 2 ^ p % 2 = omega arith in
    rw (e, same)
low_bit false m d p = rw (add-zero m)

pub names_mask : (is : ℕ → Bool) (n p : ℕ) → p < n → names (mask_of is n) p ≡ is p
unfolding mask_of
names_mask is zero p h = absurd (omega arith)
names_mask is (suc n) p h = by_cases (ℕ_discrete p n) top (λ d. below d (names_mask is n p (omega arith)))
  where
    top : p ≡ n → names (mask_of is n + cond (is n) (only n) 0) p ≡ is p
    top e = rw e (top_bit (is n) (mask_of is n) n (mask_below is n))

    below : (p ≡ n → ⊥) → names (mask_of is n) p ≡ is p → names (mask_of is n + cond (is n) (only n) 0) p ≡ is p
    below d known =
        let e : suc (n - suc p) + p ≡ n = omega arith in
        ap (λ x. names (mask_of is n + cond (is n) (only x) 0) p) (sym e) ∙ low_bit (is n) (mask_of is n) (n - suc p) p ∙ known

-- ports from m on add nothing where it holds of none of them
above : (is : ℕ → Bool) (m d : ℕ) → ((p : ℕ) → m ≤ p → is p ≡ false) → mask_of is (d + m) ≡ mask_of is m
unfolding mask_of
above is m zero none = rw (zero-add m)
above is m (suc d) none = rw (suc-add d m, none (d + m) (omega arith), add-zero (mask_of is (d + m))) (above is m d none)

pub mask_cut : (is : ℕ → Bool) (n m : ℕ) → ((p : ℕ) → m ≤ p → is p ≡ false) → mask_of is n ≡ mask_of is (min n m)
mask_cut is n m none = by_cases (dec_lt n m) (λ h. rw (min-eq_left {n = n} {m = m} (omega arith)))
    (λ h. let e : n ≡ n - m + m = omega arith in rw (min-eq_right {n = m} {m = n} (omega arith)) (ap (mask_of is) e ∙ above is m (n - m) none))

-- equal tests below n make equal masks
pub mask_same : (is other : ℕ → Bool) (n : ℕ) → ((p : ℕ) → p < n → is p ≡ other p) → mask_of is n ≡ mask_of other n
unfolding mask_of
mask_same is other zero same = refl
mask_same is other (suc n) same = rw (mask_same is other n (λ p h. same p (omega arith)), same n (omega arith))

-- the loop: the ports below p whose plug passes a test are in the mask
pub record Masking (test : Plug → Bool) (at : ℕ → Plug) (p mask : ℕ) : Type 0 where
  pub so_far : mask ≡ mask_of (λ q. test (at q)) p

module _ {test : Plug → Bool} {at : ℕ → Plug} where
  pub masking_starts : Masking test at 0 0
  unfolding mask_of
  masking_starts = record { so_far = refl }

  module _ {p mask : ℕ} (v : Masking test at p mask) {plug : Plug} {b : Bool} {bit : ℕ} (e : plug ≡ at p) (t : b ≡ test plug) (m : bit ≡ cond b (only p) 0) where
    pub masking_room : p < 16 → mask + bit < 65536
    masking_room h = rw (v.so_far, m, t, e) (mask_room (λ q. test (at q)) p h)

    pub masking_next : Masking test at (p + 1) (mask + bit)
    unfolding mask_of
    masking_next = record { so_far = rw (v.so_far, m, t, e, add-one) }

  -- all ports of n are seen, where none from m on passes the test
  pub masking_ends : (n m : ℕ) {p mask : ℕ} → Masking test at p mask → p ≡ min n m → ((q : ℕ) → m ≤ q → test (at q) ≡ false) → mask ≡ mask_of (λ q. test (at q)) n
  masking_ends n m v same none = v.so_far ∙ ap (λ q. mask_of (λ r. test (at r)) q) same ∙ sym (mask_cut (λ q. test (at q)) n m none)
