-- Digits are read back one by one; a number has as many as it needs, and no more.
use Prim.Native.Nat.{ℕ, zero, suc, ◌+◌, ◌*◌, ◌/◌, ◌%◌, ◌^◌, ◌≤◌, ◌<◌}
use mathlib.Core.Path.{◌≡◌, refl, sym, ap, ◌∙◌}
use mathlib.Core.Logic.{by_cases, ◌≢◌}
use native.Mathlib.Nat.{pow-suc, pow-zero, one-le-pow, mul_assoc, mul_comm, add-mul, mod-lt, mod-eq_of_lt, div-lt_iff_lt-mul, le-div_iff_mul-le}
use native.Mathlib.Decide.{dec_lt}
use native.Mathlib.Omega.{arith}
use lib.Arith.{mod-mul}
use lib.ListN.{get_or}
use borrow.Author.Tests.{lt-ltb, le-ltb}
use Rattle.lines.specs.Lines.{hex_of, digits, width, decimal, hex8}
use Rattle.lines.specs.ReadBack.{digit_in, read_after, read_in, ReadsBack, NoZeroBefore, MarksReadBack}
use Rattle.lines.proofs.Digits.{by_tenths, width_small, width_more, width_least}

-- a digit that is printed is read back
digit_back : (d : ℕ) → d < 16 → digit_in (hex_of d) ≡ d
unfolding digit_in hex_of
digit_back d h =
    by_cases (dec_lt d 10)
    (λ small. rw (lt-ltb d 10 small, lt-ltb (0x30 + d) 0x61 (omega arith)) (omega arith))
    (λ large. rw (le-ltb d 10 (omega arith), le-ltb (0x57 + d) 0x61 (omega arith)) (omega arith))

regroup : (a d base p : ℕ) → (a * base + d) * p ≡ a * (p * base) + d * p
regroup a d base p = add-mul (a * base) d p ∙ ap (λ x. x + d * p) (mul_assoc a base p ∙ ap (λ x. a * x) (mul_comm base p))

module _ (base : ℕ) (some : 1 ≤ base) (few : base ≤ 16) where
  after_back : (a k n : ℕ) → read_after base a (digits base k n) ≡ a * base ^ k + n % base ^ k
  unfolding read_after digits
  after_back a zero n = rw pow-zero (omega arith)
  after_back a (suc k) n =
      let d = n / base ^ k % base in
      let small : d < base = mod-lt (n / base ^ k) some in
      ap (λ x. read_after base (a * base + x) (digits base k n)) (digit_back d (omega arith))
      ∙ after_back (a * base + d) k n
      ∙ rw (pow-suc, regroup, mul_comm (base ^ k) base, mod-mul n {m = base} some (one-le-pow k base some)) (omega arith)

  -- so many digits give back what they hold of a number
  digits_back : (k n : ℕ) → read_in base (digits base k n) ≡ n % base ^ k
  unfolding read_in
  digits_back k n = after_back 0 k n ∙ omega arith

-- a number is below the power of its width
below : (n : ℕ) → n < 10 ^ width n
below =
    by_tenths (λ n. n < 10 ^ width n)
    (λ n h. rw (width_small n h) (omega arith))
    (λ n h p. rw (width_more n h, pow-suc) (omega arith))

pub reads_back : ReadsBack
unfolding decimal
reads_back n = digits_back 10 (omega arith) (omega arith) (width n) n ∙ mod-eq_of_lt (below n)

pub marks_read_back : MarksReadBack
unfolding hex8
marks_read_back n h = digits_back 16 (omega arith) (omega arith) 8 n ∙ mod-eq_of_lt h

-- and not below the power before it
above : (n : ℕ) → n ≢ 0 → (k : ℕ) → width n ≡ suc k → 10 ^ k ≤ n
above =
    by_tenths (λ n. n ≢ 0 → (k : ℕ) → width n ≡ suc k → 10 ^ k ≤ n)
    (λ n h some k e. let none : k ≡ 0 = omega (arith, width_small n h) in rw none (omega arith))
    (λ n h p some. tenfold n h (p (λ z. omega arith)))
  where
    tenfold : (n : ℕ) → 10 ≤ n → ((k : ℕ) → width (n / 10) ≡ suc k → 10 ^ k ≤ n / 10) → (k : ℕ) → width n ≡ suc k → 10 ^ k ≤ n
    tenfold n h p zero e = omega arith
    tenfold n h p (suc k) e = let tenth = p k (omega (arith, width_more n h)) in rw pow-suc (omega arith)

not_zero : (d : ℕ) → 1 ≤ d → d < 10 → hex_of d ≢ 0x30
unfolding hex_of
not_zero d some few e = let digit : 0x30 + d ≡ 0x30 = rw (lt-ltb d 10 few) at e in omega arith

-- the first digit of a number that has k more
first_digit : (n k : ℕ) → n ≢ 0 → width n ≡ suc k → (1 ≤ n / 10 ^ k) × (n / 10 ^ k < 10)
first_digit n k some e =
    let power : 0 < 10 ^ k = one-le-pow k 10 (omega arith) in
    let most : n < 10 ^ suc k = rw e at (below n) in
    ((le-div_iff_mul-le power).1 (omega (arith, above n some k e)), (div-lt_iff_lt-mul power).1 (omega (arith, pow-suc 10 k)))

first_stands : (n k : ℕ) → n ≢ 0 → width n ≡ suc k → get_or (digits 10 (suc k) n) 0 0 ≢ 0x30
unfolding digits
first_stands n k some e zero_first =
    let (least, most) = first_digit n k some e in
    not_zero (n / 10 ^ k) least most (ap hex_of (sym (mod-eq_of_lt most)) ∙ zero_first)

pub no_zero_before : NoZeroBefore
unfolding decimal
no_zero_before n some = by_width (width n) refl
  where
    by_width : (w : ℕ) → width n ≡ w → get_or (digits 10 w n) 0 0 ≢ 0x30
    by_width zero e = absurd (omega (arith, width_least n))
    by_width (suc k) e = first_stands n k some e
