-- The five lengths: the test is true exactly where the number of cells is a power of two, 16 to 256.
use Rattle.std.proofs.Common.{◌≡◌, ℕ, ◌*◌, ◌^◌, ◌<◌, ◌≤◌, true, false, ◌⊎◌, ◌≢◌, refl, inl, inr, arith, ne_eqb, eqb-true}
use mathlib.Core.Logic.{by_cases}
use native.Mathlib.Decide.{ℕ_discrete, dec_lt}
use native.Mathlib.Nat.{pow-le-pow_right}
use Rattle.filter.specs.Triple.{width, Count, is_length}

-- one of the five
abbrev pub Length : ℕ → Type 0
Length n = (n ≡ 16 * width) ⊎ ((n ≡ 32 * width) ⊎ ((n ≡ 64 * width) ⊎ ((n ≡ 128 * width) ⊎ (n ≡ 256 * width))))

pub length_true : {n : ℕ} → Length n → is_length n ≡ true
unfolding is_length
length_true (inl e) = rw e
length_true (inr (inl e)) = rw e
length_true (inr (inr (inl e))) = rw e
length_true (inr (inr (inr (inl e)))) = rw e
length_true (inr (inr (inr (inr e)))) = rw e

pub length_of : (n : ℕ) → is_length n ≡ true → Length n
unfolding is_length
length_of n e =
    by_cases (ℕ_discrete n 160) inl λ a.
    by_cases (ℕ_discrete n 320) (λ h. inr (inl h)) λ b.
    by_cases (ℕ_discrete n 640) (λ h. inr (inr (inl h))) λ c.
    by_cases (ℕ_discrete n 1280) (λ h. inr (inr (inr (inl h)))) λ d.
    inr (inr (inr (inr (eqb-true n 2560 (rw (ne_eqb n 160 a, ne_eqb n 320 b, ne_eqb n 640 c, ne_eqb n 1280 d) at e)))))

pub length_false : (n : ℕ) → n ≢ 160 → n ≢ 320 → n ≢ 640 → n ≢ 1280 → n ≢ 2560 → is_length n ≡ false
unfolding is_length
length_false n a b c d e = rw (ne_eqb n 160 a, ne_eqb n 320 b, ne_eqb n 640 c, ne_eqb n 1280 d, ne_eqb n 2560 e)

-- a power of two from 16 to 256 has one of five exponents
pub count_length : {count : ℕ} → Count count → Length (count * width)
count_length {count} r =
    by_cases (ℕ_discrete r.exponent 4) (λ h. inl (times h)) λ a.
    by_cases (ℕ_discrete r.exponent 5) (λ h. inr (inl (times h))) λ b.
    by_cases (ℕ_discrete r.exponent 6) (λ h. inr (inr (inl (times h)))) λ c.
    by_cases (ℕ_discrete r.exponent 7) (λ h. inr (inr (inr (inl (times h))))) λ d.
    by_cases (ℕ_discrete r.exponent 8) (λ h. inr (inr (inr (inr (times h))))) λ e.
    by_cases (dec_lt r.exponent 4) (λ h. absurd (too_few h)) (λ h. absurd (too_many (omega arith)))
  where
    times : {x : ℕ} → r.exponent ≡ x → count * width ≡ 2 ^ x * width
    times h = rw (r.power, h)

    too_few : r.exponent < 4 → ⊥
    too_few h =
        let below : r.exponent ≤ 3 = omega arith in
        let few : 2 ^ r.exponent ≤ 2 ^ 3 = pow-le-pow_right (omega arith) below in
        omega (arith, r.power)

    too_many : 9 ≤ r.exponent → ⊥
    too_many h = let many : 2 ^ 9 ≤ 2 ^ r.exponent = pow-le-pow_right (omega arith) h in omega (arith, r.power)

-- and each of the five lengths is that of such a power
pub record Counted (n : ℕ) : Type 0 where
  pub count : ℕ
  pub lawful : Count count
  pub long : n ≡ count * width

counted : {n : ℕ} (count x : ℕ) → count ≡ 2 ^ x → 16 ≤ count → count ≤ 256 → n ≡ count * width → Counted n
counted count x power least most long =
    record { count = count; lawful = record { exponent = x; power = power; least = least; most = most }; long = long }

pub length_count : {n : ℕ} → Length n → Counted n
length_count (inl e) = counted 16 4 refl (omega arith) (omega arith) e
length_count (inr (inl e)) = counted 32 5 refl (omega arith) (omega arith) e
length_count (inr (inr (inl e))) = counted 64 6 refl (omega arith) (omega arith) e
length_count (inr (inr (inr (inl e)))) = counted 128 7 refl (omega arith) (omega arith) e
length_count (inr (inr (inr (inr e)))) = counted 256 8 refl (omega arith) (omega arith) e
