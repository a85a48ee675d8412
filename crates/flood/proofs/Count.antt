-- How many of the first n switches a test names.
use Prim.Native.Nat.{ℕ, zero, suc, ◌+◌, ◌≤◌, ◌<◌}
use mathlib.Core.Path.{◌≡◌, refl}
use mathlib.Core.Bool.{Bool, true, false}
use native.Mathlib.Decide.{ℕ_discrete}
use native.Mathlib.Omega.{arith}

abbrev one_if : Bool → ℕ
one_if true = 1
one_if false = 0

abbrev pub count : (ℕ → Bool) → ℕ → ℕ
count f zero = 0
count f (suc n) = one_if (f n) + count f n

one_if_le : (b : Bool) → one_if b ≤ 1
one_if_le true = omega arith
one_if_le false = omega arith

one_if_mono : (a b : Bool) → (a ≡ true → b ≡ true) → one_if a ≤ one_if b
one_if_mono true b h = rw (h refl) (omega arith)
one_if_mono false b h = omega arith

count_le : (f : ℕ → Bool) (n : ℕ) → count f n ≤ n
count_le f zero = omega arith
count_le f (suc n) = omega (arith, one_if_le (f n), count_le f n)

count_mono : (f g : ℕ → Bool) (n : ℕ) → ((i : ℕ) → f i ≡ true → g i ≡ true) → count f n ≤ count g n
count_mono f g zero h = omega arith
count_mono f g (suc n) h = omega (arith, one_if_mono (f n) (g n) (h n), count_mono f g n h)

-- who names all that f names, and s besides, names more
pub count_more : (f g : ℕ → Bool) (n s : ℕ) → s < n → f s ≡ false → g s ≡ true → ((i : ℕ) → f i ≡ true → g i ≡ true) → count f n < count g n
count_more f g zero s h e d m = omega arith
count_more f g (suc n) s h e d m = at_last (ℕ_discrete s n) (λ k. count_more f g n s k e d m)
  where
    at_last : Dec (s ≡ n) → (s < n → count f n < count g n) → one_if (f n) + count f n < one_if (g n) + count g n
    at_last (yes p) ih = rw (← p, e, d) (omega (arith, count_mono f g s m))
    at_last (no k) ih =
        let lt : s < n = omega arith in
        omega (arith, ih lt, one_if_mono (f n) (g n) (m n))

-- a switch that isn't named leaves room
pub count_lt : (f : ℕ → Bool) (n s : ℕ) → s < n → f s ≡ false → count f n < n
count_lt f n s h e = omega (arith, count_more f (λ i. true) n s h e refl (λ i k. refl), count_le (λ i. true) n)
