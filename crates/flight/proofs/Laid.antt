-- Lists of any kind, laid in the first places of an array.
use Prim.Native.Nat.{ℕ, zero, suc, ◌+◌, ◌-◌, ◌<◌, ◌≤◌}
use mathlib.Core.Path.{◌≡◌, refl, ap}
use mathlib.Core.List.{List, [], ◌∷◌, ◌++◌}
use native.Mathlib.Nat.{le_of_suc-le-suc, not-suc-le-zero}
use native.Mathlib.Numerals.{add-one}
use native.Mathlib.Omega.{arith}
use lib.ListN.{length, get_or, take, drop, set, replicate, take-append-drop}
use lib.Seq.{length-take-le, take_at, take-suc}
use Rattle.flight.specs.Flight.{laid}

module _ {A : Type 0} where
  -- the first ones, one more of them
  pub one_more : (a : List A) (i : ℕ) (d : A) → i < length a → take (i + 1) a ≡ take i a ++ (get_or a i d ∷ [])
  one_more a i d l = rw add-one (take-suc a i d l)

  -- laid as they lie, they change nothing
  pub laid_same : (n : ℕ) (a : List A) → n ≤ length a → laid (take n a) a ≡ a
  unfolding laid
  laid_same n a h = rw (length-take-le n a h) (take-append-drop n a)

  -- they stand in front
  pub laid_front : (xs a : List A) (n : ℕ) → length xs ≡ n → take n (laid xs a) ≡ xs
  unfolding laid
  laid_front xs a n e = take_at xs (drop (length xs) a) n e

  -- what stands behind them stays
  pub laid_behind : (xs a : List A) (i : ℕ) (d : A) → length xs ≤ i → length xs ≤ length a → get_or (laid xs a) i d ≡ get_or a i d
  unfolding laid
  laid_behind [] a i d h k = refl
  laid_behind (x ∷ xs) [] i d h k = absurd (not-suc-le-zero k)
  laid_behind (x ∷ xs) (b ∷ a) zero d h k = absurd (not-suc-le-zero h)
  laid_behind (x ∷ xs) (b ∷ a) (suc i) d h k = laid_behind xs a i d (le_of_suc-le-suc h) (le_of_suc-le-suc k)

  -- one more is put behind them
  pub laid_joins : (xs a : List A) (n : ℕ) (v : A) → length xs ≡ n → n < length a → set (laid xs a) n v ≡ laid (xs ++ (v ∷ [])) a
  unfolding laid
  laid_joins xs a n v e h = rw (← e) (go xs a v (rw e h))
    where
      go : (xs a : List A) (v : A) → length xs < length a → set (laid xs a) (length xs) v ≡ laid (xs ++ (v ∷ [])) a
      go xs [] v h = absurd (not-suc-le-zero h)
      go [] (b ∷ a) v h = refl
      go (x ∷ xs) (b ∷ a) v h = ap (λ (l : List A). x ∷ l) (go xs a v (le_of_suc-le-suc h))

  drop_replicate : (k m : ℕ) (z : A) → drop k (replicate m z) ≡ replicate (m - k) z
  drop_replicate zero m z = let e : m - 0 ≡ m = omega arith in rw e
  drop_replicate (suc k) zero z = let e : 0 - suc k ≡ 0 = omega arith in rw e
  drop_replicate (suc k) (suc m) z = let e : suc m - suc k ≡ m - k = omega arith in rw e (drop_replicate k m z)

  -- in an array of one value, that value stands behind them
  pub laid_padded : (xs : List A) (m n : ℕ) (z : A) → length xs ≡ n → laid xs (replicate m z) ≡ xs ++ replicate (m - n) z
  unfolding laid
  laid_padded xs m n z e = rw (e, drop_replicate n m z)
