-- Laws of an array's first places, and of a search in them.
use Prim.Native.Nat.{ℕ, zero, suc, ◌+◌, ◌<◌, ◌≤◌}
use mathlib.Core.Path.{◌≡◌, refl, sym, ap, ◌∙◌}
use mathlib.Core.Bool.{Bool, true, false, ◌||◌, true≢false, false≢true}
use mathlib.Core.List.{List, [], ◌∷◌, ◌++◌, Memᴰ}
use native.Mathlib.Nat.{le_of_suc-le-suc, not-suc-le-zero}
use native.Mathlib.Numerals.{add-one}
use native.Mathlib.Omega.{arith}
use lib.ListN.{length, get_or, take, set, length-set}
use lib.Seq.{take-suc-set}
use Rattle.std.specs.List.{list_any}
use Rattle.network.specs.Network.{up_to}
use Rattle.network.specs.Checks.{any}

pub or_same : (b : Bool) → (b || b) ≡ b
or_same true = refl
or_same false = refl

or_none : (b : Bool) → (b || false) ≡ b
or_none true = refl
or_none false = refl

module _ {A : Type 0} (unused : A) where
  pub up_to_long : (k : ℕ) (xs : List A) → length (up_to unused k xs) ≡ k
  unfolding up_to
  up_to_long zero xs = refl
  up_to_long (suc k) [] = ap suc (up_to_long k [])
  up_to_long (suc k) (x ∷ xs) = ap suc (up_to_long k xs)

  pub up_to_at : (k : ℕ) (xs : List A) (i : ℕ) → i < k → get_or (up_to unused k xs) i unused ≡ get_or xs i unused
  unfolding up_to
  up_to_at zero xs i h = absurd (not-suc-le-zero h)
  up_to_at (suc k) [] zero h = refl
  up_to_at (suc k) [] (suc i) h = up_to_at k [] i (le_of_suc-le-suc h) ∙ nothing i
    where
      nothing : (i : ℕ) → get_or [] i unused ≡ unused
      nothing zero = refl
      nothing (suc i) = refl
  up_to_at (suc k) (x ∷ xs) zero h = refl
  up_to_at (suc k) (x ∷ xs) (suc i) h = up_to_at k xs i (le_of_suc-le-suc h)

  pub up_to_take : (k : ℕ) (xs : List A) → k ≤ length xs → up_to unused k xs ≡ take k xs
  unfolding up_to
  up_to_take zero xs h = refl
  up_to_take (suc k) [] h = absurd (not-suc-le-zero h)
  up_to_take (suc k) (x ∷ xs) h = ap (λ l. x ∷ l) (up_to_take k xs (le_of_suc-le-suc h))

  -- as many as stand in front
  pub up_to_front : (xs ys : List A) {k : ℕ} → length xs ≡ k → up_to unused k (xs ++ ys) ≡ xs
  unfolding up_to
  up_to_front xs ys e = rw (← e) (front xs)
    where
      front : (zs : List A) → up_to unused (length zs) (zs ++ ys) ≡ zs
      front [] = refl
      front (z ∷ zs) = ap (λ l. z ∷ l) (front zs)

  -- one element more, stored at the first unused place
  pub up_to_set : (k : ℕ) (xs : List A) (x : A) → k < length xs → up_to unused (k + 1) (set xs k x) ≡ up_to unused k xs ++ (x ∷ [])
  up_to_set k xs x h =
      rw (up_to_take (k + 1) (set xs k x) (rw (length-set xs k x) (omega arith)), up_to_take k xs (omega arith), add-one) (take-suc-set xs k x h)

  -- element k is one of the list
  pub at_member : (k : ℕ) (xs : List A) → k < length xs → Memᴰ (get_or xs k unused) xs
  at_member k [] h = absurd (not-suc-le-zero h)
  at_member zero (x ∷ xs) h = Memᴰ.head refl
  at_member (suc k) (x ∷ xs) h = Memᴰ.tail (at_member k xs (le_of_suc-le-suc h))

  -- an array is asked as far as it goes, and behind its end one unused element, which answers for the rest
  any_unused : (test : A → Bool) (k : ℕ) → (test unused || any test (up_to unused k [])) ≡ test unused
  unfolding up_to any
  any_unused test zero = or_none (test unused)
  any_unused test (suc k) = rw (any_unused test k) (or_same (test unused))

  any_there : (test : A → Bool) (n : ℕ) (xs : List A) → list_any test (take n xs) ≡ true → true ≡ any test (up_to unused n xs)
  unfolding up_to any
  any_there test zero xs e = absurd (false≢true e)
  any_there test (suc k) [] e = absurd (false≢true e)
  any_there test (suc k) (x ∷ xs) e = by_test (test x) (any_there test k xs) e
    where
      by_test : (b : Bool) → (list_any test (take k xs) ≡ true → true ≡ any test (up_to unused k xs))
          → (b || list_any test (take k xs)) ≡ true → true ≡ (b || any test (up_to unused k xs))
      by_test true go q = refl
      by_test false go q = go q

  any_within : (test : A → Bool) (n : ℕ) (xs : List A) → n ≤ length xs → list_any test (take n xs) ≡ any test (up_to unused n xs)
  unfolding up_to any
  any_within test zero xs h = refl
  any_within test (suc k) [] h = absurd (not-suc-le-zero h)
  any_within test (suc k) (x ∷ xs) h = ap (λ b. test x || b) (any_within test k xs (le_of_suc-le-suc h))

  any_beyond : (test : A → Bool) (n : ℕ) (xs : List A) → length xs < n → list_any test (take n xs) ≡ false → test unused ≡ any test (up_to unused n xs)
  unfolding up_to any
  any_beyond test zero xs h e = absurd (not-suc-le-zero h)
  any_beyond test (suc k) [] h e = sym (any_unused test k)
  any_beyond test (suc k) (x ∷ xs) h e = by_test (test x) (any_beyond test k xs (le_of_suc-le-suc h)) e
    where
      by_test : (b : Bool) → (list_any test (take k xs) ≡ false → test unused ≡ any test (up_to unused k xs))
          → (b || list_any test (take k xs)) ≡ false → test unused ≡ (b || any test (up_to unused k xs))
      by_test true go q = absurd (true≢false q)
      by_test false go q = go q

-- with the answer of a search through the array's first n
module _ {A : Type 0} (unused : A) (test : A → Bool) (n : ℕ) (xs : List A) {found : Bool} (e : found ≡ list_any test (take n xs)) where
  pub any_found : found ≡ true → found ≡ any test (up_to unused n xs)
  any_found h = h ∙ any_there unused test n xs (sym e ∙ h)

  pub any_behind : found ≡ false → length xs < n → {r : Bool} → r ≡ test unused → r ≡ any test (up_to unused n xs)
  any_behind h l q = q ∙ any_beyond unused test n xs l (sym e ∙ h)

  pub any_none : found ≡ false → n ≤ length xs → {r : Bool} → r ≡ false → r ≡ any test (up_to unused n xs)
  any_none h l q = q ∙ sym h ∙ e ∙ any_within unused test n xs l
