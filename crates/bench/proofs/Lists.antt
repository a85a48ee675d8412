-- Arrays: what stands at a place, and a list that fills one from its start.
use Prim.Native.Nat.{ℕ, zero, suc, ◌-◌, ◌<◌, ◌≤◌}
use mathlib.Core.Path.{◌≡◌, refl}
use mathlib.Core.List.{List, [], ◌∷◌}
use native.Mathlib.Omega.{arith}
use lib.ListN.{get_or, length, length-append, length-replicate, replicate, take}
use lib.Seq.{take-append_seam}
use Rattle.network.specs.Network.{padded}

module _ {A : Type 0} where
  -- what stands at a place that there is doesn't hang on what stands for the others
  pub same_there : (xs : List A) (k : ℕ) (d e : A) → k < length xs → get_or xs k d ≡ get_or xs k e
  same_there [] k d e h = absurd (omega arith)
  same_there (x ∷ xs) zero d e h = refl
  same_there (x ∷ xs) (suc k) d e h = same_there xs k d e (omega arith)

  -- an array of m places, whatever fills its start
  pub padded_length : (d : A) (m : ℕ) (xs : List A) → length xs ≤ m → length (padded d m xs) ≡ m
  padded_length d m xs h = simp (length-append, length-replicate) (omega arith)

  pub padded_front : (d : A) (m : ℕ) (xs : List A) → take (length xs) (padded d m xs) ≡ xs
  padded_front d m xs = take-append_seam xs (replicate (m - length xs) d)
