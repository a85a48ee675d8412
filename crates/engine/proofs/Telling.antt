-- What an answer's number and values make of what was lent for them: refused it keeps what it held, accepted it holds the values.
use mathlib.Core.Path.{◌≡◌, refl, sym, ap}
use mathlib.Core.List.{List, [], ◌∷◌}
use Prim.Native.Nat.{ℕ, zero, suc}
use native.Mathlib.Omega.{arith}
use lib.ListN.{get_or, length}
use Rattle.refusal.specs.Refusal.{Told, answered, leaves}

-- an answer's number and values
abbrev pub tells : ℕ → List ℕ → Told
tells m ws = record { number = m; values = ws }

pub tells_number : (m n : ℕ) (vs ws : List ℕ) → tells m ws ≡ answered n vs → m ≡ n
tells_number m zero vs ws e = ap (λ (t : Told). t.number) e
tells_number m (suc n) vs ws e = ap (λ (t : Told). t.number) e

-- a refusal has no values, and an accepted call has some
pub tells_kept : {A : Type 0} (m n : ℕ) (vs : List ℕ) (old new : A) → (length vs ≡ 0 → ⊥) → tells m [] ≡ answered n vs → old ≡ leaves n old new
tells_kept m zero vs old new some e = absurd (some (sym (ap (λ (t : Told). length t.values) e)))
tells_kept m (suc n) vs old new some e = refl

-- a single value goes into a reference
pub tells_one : (n x y old : ℕ) → tells 0 (x ∷ []) ≡ answered n (y ∷ []) → x ≡ leaves n old y
tells_one zero x y old e = ap (λ (t : Told). get_or t.values 0 0) e
tells_one (suc n) x y old e = let z : 0 ≡ suc n = ap (λ (t : Told). t.number) e in absurd (omega (arith, z))
