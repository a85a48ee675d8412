-- Document 01, "Refusal numbers": a call checks its causes in a fixed order, and the first that holds decides.
-- All of it is the interface that contracts cite.
use Rattle.std.specs.Prelude.{ℕ, zero, suc, Bool, cond, ◌||◌, List, [], ◌∷◌, ltb}

-- a refusal number, and whether what it is listed for is so
pub record Cause : Type 0 where
  pub number : ℕ
  pub holds : Bool

-- number n, when what it is listed for is so
abbrev pub when : ℕ → Bool → Cause
when n b = record { number = n; holds = b }

-- the number of the first cause that holds, 0 when none does
abbrev pub first : List Cause → ℕ
first [] = 0
first (c ∷ cs) = cond c.holds c.number (first cs)

-- what an answer tells: its refusal number, 0 for none, and its values
pub record Told : Type 0 where
  pub number : ℕ
  pub values : List ℕ

-- the answer of a call: its values, unless it is refused; a refusal carries the number alone
abbrev pub answered : ℕ → List ℕ → Told
answered zero vs = record { number = 0; values = vs }
answered (suc n) vs = record { number = suc n; values = [] }

-- what a call leaves of a state or a buffer: as it was where the call is refused, else the new one
abbrev pub leaves : {A : Type 0} → ℕ → A → A → A
leaves zero old new = new
leaves (suc n) old new = old

-- a number that isn't lo..hi
abbrev pub outside : ℕ → ℕ → ℕ → Bool
outside lo hi n = ltb n lo || ltb hi n
