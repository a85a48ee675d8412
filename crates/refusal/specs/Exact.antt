-- What "for the listed cause only" says of a list of causes.
use Rattle.std.specs.Prelude.{ℕ, ◌<◌, ◌≡◌, ◌↔◌, ◌⊎◌, true, false, List, [], ◌∷◌, ◌++◌}
use Rattle.refusal.specs.Refusal.{Cause, when}

-- none of the causes holds
abbrev pub NoneHolds : List Cause → Type 0
NoneHolds [] = Unit {0}
NoneHolds (c ∷ cs) = (c.holds ≡ false) × NoneHolds cs

-- the numbers are numbers of refusals: 0 is none
abbrev pub Numbered : List Cause → Type 0
Numbered [] = Unit {0}
Numbered (c ∷ cs) = (c.number ≡ 0 → ⊥) × Numbered cs

-- cause n holds, and none that stands before it does
pub record Decides (n : ℕ) (cs : List Cause) : Type 0 where
  pub before : List Cause
  pub behind : List Cause
  pub listed : cs ≡ before ++ (when n true ∷ behind)
  pub none_before : NoneHolds before

-- of the number that a call has: it is n, refused, exactly when cause n holds and none before it; 0, accepted, exactly when none holds
pub record ForItsCauseOnly (number : ℕ) (cs : List Cause) : Type 0 where
  pub refused : (n : ℕ) → (n ≡ 0 → ⊥) → number ≡ n → Decides n cs
  pub decided : (n : ℕ) → Decides n cs → number ≡ n
  pub accepted : NoneHolds cs → number ≡ 0
  pub only_then : Numbered cs → number ≡ 0 → NoneHolds cs

-- ---- What the causes are, in words

-- a refusal number, and what it is listed for
pub record Listed : Type 1 where
  pub number : ℕ
  pub So : Type 0

abbrev pub listed : ℕ → Type 0 → Listed
listed n so = record { number = n; So = so }

-- a number isn't lo..hi
abbrev pub Outside : ℕ → ℕ → ℕ → Type 0
Outside lo hi n = (n < lo) ⊎ (hi < n)

-- the causes are those listed, in that order, and each holds exactly where what it is listed for is so
abbrev pub InWords : List Cause → List Listed → Type 0
InWords [] [] = Unit {0}
InWords [] (w ∷ ws) = ⊥
InWords (c ∷ cs) [] = ⊥
InWords (c ∷ cs) (w ∷ ws) = (c.number ≡ w.number) × ((c.holds ≡ true) ↔ w.So) × InWords cs ws
