-- Why a contract has one outcome: its equations say what the outcome reads as, and the reading tells outcomes apart.
use mathlib.Core.Path.{◌≡◌, sym, ap, ◌∙◌}
use Rattle.refusal.specs.OneOutcome.{OneOutcome, TellsApart}

-- a contract of equations has one outcome
pub one_outcome : {A B : Type 0} {Contract : A → Type 0} {read : A → B} {v : B} → TellsApart read → ((a : A) → Contract a → read a ≡ v) → OneOutcome Contract
one_outcome apart equations a b p q = apart a b (equations a p ∙ sym (equations b q))

-- what is read as it is
pub plain : {A : Type 0} → TellsApart (λ (a : A). a)
plain a b e = e

-- an answer through its reading, and beside it what is read as it is
pub beside : {A B C : Type 0} {read : A → B} → TellsApart read → TellsApart {B = B × C} (λ (x : A × C). (read x.0, x.1))
beside {A} {B} {C} apart x y e = let l = apart x.0 y.0 (ap (λ (z : B × C). z.0) e) in λ i. (l i, (e i).1)
