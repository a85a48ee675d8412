-- A step's contract has one outcome: the answer, the switch, the filter and the output.
use mathlib.Core.List.{List}
use Prim.Native.Nat.{ℕ}
use lib.ListN.{length}
use Rattle.std.specs.Prelude.{Result}
use Rattle.refusal.specs.OneOutcome.{OneOutcome}
use Rattle.refusal.specs.declared.Refusal.{Refusal}
use Rattle.refusal.proofs.Outcomes.{one_outcome, beside}
use Rattle.head.specs.Step.{Steps, refusal}
use Rattle.rules.specs.declared.Report.{Report}
use Rattle.head.specs.declared.Switch.{Switch}
use Rattle.head.proofs.Laws.{told_apart}

pub step_has_one_outcome : (s : Switch) (f : List ℕ) (port : ℕ) (frame out : List ℕ)
    → OneOutcome (λ (o : Result Report Refusal × (Switch × List ℕ × List ℕ)). Steps (refusal s f port frame (length out)) s f port frame out o.0 o.1.0 o.1.1 o.1.2)
step_has_one_outcome s f port frame out = one_outcome (beside told_apart) (λ o p i. (p.told i, (p.switch i, p.filter i, p.output i)))
