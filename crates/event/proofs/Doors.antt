-- Reading an event has one outcome: the answer.
use mathlib.Core.Path.{◌≡◌}
use mathlib.Core.List.{List}
use Prim.Native.Nat.{ℕ}
use lib.ListN.{drop}
use Rattle.refusal.specs.OneOutcome.{OneOutcome}
use Rattle.refusal.proofs.Outcomes.{one_outcome}
use Rattle.std.specs.Prelude.{Result}
use Rattle.refusal.specs.Number.{told}
use Rattle.refusal.specs.declared.Refusal.{Refusal}
use Rattle.event.specs.declared.Event.{Event}
use Rattle.event.specs.Event.{event_values, read_answer}
use Rattle.event.proofs.Laws.{told_apart}

pub read_event_has_one_outcome : (input : List ℕ) (at : ℕ) → OneOutcome (λ (r : Result Event Refusal). told event_values r ≡ read_answer (drop at input))
read_event_has_one_outcome input at = one_outcome told_apart (λ r p. p)
