-- Zero counters and the public event have one outcome: the answer, the bench and the lent counters.
use mathlib.Core.Path.{◌≡◌}
use Rattle.refusal.specs.OneOutcome.{OneOutcome}
use Rattle.refusal.proofs.Outcomes.{one_outcome, beside, plain}
use Rattle.event.specs.declared.Event.{Event}
use Rattle.turn.specs.Turn.{Answer}
use Rattle.turn.proofs.Laws.{told_apart}
use Rattle.bench.specs.declared.Bench.{Bench}
use Rattle.counters.specs.Counters.{no_counts}
use Rattle.counters.specs.Event.{Happens}
use Rattle.counters.specs.declared.Counters.{Counters}

pub zero_has_one_outcome : OneOutcome (λ (r : Counters). r ≡ no_counts)
zero_has_one_outcome = one_outcome plain (λ r p. p)

pub event_has_one_outcome : (b : Bench) (c : Counters) (e : Event) → OneOutcome (λ (o : Answer × (Bench × Counters)). Happens b c e o.0 o.1.0 o.1.1)
event_has_one_outcome b c e = one_outcome (beside told_apart) (λ o p i. (p.answer i, (p.bench i, p.counters i)))
