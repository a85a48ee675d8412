-- The public event takes the first of its causes, and each cause is a test that says what its words say.
use Prim.Native.Nat.{ℕ}
use mathlib.Core.Path.{refl}
use Rattle.refusal.specs.Exact.{InWords}
use Rattle.refusal.proofs.Laws.{for_its_cause_only}
use Rattle.refusal.proofs.Words.{at_most, either, equal, is_not}
use Rattle.wire.specs.Address.{address_bound}
use Rattle.network.specs.declared.Network.{Network}
use Rattle.event.specs.declared.Event.{Event}
use Rattle.event.specs.declared.Event.TheVariants.{Present, Take, Link}
use Rattle.event.specs.Event.{address_of}
use Rattle.turn.specs.Turn.{own_causes}
use Rattle.bench.proofs.Laws.{tested_both_ways}
use Rattle.counters.specs.Event.{event_causes, event_refusal, most_events}
use Rattle.counters.specs.Causes.{EventCausesInWords, HappensForItsCauseOnly, own_words}
use Rattle.counters.proofs.Laws.{counters_tested}

pub happens_for_its_cause_only : HappensForItsCauseOnly
unfolding event_refusal
happens_for_its_cause_only b c e = for_its_cause_only (event_causes b c e)

own_in_words : (n : Network) (flying : ℕ) (e : Event) → InWords (own_causes n flying e) (own_words n flying e)
own_in_words n flying (Present e) =
    (refl, at_most n.nhosts e.host, (refl, either (equal (address_of e.to) 0) (at_most address_bound (address_of e.to)), tt))
own_in_words n flying (Take place) = (refl, at_most flying place, tt)
own_in_words n flying (Link e) = (refl, either (at_most n.nlinks e.link) (at_most 2 e.state), tt)

pub event_causes_in_words : EventCausesInWords
event_causes_in_words b c e sized tables = (
  refl,
  at_most most_events c.accepted,
  (
    refl,
    is_not (tested_both_ways b sized tables),
    (refl, is_not (counters_tested b.flying c), own_in_words b.network b.flying e),
  ),
)
