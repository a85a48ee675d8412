-- Document 01, "Refusal numbers", of the public event: it is refused with n exactly when cause n holds and none before it, and what each cause is in words.
-- Each statement is a type; proofs/Causes has its term, under the same name in lower case.
use Rattle.std.specs.Prelude.{ℕ, ◌<◌, ◌≤◌, ◌≡◌, ◌⊎◌, List, [], ◌∷◌}
use Rattle.refusal.specs.Exact.{ForItsCauseOnly, InWords, Listed, listed}
use Rattle.wire.specs.Address.{address_bound}
use Rattle.network.specs.declared.Network.{Network}
use Rattle.table.specs.Table as table
use Rattle.event.specs.declared.Event.{Event}
use Rattle.event.specs.declared.Event.TheVariants.{Present, Take, Link}
use Rattle.event.specs.Event.{address_of}
use Rattle.bench.specs.declared.Bench.{Bench}
use Rattle.bench.specs.Bench.{seat_at}
use Rattle.bench.specs.Shape.{InShape, Sized}
use Rattle.counters.specs.Counters.{CountersFit}
use Rattle.counters.specs.Event.{event_causes, event_refusal, most_events}
use Rattle.counters.specs.declared.Counters.{Counters}

abbrev pub HappensForItsCauseOnly : Type 0
HappensForItsCauseOnly = (b : Bench) (c : Counters) (e : Event) → ForItsCauseOnly (event_refusal b c e) (event_causes b c e)

-- no such host; destination zero, or of more than six bytes; no such copy; no such link, or its state not 0 or 1
abbrev pub own_words : Network → ℕ → Event → List Listed
own_words n flying (Present e) = listed 30 (n.nhosts ≤ e.host) ∷ listed 31 ((address_of e.to ≡ 0) ⊎ (address_bound ≤ address_of e.to)) ∷ []
own_words n flying (Take place) = listed 32 (flying ≤ place) ∷ []
own_words n flying (Link e) = listed 33 ((n.nlinks ≤ e.link) ⊎ (2 ≤ e.state)) ∷ []

-- 1,000,000 events already accepted; bench or counters out of shape; then the event's own
abbrev pub event_words : Bench → Counters → Event → List Listed
event_words b c e =
    listed 34 (most_events ≤ c.accepted)
    ∷ listed 28 (InShape b → ⊥)
    ∷ listed 28 (CountersFit b.flying c → ⊥)
    ∷ own_words b.network b.flying e

-- a bench's arrays are as long as their types say, and so are those of each head's table
abbrev pub EventCausesInWords : Type 0
EventCausesInWords =
    (b : Bench) (c : Counters) (e : Event) → Sized b → ((k : ℕ) → k < b.network.nswitches → table.Sized (seat_at b k).switch.table)
    → InWords (event_causes b c e) (event_words b c e)
