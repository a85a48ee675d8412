-- Runs from a fresh bench, their history, and what the counters are by it. Each statement is a type; proofs/Laws has its term, under the same name in lower case.
use Rattle.std.specs.Prelude.{ℕ, ◌+◌, ◌≡◌, ◌≢◌, List, [], ◌∷◌, length}
use Rattle.network.specs.declared.Network.{Network}
use Rattle.network.specs.Checks.{network_fault}
use Rattle.event.specs.declared.Event.{Event}
use Rattle.turn.specs.Turn.{Answer}
use Rattle.bench.specs.declared.Bench.{Bench}
use Rattle.bench.specs.Bench.{fresh_bench, in_flight}
use Rattle.bench.specs.Shape.{InShape}
use Rattle.bench.specs.Kept.{Truly}
use Rattle.counters.specs.Counters.{CountersFit, accepted_by, cut_by, delivered_by, lost_by, no_counts, overwritten_by, placed_by, taken_by}
use Rattle.counters.specs.Event.{Outcome, event_refusal, happens_of}
use Rattle.counters.specs.declared.Counters.{Counters}

-- ---- Runs

-- a bench and the counters that its caller lends
pub record State : Type 0 where
  pub bench : Bench
  pub counters : Counters

-- the fresh bench, all counters 0
abbrev pub fresh_state : Network → State
fresh_state n = record { bench = fresh_bench n; counters = no_counts }

-- what the event gives at a state
abbrev pub happens_at : State → Event → Outcome
happens_at s e = happens_of s.bench e s.counters

-- the state behind an event
unfoldable pub after : State → Event → State
after s e = record { bench = (happens_at s e).happened.bench; counters = (happens_at s e).counters }

-- the state behind a list of events, each given what the one before left
unfoldable pub run_of : State → List Event → State
run_of s [] = s
run_of s (e ∷ es) = run_of (after s e) es

-- some accepted description, the fresh bench with all counters 0, and some list of events lead there
pub record Reachable (s : State) : Type 0 where
  pub network : Network
  pub accepted : network_fault network ≡ 0
  pub events : List Event
  pub leads : run_of (fresh_state network) events ≡ s

-- ---- The history

-- an event and what it answered
pub record Moment : Type 0 where
  pub event : Event
  pub answer : Answer

-- the events of a run with their answers
unfoldable pub history_of : State → List Event → List Moment
history_of s [] = []
history_of s (e ∷ es) = record { event = e; answer = (happens_at s e).happened.answer } ∷ history_of (after s e) es

-- the sum of what each moment adds
unfoldable pub total : (Moment → ℕ) → List Moment → ℕ
total adds [] = 0
total adds (m ∷ ms) = adds m + total adds ms

-- each counter by the history
unfoldable pub counters_by : List Moment → Counters
counters_by h =
    record {
      placed = total (λ m. placed_by m.answer) h;
      taken = total (λ m. taken_by m.event m.answer) h;
      cut = total (λ m. cut_by m.answer) h;
      lost = total (λ m. lost_by m.answer) h;
      delivered = total (λ m. delivered_by m.answer) h;
      overwritten = total (λ m. overwritten_by m.answer) h;
      accepted = total (λ m. accepted_by m.answer) h;
    }

-- ---- What holds in every run from a fresh bench

-- the counters are what the history says
abbrev pub CountersByHistory : Type 0
CountersByHistory = (n : Network) (es : List Event) → (run_of (fresh_state n) es).counters ≡ counters_by (history_of (fresh_state n) es)

-- placed equals taken plus cut plus those in flight
abbrev pub PlacedIsAccountedFor : Type 0
PlacedIsAccountedFor =
    (s : State) → Reachable s → s.counters.placed ≡ s.counters.taken + s.counters.cut + length (in_flight s.bench)

-- bench and counters are in shape, so that 28 never arises
abbrev pub StaysInShape : Type 0
StaysInShape = (s : State) → Reachable s → InShape s.bench × CountersFit s.bench.flying s.counters × ((e : Event) → event_refusal s.bench s.counters e ≢ 28)

-- at every accepted event the head steps by demand 2's public step
abbrev pub EveryStepIsTrue : Type 0
EveryStepIsTrue = (s : State) → Reachable s → (e : Event) → event_refusal s.bench s.counters e ≡ 0 → Truly s.bench e (happens_at s e).happened
