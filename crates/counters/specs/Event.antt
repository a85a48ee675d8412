-- Document 01, "The bench": the public event. It checks 34, then 28, then its own causes by number; a refused event changes neither bench nor counters.
use Rattle.std.specs.Prelude.{ℕ, ◌<◌, ◌≡◌, cond, not, List, ◌∷◌, Result, Ok, Err, eqb, leb}
use Rattle.refusal.specs.Refusal.{Cause, answered, first, leaves, when}
use Rattle.refusal.specs.declared.Refusal.{Refusal}
use Rattle.refusal.specs.declared.Refusal.TheVariants.{NoSuchCopy, NoSuchHost, NoSuchLink, OutOfShape, ToNobody, TooManyEvents}
use Rattle.event.specs.declared.Event.{Event}
use Rattle.turn.specs.Turn.{Answer, answer_values, own_causes, told}
use Rattle.bench.specs.declared.Bench.{Bench}
use Rattle.bench.specs.Events.{Happened, event_of, happened_as}
use Rattle.bench.specs.Shape.{Accepted, in_shape}
use Rattle.counters.specs.Counters.{CountersFit, counted, counters_fit}
use Rattle.counters.specs.declared.Counters.{Counters}
use Rattle.counters.specs.declared.Counted.{Counted}

-- so many events are accepted, and no more
abbrev pub most_events : ℕ
most_events = 1_000_000

-- 34: 1,000,000 events already accepted. 28: bench or counters out of shape. Then the event's own, 30 to 33.
abbrev pub event_causes : Bench → Counters → Event → List Cause
event_causes b c e =
    when 34 (leb most_events c.accepted)
    ∷ when 28 (not (in_shape b))
    ∷ when 28 (not (counters_fit b.flying c))
    ∷ own_causes b.network b.flying e

unfoldable pub event_refusal : Bench → Counters → Event → ℕ
event_refusal b c e = first (event_causes b c e)

-- the refusal that one of these numbers stands for
abbrev pub refusal_numbered : ℕ → Refusal
refusal_numbered n =
    cond (eqb n 34) TooManyEvents
    (cond (eqb n 28) OutOfShape (cond (eqb n 30) NoSuchHost (cond (eqb n 31) ToNobody (cond (eqb n 32) NoSuchCopy NoSuchLink))))

-- what an event leaves of a bench and of counters, and its answer
pub record Outcome : Type 0 where
  pub happened : Happened
  pub counters : Counters

-- refused with n or, where n is 0, accepted
abbrev pub happens_by : ℕ → Bench → Event → Counters → Outcome
happens_by n b e c =
    record {
      happened = record { bench = leaves n b (event_of b e).bench; answer = leaves n (Err (refusal_numbered n)) (event_of b e).answer };
      counters = leaves n c (counted c e (event_of b e).answer);
    }

-- the event on counters by value
unfoldable pub happens_of : Bench → Event → Counters → Outcome
happens_of b e c = happens_by (event_refusal b c e) b e c

-- what the code has in hand behind an event on counters by value: the bench, and the counters where it is accepted
abbrev pub happens_as : Bench → Counters → Result Counted Refusal → Outcome
happens_as b c (Ok r) = record { happened = happened_as b (Ok r.done); counters = r.counters }
happens_as b c (Err n) = record { happened = happened_as b (Err n); counters = c }

-- what the public event promises: the answer's number and values, the bench and the counters
pub record Happens (b : Bench) (c : Counters) (e : Event) (a : Answer) (b' : Bench) (c' : Counters) : Type 0 where
  pub answer : told a ≡ answered (event_refusal b c e) (answer_values (event_of b e).answer)
  pub bench : b' ≡ leaves (event_refusal b c e) b (event_of b e).bench
  pub counters : c' ≡ leaves (event_refusal b c e) c (counted c e (event_of b e).answer)

-- ---- A word of the code

-- what is known of an event that nothing refuses
pub record Passes (b : Bench) (c : Counters) (e : Event) : Type 0 where
  pub accepted : Accepted b e
  pub counters : CountersFit b.flying c
  pub early : c.accepted < most_events
