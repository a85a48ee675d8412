-- What an accepted event answers: it counts once, a step sends to at most 8 ports, and every copy that comes or goes is counted.
use Prim.Native.Nat.{◌+◌, ◌≤◌}
use mathlib.Core.Path.{◌≡◌, refl, ap}
use native.Mathlib.Omega.{arith}
use lib.ListN.{length}
use lib.Seq.{length-take-le}
use Rattle.std.specs.Prelude.{Ok, Err}
use Rattle.frame.proofs.Laws.{bit_small}
use Rattle.event.specs.declared.Event.{Event}
use Rattle.event.specs.declared.Event.TheVariants.{Present, Take, Link}
use Rattle.turn.specs.declared.Done.TheVariants.{Stepped, Linked}
use Rattle.turn.specs.declared.Report.{Report}
use Rattle.turn.specs.Turn.{Answer, Answers, Small, come, gone}
use Rattle.bench.specs.declared.Bench.{Bench}
use Rattle.bench.specs.Bench.{in_flight}
use Rattle.bench.specs.Events.{event_of}
use Rattle.bench.specs.Shape.{Accepted, InShape, Sized}
use Rattle.bench.proofs.Laws.{event_accepts, event_count, event_sized, event_small, keeps_shape}
use Rattle.counters.specs.Counters.{accepted_by, adds, counted, cut_by, delivered_by, lost_by, overwritten_by, placed_by, plus, taken_by}
use Rattle.counters.specs.declared.Counters.{Counters}

-- ---- Whatever the answer

-- an event counts once at most
pub at_most_one : (c : Counters) (e : Event) (a : Answer) → (counted c e a).accepted ≤ c.accepted + 1
unfolding adds plus
at_most_one c e (Err n) = omega arith
at_most_one c e (Ok (Stepped r)) = omega arith
at_most_one c e (Ok (Linked cut)) = omega arith

-- and overwrites once at most
pub one_overwritten : (a : Answer) → overwritten_by a ≤ 1
one_overwritten (Err n) = omega arith
one_overwritten (Ok (Stepped r)) = bit_small r.overwrote
one_overwritten (Ok (Linked cut)) = omega arith

-- ---- An accepted event's

-- it counts once
one_accepted : (e : Event) (a : Answer) → Answers e a → accepted_by a ≡ 1
one_accepted (Present p) a (r, q) = ap accepted_by q
one_accepted (Take place) a (r, q) = ap accepted_by q
one_accepted (Link s) a (cut, q) = ap accepted_by q

-- those that go are taken or cut, and those that come are placed
gone_as : (e : Event) (a : Answer) → Answers e a → gone e a ≡ taken_by e a + cut_by a
gone_as (Present p) a (r, q) = rw q
gone_as (Take place) a (r, q) = rw q
gone_as (Link s) a (cut, q) = rw q (omega arith)

come_as : (a : Answer) → come a ≡ placed_by a
come_as (Err n) = refl
come_as (Ok (Stepped r)) = refl
come_as (Ok (Linked cut)) = refl

-- a step sends to at most 8 ports
few : (a : Answer) → ((r : Report) → a ≡ Ok (Stepped r) → Small r) → (placed_by a + lost_by a ≤ 8) × (delivered_by a ≤ 8)
few (Err n) small = (omega arith, omega arith)
few (Ok (Stepped r)) small = ((small r refl).copies, (small r refl).hosts)
few (Ok (Linked cut)) small = (omega arith, omega arith)

-- the list of a bench in shape is as long as its count says
pub in_flight_long : {b : Bench} → Sized b → InShape b → length (in_flight b) ≡ b.flying
unfolding in_flight
in_flight_long {b} sized shape = length-take-le b.flying b.copies (omega (arith, sized.copies, shape.few))

module _ (b : Bench) (e : Event) where
  pub counts_one : accepted_by (event_of b e).answer ≡ 1
  counts_one = one_accepted e (event_of b e).answer (event_accepts b e)

  pub few_sent : (placed_by (event_of b e).answer + lost_by (event_of b e).answer ≤ 8) × (delivered_by (event_of b e).answer ≤ 8)
  few_sent = few (event_of b e).answer (event_small b e)

  -- those in flight and those placed are those then in flight, those taken and those cut
  pub balance : Sized b → Accepted b e
      → b.flying + placed_by (event_of b e).answer ≡ (event_of b e).bench.flying + taken_by e (event_of b e).answer + cut_by (event_of b e).answer
  balance sized ok =
      omega (
        arith,
        event_count b e sized ok,
        in_flight_long sized ok.shape,
        in_flight_long (event_sized b e sized) (keeps_shape b e sized ok),
        gone_as e (event_of b e).answer (event_accepts b e),
        come_as (event_of b e).answer,
      )
