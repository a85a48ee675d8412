-- What callers cite of a bench: the theorems of specs/Kept, and what an event leaves.
use Prim.Native.Nat.{ℕ, ◌+◌, ◌<◌}
use mathlib.Core.Path.{◌≡◌, refl, ◌∙◌}
use mathlib.Core.Bool.{true}
use native.Mathlib.Omega.{arith}
use lib.ListN.{get_or, length, length-replicate, get_or-append}
use Rattle.wire.proofs.Below.{each_below}
use Rattle.network.specs.declared.Network.{Network}
use Rattle.network.specs.Network.{most_links, most_switches}
use Rattle.network.specs.Checks.{network_fault}
use Rattle.cabling.specs.Cabling.{plugs_of, setup_of}
use Rattle.cabling.proofs.Laws.{setup_sound}
use Rattle.seat.specs.Seat.{fresh_seat}
use Rattle.seat.proofs.Laws.{fresh_formed}
use Rattle.flight.specs.Flight.{most, no_copy}
use Rattle.flight.proofs.Laws.{all_none}
use Rattle.event.specs.declared.Event.{Event}
use Rattle.turn.specs.declared.Report.{Report}
use Rattle.std.specs.Prelude.{Ok}
use Rattle.turn.specs.declared.Done.TheVariants.{Stepped}
use Rattle.turn.specs.Fits.{SeatFits}
use Rattle.turn.specs.Turn.{Answers, Small, come, gone, head_of}
use Rattle.turn.proofs.Laws.{turn_accepts, turn_count, turn_small}
use Rattle.bench.specs.declared.Bench.{Bench}
use Rattle.bench.specs.Bench.{all_up, fresh_bench, fresh_heads, in_flight, no_seat, seat_at}
use Rattle.bench.specs.Shape.{Accepted, Sized, seat_fits}
use Rattle.bench.specs.Events.{event_of, turn_in}
use Rattle.bench.specs.Kept.{AlreadySo, EachIsTheStep, FreshInShape, HeadsFollow, KeepsShape, NothingElseChanges, TestedBothWays}
use Rattle.bench.proofs.Described.{few_switches}
use Rattle.bench.proofs.Heads.{heads_at, heads_length}
use Rattle.bench.proofs.Keeping as keeping
use Rattle.bench.proofs.Keeping.{free, kept, lawful, stays, steps_truly}
use Rattle.bench.proofs.Lists.{padded_length}
use Rattle.bench.proofs.Tested.{found_in_shape, passes_in_shape, seat_found}
pub use Rattle.bench.proofs.After.{event_answer, event_network, event_sized, event_up, few_in_flight, flying_after, in_flight_after, seat_after}
pub use Rattle.bench.proofs.Following.{follow_again, follow_at, follow_length}

-- ---- In shape

pub tested_both_ways : TestedBothWays
unfolding seat_at
tested_both_ways b sized tables = (
  found_in_shape b sized (λ e k h.
      seat_found b.network b.up k (get_or b.seats k no_seat) (tables k h)
      (each_below (λ j. seat_fits b.network b.up j (get_or b.seats j no_seat)) b.network.nswitches e k h)),
  passes_in_shape b sized,
)

-- ---- Fresh

-- head k of a fresh bench is fresh
pub fresh_seat_lem : (n : Network) (k : ℕ) → k < n.nswitches → seat_at (fresh_bench n) k ≡ fresh_seat (setup_of n (plugs_of n) all_up k)
unfolding fresh_bench seat_at
fresh_seat_lem n k h =
    get_or-append (fresh_heads n all_up n.nswitches) _ no_seat k (omega (arith, heads_length n all_up n.nswitches))
    ∙ heads_at n all_up n.nswitches k h no_seat

fresh_fits : (n : Network) → network_fault n ≡ 0 → (k : ℕ) → k < n.nswitches → SeatFits n all_up k (fresh_seat (setup_of n (plugs_of n) all_up k))
unfolding fresh_seat
fresh_fits n fine k h = record { setup = refl; formed = fresh_formed (lawful (setup_sound n fine (plugs_of n) all_up k h)) }

pub fresh_in_shape : FreshInShape
unfolding fresh_bench in_flight
fresh_in_shape n fine = record {
  described = fine;
  seats = λ k h. rw (fresh_seat_lem n k h) (fresh_fits n fine k h);
  few = omega arith;
  copies = all_none;
}

-- a fresh bench's arrays are as long as their types say
pub fresh_sized : (n : Network) → network_fault n ≡ 0 → Sized (fresh_bench n)
unfolding fresh_bench
fresh_sized n fine = record {
  up = length-replicate most_links true;
  seats = padded_length no_seat most_switches (fresh_heads n all_up n.nswitches) (omega (arith, heads_length n all_up n.nswitches, few_switches n fine));
  copies = length-replicate most no_copy;
}

-- ---- An event

pub keeps_shape : KeepsShape
keeps_shape b e sized ok = kept b e sized ok

pub each_is_the_step : EachIsTheStep
each_is_the_step b e sized ok = steps_truly b sized e ok

pub nothing_else_changes : NothingElseChanges
nothing_else_changes b e sized ok = stays b sized e ok

pub heads_follow : HeadsFollow
heads_follow b l sized ok = keeping.heads_follow b sized l ok

pub already_so : AlreadySo
already_so b l sized ok = keeping.already_so b sized l ok

module _ (b : Bench) (e : Event) where
  -- those in flight and those that come are those then in flight and those that went
  pub event_count : Sized b → Accepted b e
      → length (in_flight b) + come (event_of b e).answer ≡ length (in_flight (event_of b e).bench) + gone e (event_of b e).answer
  unfolding event_of turn_in
  event_count sized ok = rw (in_flight_after b e) (turn_count b.network b.up (seat_at b (head_of b.network (in_flight b) e)) (in_flight b) e (free b e sized ok))

  -- an accepted event is answered, and not refused
  pub event_accepts : Answers e (event_of b e).answer
  unfolding event_of turn_in
  event_accepts = turn_accepts b.network b.up (seat_at b (head_of b.network (in_flight b) e)) (in_flight b) e

  -- a step's report is small
  pub event_small : (r : Report) → (event_of b e).answer ≡ Ok (Stepped r) → Small r
  unfolding event_of turn_in
  event_small r q = turn_small b.network b.up (seat_at b (head_of b.network (in_flight b) e)) (in_flight b) e r cc
