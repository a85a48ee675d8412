-- The bench behind an event, part by part.
use Prim.Native.Nat.{ℕ, ◌<◌, ◌≤◌}
use mathlib.Core.Path.{◌≡◌, refl, ◌∙◌}
use native.Mathlib.Omega.{arith}
use Rattle.std.specs.Prelude.{Ok}
use lib.ListN.{get_or, length, length-set, length-take, set}
use Rattle.cabling.specs.Cabling.{plugs_of, setup_of}
use Rattle.seat.specs.Seat.{with_setup}
use Rattle.flight.specs.Flight.{most, no_copy}
use Rattle.event.specs.declared.Event.{Event}
use Rattle.event.specs.declared.Event.TheVariants.{Present, Take, Link}
use Rattle.turn.specs.Turn.{head_of, presents, sets, steps, takes, turn_of}
use Rattle.turn.proofs.Laws.{turn_few}
use Rattle.bench.specs.declared.Bench.{Bench}
use Rattle.bench.specs.Bench.{in_flight, no_seat, seat_at}
use Rattle.bench.specs.Events.{event_of, turn_in}
use Rattle.bench.specs.Shape.{Sized}
use Rattle.bench.proofs.Following.{follow_at, follow_length}
use Rattle.bench.proofs.Lists.{padded_front, padded_length}

-- at most 512 are in flight of an array of 512
pub few_in_flight : (b : Bench) → Sized b → length (in_flight b) ≤ most
unfolding in_flight
few_in_flight b sized = omega (arith, length-take b.flying b.copies, sized.copies)

module _ (b : Bench) (e : Event) where
  -- the description stays
  pub event_network : (event_of b e).bench.network ≡ b.network
  unfolding event_of
  event_network = refl

  -- the answer is the turn's
  pub event_answer : (event_of b e).answer ≡ Ok (turn_in b e).done
  unfolding event_of
  event_answer = refl

  -- so are the links' states
  pub event_up : (event_of b e).bench.up ≡ (turn_in b e).up
  unfolding event_of
  event_up = refl

  -- and the copies in flight
  pub in_flight_after : in_flight (event_of b e).bench ≡ (turn_in b e).flying
  unfolding event_of in_flight
  in_flight_after = padded_front no_copy most (turn_in b e).flying

  pub flying_after : (event_of b e).bench.flying ≡ length (turn_in b e).flying
  unfolding event_of
  flying_after = refl

  -- a head has its setup, and what it had or its turn gave it
  pub seat_after : (k : ℕ) → k < length b.seats → k < b.network.nswitches
      → seat_at (event_of b e).bench k
      ≡ with_setup (setup_of b.network (plugs_of b.network) (turn_in b e).up k) (get_or (set b.seats (head_of b.network (in_flight b) e) (turn_in b e).seat) k no_seat)
  unfolding event_of seat_at
  seat_after k h l =
      let seats = set b.seats (head_of b.network (in_flight b) e) (turn_in b e).seat in
      follow_at b.network (turn_in b e).up seats k (rw length-set h) l

  -- its arrays are as long as their types say
  links_kept : length (turn_in b e).up ≡ length b.up
  unfolding turn_in turn_of presents takes steps sets
  links_kept = by_kind e
    where
      by_kind : (e : Event) → length (turn_of b.network b.up (seat_at b (head_of b.network (in_flight b) e)) (in_flight b) e).up ≡ length b.up
      by_kind (Present p) = refl
      by_kind (Take place) = refl
      by_kind (Link l) = length-set b.up l.link _

  pub event_sized : Sized b → Sized (event_of b e).bench
  unfolding event_of turn_in
  event_sized sized = record {
    up = links_kept ∙ sized.up;
    seats = follow_length b.network (turn_in b e).up 0 _ ∙ length-set b.seats _ (turn_in b e).seat ∙ sized.seats;
    copies = padded_length no_copy most (turn_in b e).flying
        (turn_few b.network b.up (seat_at b (head_of b.network (in_flight b) e)) (in_flight b) e (few_in_flight b sized));
  }
