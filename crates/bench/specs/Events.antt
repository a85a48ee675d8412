-- What an accepted event does to a bench: the head whose turn it is takes it, and all heads follow the links' states.
use Rattle.std.specs.Prelude.{ℕ, ◌+◌, Bool, cond, List, [], ◌∷◌, Ok, ltb, set, length}
use Rattle.network.specs.declared.Network.{Network}
use Rattle.network.specs.Network.{padded}
use Rattle.cabling.specs.Cabling.{plugs_of, setup_of}
use Rattle.seat.specs.declared.Seat.{Seat}
use Rattle.seat.specs.Seat.{with_setup}
use Rattle.flight.specs.Flight.{most, no_copy}
use Rattle.event.specs.declared.Event.{Event}
use Rattle.turn.specs.Turn.{Answer, Turn, head_of, turn_of}
use Rattle.bench.specs.Bench.{bench_of, in_flight, seat_at}
use Rattle.bench.specs.declared.Bench.{Bench}

-- what an event answers, and the bench that it leaves
pub record Happened : Type 0 where
  pub bench : Bench
  pub answer : Answer

-- of these
abbrev pub happened_as : Bench → Answer → Happened
happened_as b a = record { bench = b; answer = a }

-- the heads from number k on: ports, limit, salt and masks follow from description and link states
unfoldable pub follow : Network → List Bool → ℕ → List Seat → List Seat
follow n up k [] = []
follow n up k (s ∷ ss) = cond (ltb k n.nswitches) (with_setup (setup_of n (plugs_of n) up k) s) s ∷ follow n up (k + 1) ss

-- head k has taken its turn; places behind the copies in flight are empty
abbrev pub turned : Bench → ℕ → Turn → Happened
turned b k t =
    record {
      bench = bench_of b.network t.up (follow b.network t.up 0 (set b.seats k t.seat)) (padded no_copy most t.flying) (length t.flying);
      answer = Ok t.done;
    }

-- the turn of the head whose turn it is
unfoldable pub turn_in : Bench → Event → Turn
turn_in b e = turn_of b.network b.up (seat_at b (head_of b.network (in_flight b) e)) (in_flight b) e

-- the bench that an accepted event leaves, and its answer
unfoldable pub event_of : Bench → Event → Happened
event_of b e = turned b (head_of b.network (in_flight b) e) (turn_in b e)
