-- All heads passed so far fit, and what that means of each.
use lib.ListN.{get_or}
use Rattle.turn.specs.Fits.{SeatFits}
use Rattle.bench.specs.Bench.{no_seat}
use Rattle.bench.specs.Shape.{seat_fits}
use Rattle.bench.proofs.Tested.{Passing}
use Rattle.bench.proofs.shape.seats_fit.Given as goal

abbrev pub invariant-loop-k : goal.invariant-loop-k
invariant-loop-k l = Passing (λ j. seat_fits l.network l.up j (get_or l.seats j no_seat)) (λ j. SeatFits l.network l.up j (get_or l.seats j no_seat)) l.k
