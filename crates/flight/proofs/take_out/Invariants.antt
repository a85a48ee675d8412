-- Each copy behind the place moves up one; when copy i has its turn, the first i but the one taken out lie in front.
use Rattle.flight.proofs.Sweep.{Moved}
use Rattle.flight.proofs.take_out.Given as goal

abbrev pub invariant-loop-i : goal.invariant-loop-i
invariant-loop-i l = Moved l.place l.initial.words l.i l.words
