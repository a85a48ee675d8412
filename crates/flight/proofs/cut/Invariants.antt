-- Each copy that stays is put behind those that stayed before it, so those that stay of the first i lie in front.
use Rattle.flight.proofs.Sweep.{Swept}
use Rattle.flight.proofs.cut.Given as goal

abbrev pub invariant-loop-i : goal.invariant-loop-i
invariant-loop-i l = Swept l.link l.initial.words l.i l.left l.words
