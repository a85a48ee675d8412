-- One copy after the other is unpacked into an array of empty places.
use Rattle.flight.proofs.Sweep.{Unpacked}
use Rattle.flight.proofs.copies_of.Given as goal

abbrev pub invariant-loop-i : goal.invariant-loop-i
invariant-loop-i l = Unpacked l.words l.initial.copies l.i l.copies
