-- One copy after the other is packed, and its words carry it.
use Rattle.flight.proofs.Sweep.{Packed}
use Rattle.flight.proofs.words_of.Given as goal

abbrev pub invariant-loop-i : goal.invariant-loop-i
invariant-loop-i l = Packed l.copies l.initial.words l.i l.words
