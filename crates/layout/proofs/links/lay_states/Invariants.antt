-- State after state is put behind those before it.
use Rattle.layout.proofs.Loops.{Column}
use mathlib.Core.Bool.{false}
use Rattle.frame.specs.Header.{bit}
use Rattle.layout.proofs.links.lay_states.Given as goal

abbrev pub invariant-loop-i : goal.invariant-loop-i
invariant-loop-i l = Column bit false l.up l.initial.bytes 0 l.i l.bytes
