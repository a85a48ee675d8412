-- What was written, with the lines of the events to come, is all lines: each turn of the loop writes the next line and leaves the state behind its event.
use Rattle.transcript.proofs.Loop.{Going}
use lib.ListN.{length}
use Prim.Native.Nat.{◌-◌}
use Rattle.transcript.proofs.running.run.Given as goal

abbrev pub invariant-loop-at : goal.invariant-loop-at
invariant-loop-at l = Going l.stand.network l.input l.start l.initial.out l.out l.parts l.number l.at l.wrote

abbrev pub decreases-loop-at : goal.decreases-loop-at
decreases-loop-at l = length l.input - l.at
