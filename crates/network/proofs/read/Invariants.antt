-- Each turn answers for the input's rest, or takes one record in and leaves less.
use Rattle.network.proofs.Reading.{Reading}
use lib.ListN.{length}
use Prim.Native.Nat.{◌-◌}
use Rattle.network.proofs.read.Given as goal

abbrev pub invariant-loop-r : goal.invariant-loop-r
invariant-loop-r l = Reading l.input l.network l.end

abbrev pub decreases-loop-r : goal.decreases-loop-r
decreases-loop-r l = length l.input - l.end
