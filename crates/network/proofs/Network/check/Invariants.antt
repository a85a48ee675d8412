-- The network of the records passed is what each next record is checked against.
use Rattle.network.proofs.Writing.{Checking}
use Rattle.network.proofs.Network.check.Given as goal

abbrev pub invariant-loop-i : goal.invariant-loop-i
invariant-loop-i l = Checking l.self l.seen l.i
