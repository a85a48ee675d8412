-- Each record is put right behind those before it, the first behind the version byte.
use Rattle.network.proofs.Writing.{Filling}
use Rattle.network.proofs.records.put_all.Given as goal

abbrev pub invariant-loop-i : goal.invariant-loop-i
invariant-loop-i l = Filling l.n l.initial.out l.out l.at l.i
