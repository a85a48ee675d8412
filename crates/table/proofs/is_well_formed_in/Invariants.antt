-- Slots passed fit and have marked their addresses, so an address that finds its mark clear stands in no slot before (proofs/Marks).
use Rattle.table.specs.Table.{table_of}
use Rattle.table.proofs.Marks.{Passed}
use Rattle.table.proofs.is_well_formed_in.Given as goal

abbrev pub invariant-loop-i : goal.invariant-loop-i
invariant-loop-i l = Passed l.n (table_of l.addresses l.ports l.hops) l.seen l.i
