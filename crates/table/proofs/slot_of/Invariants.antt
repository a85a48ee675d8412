-- The search goes from the front: an address that is not among the slots passed has its first place among the rest.
use Rattle.table.specs.Table.{Passed}
use Rattle.table.proofs.slot_of.Given as goal

abbrev pub invariant-loop-slot : goal.invariant-loop-slot
invariant-loop-slot l = Passed l.address l.addresses l.slot
