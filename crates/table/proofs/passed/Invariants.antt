-- Four slots that were asked and don't have the address are passed.
use Prim.Native.Nat.{◌*◌}
use Rattle.table.specs.Table.{Passed}
use Rattle.table.proofs.passed.Given as goal

abbrev pub invariant-loop-four : goal.invariant-loop-four
invariant-loop-four l = Passed l.address l.addresses (4 * l.four)
