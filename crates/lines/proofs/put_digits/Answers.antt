use Rattle.std.proofs.Common.{arith}
use Rattle.lines.proofs.Digits.{putting_starts, putting_next}
use Rattle.lines.proofs.put_digits.Goals as goal

pub loop-done-init : goal.loop-done-init
loop-done-init c = putting_starts _ _ _ _ _

pub loop-done-preserved : goal.loop-done-preserved
loop-done-preserved c = putting_next c.loop-done.invariant c.requires.count_in_bounds (omega arith) c.hex_of.ensures
