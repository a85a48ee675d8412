use native.Mathlib.Omega.{arith}
use lib.ListN.{get_or}
use mathlib.Core.Bool.{false}
use Rattle.frame.proofs.Laws.{flag_bit}
use Rattle.layout.proofs.Loops.{column_end, column_next, rows_start}
use Rattle.layout.proofs.links.lay_states.Goals as goal

pub loop-i-init : goal.loop-i-init
loop-i-init c = rows_start

pub loop-i-preserved : goal.loop-i-preserved
loop-i-preserved c =
    column_next false c.loop-i.invariant (omega arith) (omega arith) (flag_bit (get_or c.args.up.now c.loop-i.i false)) (omega arith)

pub returns-clause-bytes : goal.returns-clause-bytes
returns-clause-bytes c = (column_end c.loop-i.invariant (omega arith)).so_far
