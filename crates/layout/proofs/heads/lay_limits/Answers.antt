use mathlib.Core.Path.{refl}
use native.Mathlib.Omega.{arith}
use Rattle.layout.proofs.Loops.{blank, column_end, column_next, rows_start}
use Rattle.layout.proofs.heads.lay_limits.Goals as goal

pub loop-k-init : goal.loop-k-init
loop-k-init c = (rows_start, rows_start, rows_start)

pub loop-k-preserved : goal.loop-k-preserved
loop-k-preserved c = (
  column_next blank c.loop-k.invariant.0 (omega arith) (omega arith) refl (omega arith),
  column_next blank c.loop-k.invariant.1 (omega arith) (omega arith) refl (omega arith),
  column_next blank c.loop-k.invariant.2 (omega arith) (omega arith) refl (omega arith),
)

pub returns-clause-bytes : goal.returns-clause-bytes
returns-clause-bytes c = (column_end c.loop-k.invariant.0 (omega arith)).so_far

pub returns-clause-masks : goal.returns-clause-masks
returns-clause-masks c = (column_end c.loop-k.invariant.1 (omega arith)).so_far

pub returns-clause-words : goal.returns-clause-words
returns-clause-words c = (column_end c.loop-k.invariant.2 (omega arith)).so_far
