use mathlib.Core.Path.{refl, ◌∙◌}
use native.Mathlib.Omega.{arith}
use lib.ListN.{length-map}
use Rattle.network.specs.Network.{no_host}
use Rattle.layout.proofs.Loops.{column_end, column_next, laid_whole, rows_end, rows_next, rows_start}
use Rattle.layout.proofs.description.lay_hosts.Goals as goal

pub loop-i-init : goal.loop-i-init
loop-i-init c = (rows_start, rows_start)

pub loop-i-preserved : goal.loop-i-preserved
loop-i-preserved c = (
  rows_next no_host _ c.loop-i.invariant.0 (omega arith) refl refl refl (omega arith) c.put_row.ensures,
  column_next no_host c.loop-i.invariant.1 (omega arith) (omega arith) refl (omega arith),
)

pub returns-clause-bytes : goal.returns-clause-bytes
returns-clause-bytes c = (rows_end c.loop-i.invariant.0 (omega arith)).so_far

pub returns-clause-addresses : goal.returns-clause-addresses
returns-clause-addresses c = laid_whole (column_end c.loop-i.invariant.1 (omega arith)) (length-map _ _ ∙ omega arith)
