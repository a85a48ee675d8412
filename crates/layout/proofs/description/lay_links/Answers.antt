use mathlib.Core.Path.{refl}
use native.Mathlib.Omega.{arith}
use Rattle.network.specs.Network.{no_link}
use Rattle.layout.proofs.Loops.{rows_end, rows_next, rows_start}
use Rattle.layout.proofs.description.lay_links.Goals as goal

pub loop-i-init : goal.loop-i-init
loop-i-init c = rows_start

pub loop-i-preserved : goal.loop-i-preserved
loop-i-preserved c = rows_next no_link _ c.loop-i.invariant (omega arith) refl refl refl (omega arith) c.put_row.ensures

pub returns-clause-bytes : goal.returns-clause-bytes
returns-clause-bytes c = (rows_end c.loop-i.invariant (omega arith)).so_far
