use mathlib.Core.Path.{◌≡◌}
use native.Mathlib.Omega.{arith}
use Rattle.flight.proofs.Sweep.{swept_starts, swept_cut, swept_kept, swept_ends}
use Rattle.flight.proofs.cut.Goals as goal

pub loop-i-init : goal.loop-i-init
loop-i-init c = swept_starts

pub loop-i-preserved-then-w-link : goal.loop-i-preserved-then-w-link
loop-i-preserved-then-w-link c = swept_cut c.loop-i.invariant (omega arith) c.if-w-link.true

pub loop-i-preserved : goal.loop-i-preserved
loop-i-preserved c = swept_kept c.loop-i.invariant (omega arith) c.if-w-link.false

pub returns : goal.returns
returns c = let e : c.loop-i.i ≡ c.args.n = omega arith in swept_ends (rw e at c.loop-i.invariant)
