use mathlib.Core.Path.{◌≡◌}
use native.Mathlib.Omega.{arith}
use Rattle.flight.proofs.Sweep.{unpacked_ends}
use Rattle.flight.proofs.copies_of.Goals as goal

pub returns : goal.returns
returns c = let e : c.loop-i.i ≡ c.args.n = omega arith in unpacked_ends c.empty-copies.result (rw e at c.loop-i.invariant) c.empty-copies.ensures (omega arith)
