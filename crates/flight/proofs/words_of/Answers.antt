use borrow.Author.Rules.{rules}
use mathlib.Core.Path.{◌≡◌}
use native.Mathlib.Omega.{arith}
use lib.ListN.{length}
use Rattle.flight.specs.Flight.{most}
use Rattle.flight.proofs.Sweep.{packed_starts, packed_next, packed_ends}
use Rattle.flight.proofs.words_of.Goals as goal

pub loop-i-init : goal.loop-i-init
loop-i-init c = packed_starts

pub loop-i-preserved : goal.loop-i-preserved
loop-i-preserved c = let long : length c.args.copies.now ≡ most = search rules in packed_next c.loop-i.invariant (omega arith) (omega arith) c.packed.ensures.words c.packed.ensures.ranged

pub returns : goal.returns
returns c = let long : length c.args.copies.now ≡ most = search rules in let e : c.loop-i.i ≡ c.args.n = omega arith in packed_ends (rw e at c.loop-i.invariant) (omega arith)
