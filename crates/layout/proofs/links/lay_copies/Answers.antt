use mathlib.Core.Path.{refl, ap}
use native.Mathlib.Omega.{arith}
use borrow.Author.Count.{below_more}
use lib.ListN.{length}
use Rattle.flight.specs.Flight.{no_copy, pack}
use Rattle.layout.proofs.Loops.{rows_end, rows_next, rows_start}
use Rattle.layout.proofs.links.lay_copies.Goals as goal

pub loop-i-init : goal.loop-i-init
loop-i-init c = (rows_start, λ k h. absurd (omega arith))

pub loop-i-preserved : goal.loop-i-preserved
unfolding pack
loop-i-preserved c =
    let v = c.loop-i.invariant in
    let p = c.packed in (
      rows_next no_copy p.result v.0 (omega arith) refl p.ensures.words (ap length p.ensures.words) (omega arith) c.put_row.ensures,
      below_more _ _ v.1 p.ensures.ranged,
    )

pub returns-clause-wides : goal.returns-clause-wides
returns-clause-wides c = (rows_end c.loop-i.invariant.0 (omega arith)).so_far

pub returns-clause-ranged : goal.returns-clause-ranged
returns-clause-ranged c = record { long = omega arith; ranged = λ k h. c.loop-i.invariant.1 k (omega arith) }
