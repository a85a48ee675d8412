-- The cell is h modulo the number of cells.
use Rattle.std.proofs.Common.{arith}
use Rattle.filter.proofs.Places.{begins}
use Rattle.filter.proofs.place_of.Goals as goal

pub returns-clause-some : goal.returns-clause-some
returns-clause-some c = rw (c.in_ok-cell.ensures.1, c.hash_of.ensures, c.in_ok-count.ensures.1) (begins _ _ _ (omega (arith, c.in_ok-cell.ensures.0, c.in_ok-count.ensures.1)))
