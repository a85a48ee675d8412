-- Every cell that was passed fits.
use Rattle.std.proofs.Common.{◌≡◌, true}
use Rattle.wire.specs.Below.{all_below}
use Rattle.filter.specs.Filter.{cell}
use Rattle.filter.specs.Triple.{width, is_cell}
use Rattle.filter.proofs.cells_fit.Given as goal

abbrev pub invariant-loop-cell : goal.invariant-loop-cell
invariant-loop-cell l = all_below (λ k. is_cell (cell width k l.filter)) l.cell-index ≡ true
