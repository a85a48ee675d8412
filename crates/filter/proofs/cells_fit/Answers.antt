-- Each chunk of ten bytes is a cell (proofs/Cells).
use Rattle.std.proofs.Common.{◌∙◌, sym}
use Rattle.filter.proofs.Cells.{pass_start, pass_next, pass_fails, pass_end}
use Rattle.filter.proofs.cells_fit.Goals as goal

pub returns : goal.returns
returns c = pass_end _ c.as_chunks.ensures.front c.loop-cell.cell-index c.loop-cell.invariant c.loop-cell-test.false c.loop-cell.auto.cell-index-end

pub loop-cell-init : goal.loop-cell-init
loop-cell-init c = pass_start c.args.filter.now

pub returns-then-not-cell_fits : goal.returns-then-not-cell_fits
returns-then-not-cell_fits c = pass_fails _ c.as_chunks.ensures.front c.loop-cell.cell-index c.loop-cell-test.true (sym c.if-not-cell_fits.true ∙ c.cell_fits.ensures)

pub loop-cell-preserved : goal.loop-cell-preserved
loop-cell-preserved c = pass_next _ c.as_chunks.ensures.front c.loop-cell.cell-index c.loop-cell.invariant c.loop-cell-test.true (sym c.if-not-cell_fits.false ∙ c.cell_fits.ensures)
