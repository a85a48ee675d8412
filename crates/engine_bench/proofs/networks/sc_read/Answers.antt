-- Read first, and laid down only where nothing was refused.
use mathlib.Core.Path.{sym, ◌∙◌}
use Rattle.engine_bench.proofs.Describing.{read_done, read_refused, read_unsized}
use Rattle.engine_bench.proofs.networks.sc_read.Goals as goal

pub returns-then-not-network_fits : goal.returns-then-not-network_fits
returns-then-not-network_fits c = rw c.number.ensures (read_unsized (sym c.network_fits.ensures ∙ c.if-not-network_fits.true))

pub returns-in-Err : goal.returns-in-Err
returns-in-Err c = rw c.number-in-Err.ensures (read_refused (sym c.network_fits.ensures ∙ c.if-not-network_fits.false) c.in-Err.ensures.answer)

pub returns-in-Ok : goal.returns-in-Ok
returns-in-Ok c = read_done (sym c.network_fits.ensures ∙ c.if-not-network_fits.false) c.in-Ok.ensures.answer c.in-Ok.ensures.network c.lay_network.ensures
