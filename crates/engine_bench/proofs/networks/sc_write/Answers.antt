-- The network that the arrays hold is written, and the length goes back through the reference.
use mathlib.Core.Path.{sym, ◌∙◌}
use Rattle.engine_bench.proofs.Describing.{write_done, write_refused, write_unsized}
use Rattle.engine_bench.proofs.networks.sc_write.Goals as goal

pub returns-then-not-network_fits : goal.returns-then-not-network_fits
returns-then-not-network_fits c = rw c.number.ensures (write_unsized (sym c.network_fits.ensures ∙ c.if-not-network_fits.true))

pub returns-in-Err : goal.returns-in-Err
returns-in-Err c =
    rw c.number-in-Err.ensures
    (write_refused (sym c.network_fits.ensures ∙ c.if-not-network_fits.false) (rw c.network_of.ensures at c.in-Err.ensures.output) (rw c.network_of.ensures at c.in-Err.ensures.answer))

pub returns-in-Ok : goal.returns-in-Ok
returns-in-Ok c =
    write_done (sym c.network_fits.ensures ∙ c.if-not-network_fits.false) (rw c.network_of.ensures at c.in-Ok.ensures.output) (rw c.network_of.ensures at c.in-Ok.ensures.answer)
