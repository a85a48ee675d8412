-- Lengths, then the record, then the event.
use mathlib.Core.Path.{refl, sym, ◌∙◌}
use Rattle.engine_bench.proofs.Benching.{event_bad, event_inside, event_no_bench, event_no_network, event_of_lem, fits_event}
use Rattle.engine_bench.proofs.benches.sc_event.Goals as goal

pub returns-then-not-network_fits : goal.returns-then-not-network_fits
returns-then-not-network_fits c = rw c.number.ensures (event_no_network _ _ (sym c.network_fits.ensures ∙ c.if-not-network_fits.true))

pub returns-then-not-event_fits : goal.returns-then-not-event_fits
returns-then-not-event_fits c =
    rw c.number-then-not-event_fits.ensures
    (event_no_bench _ (sym c.network_fits.ensures ∙ c.if-not-network_fits.false) (sym c.event_fits.ensures ∙ c.if-not-event_fits.true))

pub happen-requires : goal.happen-requires
happen-requires c =
    let a = c.args in
    fits_event a.bytes.now a.masks.now a.words.now a.wides.now a.counters.now a.report.now (sym c.event_fits.ensures ∙ c.if-not-event_fits.false)

pub returns-in-Err : goal.returns-in-Err
returns-in-Err c =
    rw c.number-in-Err.ensures
    (event_bad _ (sym c.network_fits.ensures ∙ c.if-not-network_fits.false) (sym c.event_fits.ensures ∙ c.if-not-event_fits.false) c.in-Err.ensures _ refl)

pub returns-in-Ok : goal.returns-in-Ok
returns-in-Ok c =
    event_inside _ (sym c.network_fits.ensures ∙ c.if-not-network_fits.false) (sym c.event_fits.ensures ∙ c.if-not-event_fits.false) c.in-Ok.ensures refl
    (event_of_lem c.network_of-n.ensures c.happen.ensures)
