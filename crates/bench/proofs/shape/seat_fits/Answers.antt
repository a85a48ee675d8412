-- The setup is asked, and where it is the one that follows, refusal 1.
use mathlib.Core.Path.{sym, ◌∙◌}
use Rattle.refusal.proofs.Told.{on_ok}
use Rattle.seat.proofs.Laws.{refusal_formed}
use Rattle.bench.proofs.Tested.{none_found, setup_differs, setup_fits, setup_follows}
use Rattle.bench.proofs.shape.seat_fits.Goals as goal

pub returns-then-eq-clause-test : goal.returns-then-eq-clause-test
returns-then-eq-clause-test c =
    let a = c.args in
    setup_fits a.stand.now.network a.up.now a.switch a.seat.now a.stand.now.cabled c.setup_of.ensures c.check.result (sym c.if-eq.ensures) c.is_ok.ensures.value c.check.ensures.refused

pub returns-then-eq-clause-fits : goal.returns-then-eq-clause-fits
returns-then-eq-clause-fits c t =
    let a = c.args in
    record {
      setup = setup_follows a.stand.now.network a.up.now a.switch a.seat.now a.stand.now.cabled c.setup_of.ensures (sym c.if-eq.ensures);
      formed = (refusal_formed a.seat.now (on_ok c.check.result (sym c.is_ok.ensures.value ∙ t) c.check.ensures.sized)).0 (none_found c.check.result c.is_ok.ensures.value c.check.ensures.refused t);
    }

pub returns-else-eq-clause-test : goal.returns-else-eq-clause-test
returns-else-eq-clause-test c =
    let a = c.args in
    c.if-eq.false ∙ setup_differs a.stand.now.network a.up.now a.switch a.seat.now a.stand.now.cabled c.setup_of.ensures (sym c.if-eq.ensures)
