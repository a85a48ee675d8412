-- Lengths, then the fresh bench.
use mathlib.Core.Path.{sym, ◌∙◌}
use Rattle.engine_bench.proofs.Benching.{fresh_inside, fresh_no_bench, fresh_no_network, fresh_of, freshen_done, freshen_refused}
use Rattle.engine_bench.proofs.benches.sc_fresh.Goals as goal

pub returns-then-not-network_fits : goal.returns-then-not-network_fits
returns-then-not-network_fits c = rw c.number.ensures (fresh_no_network _ (sym c.network_fits.ensures ∙ c.if-not-network_fits.true))

pub returns-then-not-bench_fits : goal.returns-then-not-bench_fits
returns-then-not-bench_fits c =
    rw c.number-then-not-bench_fits.ensures
    (fresh_no_bench (sym c.network_fits.ensures ∙ c.if-not-network_fits.false) (sym c.bench_fits.ensures ∙ c.if-not-bench_fits.true))

pub returns-in-Err : goal.returns-in-Err
returns-in-Err c =
    rw c.number-in-Err.ensures
    (fresh_inside (sym c.network_fits.ensures ∙ c.if-not-network_fits.false) (sym c.bench_fits.ensures ∙ c.if-not-bench_fits.false)
    (fresh_of c.network_of.ensures (freshen_refused _ c.in-Err.ensures.refused)))

pub returns-in-Ok : goal.returns-in-Ok
returns-in-Ok c =
    fresh_inside (sym c.network_fits.ensures ∙ c.if-not-network_fits.false) (sym c.bench_fits.ensures ∙ c.if-not-bench_fits.false)
    (fresh_of c.network_of.ensures (freshen_done c.in-Ok.ensures.refused c.in-Ok.ensures.bench c.lay_bench.ensures))
