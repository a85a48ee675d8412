-- An event that nothing refuses happens, and what it does is added; any other leaves bench and counters as they were.
use mathlib.Core.Path.{sym, ap, ◌∙◌}
use Rattle.std.proofs.lemmas.Result.{err_from_is_err_and}
use Rattle.refusal.specs.Number.{refused_as}
use Rattle.counters.proofs.Refusing.{accepted_happens, refused_happens}
use Rattle.counters.proofs.happens.Goals as goal

pub returns-in_err-check : goal.returns-in_err-check
returns-in_err-check c =
    let p = err_from_is_err_and c.from_residual.result c.from_residual.ensures.1 in
    rw (p.1, p.2) (refused_happens c.args.bench.now c.args.c c.args.e c.in_err-check.ensures.refusal)

pub returns : goal.returns
returns c =
    accepted_happens c.args.bench.now c.args.c c.args.e (sym c.check.ensures.refusal ∙ ap refused_as c.in_ok-check.was)
    c.happen-done.ensures c.adds.ensures.adds c.plus.ensures
