-- The records are checked, then the room; only then is anything written.
use mathlib.Core.Path.{sym, ap, ◌∙◌}
use native.Mathlib.Omega.{arith}
use borrow.Author.Tests.{ltb-true, ltb-false}
use Rattle.std.proofs.lemmas.Result.{err_from_is_err_and}
use Rattle.refusal.specs.Number.{refused_as}
use Rattle.network.proofs.Writing.{faulty, no_room, done}
use Rattle.network.proofs.write.Goals as goal

pub returns-in_err-check-clause-answer : goal.returns-in_err-check-clause-answer
returns-in_err-check-clause-answer c =
    let p = err_from_is_err_and c.from_residual.result c.from_residual.ensures.1 in
    rw (p.1, p.2) (faulty _ c.args.out.now _ c.in_err-check.ensures).0

pub returns-in_err-check-clause-output : goal.returns-in_err-check-clause-output
returns-in_err-check-clause-output c = (faulty _ c.args.out.now _ c.in_err-check.ensures).1

pub returns-in_err-when-clause-answer : goal.returns-in_err-when-clause-answer
returns-in_err-when-clause-answer c =
    let p = err_from_is_err_and c.from_residual-in_err-when.result c.from_residual-in_err-when.ensures.1 in
    let w = c.in_err-when.ensures.refused in
    rw (p.1, p.2, w.0)
    (no_room _ c.args.out.now (sym c.check.ensures ∙ ap refused_as c.in_ok-check.was) (omega (arith, ltb-true _ _ w.1, c.size-long.ensures))).0

pub returns-in_err-when-clause-output : goal.returns-in_err-when-clause-output
returns-in_err-when-clause-output c =
    let w = c.in_err-when.ensures.refused in
    (no_room _ c.args.out.now (sym c.check.ensures ∙ ap refused_as c.in_ok-check.was) (omega (arith, ltb-true _ _ w.1, c.size-long.ensures))).1

pub returns-clause-answer : goal.returns-clause-answer
returns-clause-answer c =
    (done _ c.args.out.now
    (sym c.check.ensures ∙ ap refused_as c.in_ok-check.was)
    (omega (arith, ltb-false _ _ c.in_ok-when.ensures.passed, c.size-long.ensures)) c.size-long.ensures
    c.put_all.ensures).0

pub returns-clause-output : goal.returns-clause-output
returns-clause-output c =
    (done _ c.args.out.now
    (sym c.check.ensures ∙ ap refused_as c.in_ok-check.was)
    (omega (arith, ltb-false _ _ c.in_ok-when.ensures.passed, c.size-long.ensures)) c.size-long.ensures
    c.put_all.ensures).1
