-- A filter that is too long is refused; any other is as many zeros as are tested.
use mathlib.Core.Path.{sym}
use borrow.Author.Tests.{ltb-false, ltb-true}
use Rattle.std.proofs.lemmas.Result.{err_from_is_err_and}
use Rattle.engine.proofs.Freshening.{long_refused, tested}
use Rattle.engine.proofs.heads.check_fresh.Goals as goal

pub returns-in_err-when : goal.returns-in_err-when
returns-in_err-when c =
    let p = err_from_is_err_and c.from_residual.result c.from_residual.ensures.1 in
    let long = c.in_err-when.ensures.refused in
    rw (p.1, p.2, long.0) (sym (long_refused _ _ (ltb-true _ _ long.1)))

pub returns : goal.returns
returns c = tested _ _ c.empty.ensures (ltb-false _ _ c.in_ok-when.ensures.passed) c.check.ensures.refused
