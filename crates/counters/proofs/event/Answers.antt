-- `happens` is called on the counters as they are lent, and what it answers is stored: the counters behind the reference, the rest as the result.
use Rattle.std.proofs.lemmas.Result.{err_from_is_err_and}
use Rattle.counters.proofs.Telling.{promised}
use Rattle.counters.proofs.event.Goals as goal

pub returns-in_err-counted : goal.returns-in_err-counted
returns-in_err-counted c =
    let p = err_from_is_err_and c.from_residual.result c.from_residual.ensures.1 in
    rw (p.1, p.2) (promised c.in_err-counted.ensures)

pub returns : goal.returns
returns c = promised c.in_ok-counted.ensures
