use mathlib.Core.Path.{sym, ap, ◌∙◌}
use native.Mathlib.Omega.{arith}
use Rattle.refusal.specs.Number.{refused_as}
use Rattle.std.proofs.lemmas.Result.{err_from_is_err_and}
use Rattle.network.proofs.Writing.{checking_starts, checking_next, checking_fault, checking_ends}
use Rattle.network.proofs.Network.check.Goals as goal

pub loop-i-init : goal.loop-i-init
loop-i-init c = checking_starts _ c.empty-seen.ensures

pub returns-in_err-take_in : goal.returns-in_err-take_in
returns-in_err-take_in c =
    let p = err_from_is_err_and c.from_residual.result c.from_residual.ensures.1 in
    rw (p.1, p.2)
    (checking_fault c.loop-i.invariant (omega (arith, c.count-i-end.ensures)) c.record_at.ensures _ c.in_err-take_in.ensures.number)

pub loop-i-preserved : goal.loop-i-preserved
loop-i-preserved c =
    checking_next c.loop-i.invariant
    (omega (arith, c.count-i-end.ensures))
    c.record_at.ensures (sym c.take_in.ensures.number ∙ ap refused_as c.in_ok-take_in.was) c.in_ok-take_in.ensures.network

pub returns : goal.returns
returns c = checking_ends c.loop-i.invariant (omega (arith, c.count-i-end.ensures))
