use Prim.Native.Nat.{ℕ}
use mathlib.Core.Path.{◌≡◌, sym, ap, ◌∙◌}
use mathlib.Core.List.{List}
use native.Mathlib.Omega.{arith}
use borrow.Author.Tests.{ltb-true, ltb-false}
use Rattle.std.specs.Prelude.{Ok, Err}
use Rattle.std.proofs.lemmas.Result.{err_from_is_err_and}
use Rattle.refusal.specs.Refusal.{answered}
use Rattle.refusal.specs.Number.{number_of, refused_as, told}
use Rattle.refusal.specs.declared.Refusal.{Refusal}
use Rattle.network.specs.declared.Description.{Description}
use Rattle.network.specs.Describe.{end_values}
use Rattle.network.proofs.Faults.{told_refused}
use Rattle.network.proofs.Reading.{too_long, no_version, reading_starts, reading_ends, reading_bad, reading_fault, reading_room, reading_falls, reading_next}
use Rattle.network.proofs.read.Goals as goal

refused : (r : Refusal) {number : ℕ} (vs : List ℕ) → number ≡ number_of r → told (λ (d : Description). end_values d.end) (Err r) ≡ answered number vs
refused r vs e = told_refused (λ (d : Description). end_values d.end) r vs e

pub returns-in_err-when-clause-answer : goal.returns-in_err-when-clause-answer
returns-in_err-when-clause-answer c =
    let p = err_from_is_err_and c.from_residual.result c.from_residual.ensures.1 in
    let w = c.in_err-when.ensures.refused in
    rw (p.1, p.2) (refused _ _ (too_long c.args.input.now (omega (arith, ltb-true _ _ w.1)) ∙ sym (ap number_of w.0)))

pub returns-in_err-when-2-clause-answer : goal.returns-in_err-when-2-clause-answer
returns-in_err-when-2-clause-answer c =
    let p = err_from_is_err_and c.from_residual-in_err-when-2.result c.from_residual-in_err-when-2.ensures.1 in
    let w = c.in_err-when-2.ensures.refused in
    let fits = ltb-false _ _ c.in_ok-when.ensures.passed in
    rw (p.1, p.2) (refused _ _ (no_version c.args.input.now (omega (arith, fits)) (sym c.is_versionless.ensures ∙ w.1) ∙ sym (ap number_of w.0)))

pub loop-r-init : goal.loop-r-init
loop-r-init c =
    reading_starts c.args.input.now (omega (arith, ltb-false _ _ c.in_ok-when.ensures.passed))
    (sym c.is_versionless.ensures ∙ c.in_ok-when-2.ensures.passed) c.empty-network.ensures

pub returns-in_err-r-clause-answer : goal.returns-in_err-r-clause-answer
returns-in_err-r-clause-answer c =
    let p = err_from_is_err_and c.from_residual-in_err-r.result c.from_residual-in_err-r.ensures.1 in
    rw (p.1, p.2) (refused _ _ (reading_bad c.loop-r.invariant (sym c.in_err-r.ensures)))

pub returns-in_err-take_in-clause-answer : goal.returns-in_err-take_in-clause-answer
returns-in_err-take_in-clause-answer c =
    let p = err_from_is_err_and c.from_residual-in_err-take_in.result c.from_residual-in_err-take_in.ensures.1 in
    rw (p.1, p.2)
    (refused _ _ (reading_fault c.loop-r.invariant (sym c.in_ok-r.ensures ∙ ap Ok c.in-Some.is) _ c.in_err-take_in.ensures.number))

pub overflow_add-end : goal.overflow_add-end
overflow_add-end c =
    omega (arith, c.size-end.ensures, reading_room c.loop-r.invariant (sym c.in_ok-r.ensures ∙ ap Ok c.in-Some.is))

pub loop-r-smaller : goal.loop-r-smaller
loop-r-smaller c =
    rw c.size-end.ensures
    (reading_falls c.loop-r.invariant (sym c.in_ok-r.ensures ∙ ap Ok c.in-Some.is))

pub loop-r-preserved : goal.loop-r-preserved
loop-r-preserved c =
    reading_next c.loop-r.invariant
    (sym c.in_ok-r.ensures ∙ ap Ok c.in-Some.is)
    (sym c.take_in.ensures.number ∙ ap refused_as c.in_ok-take_in.was) c.in_ok-take_in.ensures.network c.size-end.ensures

pub returns-clause-answer : goal.returns-clause-answer
returns-clause-answer c =
    let e = reading_ends c.loop-r.invariant (sym c.in_ok-r.ensures ∙ ap Ok c.in_default.is) in
    rw (e.fine, e.here)

pub returns-clause-network : goal.returns-clause-network
returns-clause-network c = (reading_ends c.loop-r.invariant (sym c.in_ok-r.ensures ∙ ap Ok c.in_default.is)).network
