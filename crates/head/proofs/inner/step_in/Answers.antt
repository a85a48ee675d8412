-- Refused with 1, nothing was touched.
use mathlib.Core.Path.{refl}
use lib.ListN.{length}
use Rattle.refusal.proofs.Laws.{refused_answer, refused_leaves}
use Rattle.std.proofs.lemmas.Result.{err_from_is_err_and}
use Rattle.refusal.proofs.Told.{some}
use Rattle.table.specs.Table.{table_of}
use Rattle.head.specs.Step.{switch_of}
use Rattle.head.proofs.Refusals.{refused_1}
use Rattle.head.proofs.inner.step_in.Goals as goal

pub returns-in_err-check_switch : goal.returns-in_err-check_switch
returns-in_err-check_switch c =
    let a = c.args in
    let s = switch_of a.s a.nonce.now (table_of a.addresses.now a.ports.now a.hops.now) in
    let p = err_from_is_err_and c.from_residual.result c.from_residual.ensures.1 in
    record {
      steps = rw (p.1, p.2, refused_1 s a.filter.now a.port a.frame.now (length a.out.now) _ c.in_err-check_switch.ensures)
          (record {
            told = refused_answer refl (some _) _;
            switch = refused_leaves refl (some _) _ _;
            filter = refused_leaves refl (some _) _ _;
            output = refused_leaves refl (some _) _ _;
          });
      sized = c.requires;
    }
