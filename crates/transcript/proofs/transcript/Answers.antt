-- The reader's answer says whether its refusal or the run's lines are written.
use mathlib.Core.Path.{◌∙◌}
use native.Mathlib.Omega.{arith}
use Rattle.transcript.proofs.Whole.{reads_refused, refused_room, refused_prints, reads_to, reads_can, run_prints}
use Rattle.transcript.proofs.transcript.Goals as goal

pub put_refused-requires : goal.put_refused-requires
put_refused-requires c =
    refused_room c.args.out.now (reads_refused c.args.input.now c.in-Err.refusal c.in-Err.ensures.answer) c.number.ensures (omega (arith, c.if-out-lt-LONGEST.false))

pub run-requires : goal.run-requires
run-requires c =
    reads_can (reads_to c.args.input.now c.in-Ok.d.end c.in-Ok.ensures.answer) (c.new.ensures ∙ c.in-Ok.ensures.network) (omega (arith, c.if-out-lt-LONGEST.false))

pub returns-in-Err-clause-prints : goal.returns-in-Err-clause-prints
returns-in-Err-clause-prints c =
    refused_prints (reads_refused c.args.input.now c.in-Err.refusal c.in-Err.ensures.answer) c.number.ensures (omega (arith, c.if-out-lt-LONGEST.false)) c.put_refused.ensures.end c.put_refused.ensures.output

pub returns-in-Ok-clause-prints : goal.returns-in-Ok-clause-prints
returns-in-Ok-clause-prints c =
    run_prints (reads_to c.args.input.now c.in-Ok.d.end c.in-Ok.ensures.answer) (c.new.ensures ∙ c.in-Ok.ensures.network) (omega (arith, c.if-out-lt-LONGEST.false)) c.run.ensures
