use Rattle.std.proofs.Common.{◌≡◌, length, arith, ◌∙◌}
use native.Mathlib.Numerals.{add-one}
use lib.ListN.{length-set}
use lib.Seq.{paste-suc, take-length}
use Rattle.wire.proofs.Laws.{put_fits, put_not}
use Rattle.wire.proofs.put_at.Goals as goal
use Rattle.wire.proofs.put_at.Goals.{else-at-buffer-via-then-at-buffer+else-bytes-buffer, else-at-buffer-via-else-at-buffer}

pub loop-i-preserved : goal.loop-i-preserved
loop-i-preserved c =
    let next = paste-suc c.args.buffer.now c.args.at c.args.bytes.now c.loop-i.i 0 (omega arith) c.loop-i-test.true in
    (rw (c.loop-i.invariant.0, add-one) next, length-set _ _ _ ∙ c.loop-i.invariant.1, omega arith)

pub returns-after-loop-i : goal.returns-after-loop-i
returns-after-loop-i c =
    let all : c.loop-i.i ≡ length c.args.bytes.now = omega arith in
    c.loop-i.invariant.0 ∙ rw (all, take-length, put_fits c.args.buffer.now c.args.at c.args.bytes.now c.loop-i.invariant.2)

pub returns-else-at-buffer : goal.returns-else-at-buffer
returns-else-at-buffer c =
    elim c.else-at-buffer.branch [
      | else-at-buffer-via-then-at-buffer+else-bytes-buffer w ↦ put_not _ _ _ (omega arith)
      | else-at-buffer-via-else-at-buffer w ↦ put_not _ _ _ (omega arith)
    ]
