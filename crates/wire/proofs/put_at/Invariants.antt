-- Each turn stores one byte behind those that are put.
use Rattle.std.proofs.Common.{◌≡◌, ◌+◌, ◌≤◌, length}
use lib.Seq.{paste}
use Rattle.wire.proofs.put_at.Given as goal

abbrev pub invariant-loop-i : goal.invariant-loop-i
invariant-loop-i l = (l.buffer ≡ paste l.initial.buffer l.at l.bytes l.i) × (length l.buffer ≡ length l.initial.buffer) × (l.at + length l.bytes ≤ length l.initial.buffer)
