-- What is answered lies within the input.
use Rattle.std.proofs.Common.{◌≤◌, length}
use Rattle.vectors.proofs.answer_all.Given as goal

abbrev pub invariant-loop : goal.invariant-loop
invariant-loop g l = l.from ≤ length l.input
