-- What is held lies within the room.
use Rattle.std.proofs.Common.{◌≤◌, length}
use Rattle.vectors.proofs.serve.Given as goal

abbrev pub invariant-loop : goal.invariant-loop
invariant-loop g l = l.held ≤ length l.room
