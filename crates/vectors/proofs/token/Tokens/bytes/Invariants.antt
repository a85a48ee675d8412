-- As many bytes were read as places are filled.
use Rattle.std.proofs.Common.{◌≡◌}
use Rattle.vectors.proofs.token.Tokens.bytes.Given as goal

abbrev pub invariant-loop-b : goal.invariant-loop-b
invariant-loop-b l = l.count ≡ l.b-index
