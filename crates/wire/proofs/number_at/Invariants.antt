-- Byte after byte the number grows by the factor 256.
use Rattle.std.proofs.Common.{◌≡◌, ◌<◌, ◌^◌, take}
use Rattle.wire.specs.Wire.{number}
use Rattle.wire.proofs.number_at.Given as goal

abbrev pub invariant-loop-b : goal.invariant-loop-b
invariant-loop-b l = (l.n ≡ number (take l.b-index l.b-items)) × (l.n < 256 ^ l.b-index)
