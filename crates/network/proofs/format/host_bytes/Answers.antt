-- The record's bytes, one by one; of the address the lowest six.
use Prim.Native.Nat.{◌/◌}
use mathlib.Core.Path.{◌≡◌}
use native.Mathlib.Omega.{arith}
use Rattle.network.specs.Format.{encode, kind_of, body_of, length_of}
use Rattle.network.proofs.format.host_bytes.Goals as goal

pub returns : goal.returns
unfolding encode kind_of body_of length_of
returns c = let all : c.args.h.address / 1 ≡ c.args.h.address = omega arith in rw (c.to_be_bytes.ensures, all)
