use Rattle.flight.specs.Flight.{unpack}
use mathlib.Core.Path.{refl}
use Rattle.flight.proofs.Copy.unpacked.Goals as goal

pub returns : goal.returns
unfolding unpack
returns c = refl
