-- The parts are read one by one, and the counts stand in front.
use Rattle.layout.specs.Layout.{network_in}
use Rattle.layout.proofs.network_of.Goals as goal

pub returns : goal.returns
unfolding network_in
returns c = cc
