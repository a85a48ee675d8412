-- The parts are read one by one, and the number of copies in flight stands last.
use Rattle.layout.specs.Layout.{bench_in}
use Rattle.layout.proofs.bench_of.Goals as goal

pub returns : goal.returns
unfolding bench_in
returns c = cc
