-- Behind the last head all have followed.
use Rattle.bench.proofs.Following.{all_followed}
use Rattle.bench.proofs.follow.Goals as goal

pub returns : goal.returns
returns c = all_followed c.loop-k.invariant c.loop-k.auto.k-end c.loop-k-test.false
