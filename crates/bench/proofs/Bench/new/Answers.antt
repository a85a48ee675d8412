-- The heads that follow from none are those of the definition.
use Rattle.bench.proofs.Heads.{follows_fresh}
use Rattle.bench.proofs.Bench.new.Goals as goal

pub returns : goal.returns
returns c = follows_fresh c.requires c.fresh-none.ensures (rw c.new.ensures at c.follow.ensures) c.empty.ensures
