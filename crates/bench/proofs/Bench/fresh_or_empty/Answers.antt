-- A network that is accepted has its own bench; the empty one has few enough switches for one.
use mathlib.Core.Path.{refl, ap, ◌∙◌}
use native.Mathlib.Omega.{arith}
use Rattle.refusal.proofs.Laws.{accepted_leaves, refused_leaves}
use Rattle.refusal.proofs.Told.{some}
use Rattle.network.specs.Network.{empty_network}
use Rattle.bench.specs.Bench.{fresh_bench}
use Rattle.bench.proofs.Bench.fresh_or_empty.Goals as goal

pub returns-in-Ok : goal.returns-in-Ok
returns-in-Ok c = c.in-Ok.ensures.bench ∙ ap (λ n. fresh_bench n) (accepted_leaves c.in-Ok.ensures.refused refl empty_network c.args.n.now)

pub new-requires : goal.new-requires
unfolding empty_network
new-requires c = rw c.empty.ensures (omega arith)

pub returns-in-Err : goal.returns-in-Err
returns-in-Err c = c.new.ensures ∙ ap (λ n. fresh_bench n) (c.empty.ensures ∙ refused_leaves c.in-Err.ensures.refused (some _) empty_network c.args.n.now)
