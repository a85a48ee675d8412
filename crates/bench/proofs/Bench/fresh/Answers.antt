-- What the writer accepts has few enough switches.
use mathlib.Core.Path.{sym, ap, ◌∙◌}
use Rattle.refusal.specs.Number.{refused_as}
use Rattle.bench.proofs.Described.{few_switches}
use Rattle.bench.proofs.Bench.fresh.Goals as goal

pub new-requires : goal.new-requires
new-requires c = few_switches c.args.n.now (sym c.check.ensures ∙ ap refused_as c.in_ok-check.was)
