-- State after state is read.
use borrow.Author.Rules.{rules}
use Rattle.std.proofs.Common.{tests}
use Rattle.layout.specs.Layout.{up_in}
use Rattle.layout.proofs.Loops.{made}
use Rattle.layout.proofs.links.states_of.Goals as goal

pub returns : goal.returns
returns c = made _ (up_in c.args.bytes.now) c.from_fn.ensures.items (λ k y q h call. search (rules, tests))
