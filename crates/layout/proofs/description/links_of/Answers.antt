-- Link after link is read.
use borrow.Author.Rules.{rules}
use Rattle.std.proofs.Common.{tests}
use Rattle.layout.specs.Layout.{link_in}
use Rattle.layout.proofs.Loops.{made}
use Rattle.layout.proofs.description.links_of.Goals as goal

pub returns : goal.returns
returns c = made _ (link_in c.args.bytes.now) c.from_fn.ensures.items (λ k y q h call. search (rules, tests))
