-- Copy after copy is read.
use borrow.Author.Rules.{rules}
use Rattle.std.proofs.Common.{tests}
use Rattle.layout.specs.Layout.{copy_in}
use Rattle.layout.proofs.Loops.{made}
use Rattle.layout.proofs.links.copies_of.Goals as goal

pub returns : goal.returns
returns c = made _ (copy_in c.args.wides.now) c.from_fn.ensures.items (λ k y q h call. search (rules, tests))
