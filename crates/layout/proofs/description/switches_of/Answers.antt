-- Switch after switch is read.
use borrow.Author.Rules.{rules}
use Rattle.std.proofs.Common.{tests}
use Rattle.layout.specs.Layout.{switch_in}
use Rattle.layout.proofs.Loops.{made}
use Rattle.layout.proofs.description.switches_of.Goals as goal

pub returns : goal.returns
returns c = made _ (switch_in c.args.bytes.now c.args.salts.now) c.from_fn.ensures.items (λ k y q h call. search (rules, tests))
