-- Head after head is read.
use borrow.Author.Rules.{rules}
use Rattle.std.proofs.Common.{tests}
use Rattle.layout.specs.Layout.{seat_in}
use Rattle.layout.proofs.Loops.{made}
use Rattle.layout.proofs.heads.seats_of.Goals as goal

pub returns : goal.returns
returns c = made _ (seat_in c.args.bytes.now c.args.masks.now c.args.words.now c.args.wides.now) c.from_fn.ensures.items (λ k y q h call. search (rules, tests))
