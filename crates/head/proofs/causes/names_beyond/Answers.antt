-- A mask has sixteen bits, so a switch of sixteen ports or more has none beyond them.
use mathlib.Core.Path.{sym, ◌∙◌}
use native.Mathlib.Omega.{arith}
use borrow.Author.Tests.{le-ltb}
use Rattle.head.proofs.Refusals.{beyond_none}
use Rattle.head.proofs.causes.names_beyond.Goals as goal

pub returns-else-ports-lt16 : goal.returns-else-ports-lt16
returns-else-ports-lt16 c = le-ltb c.args.ports 16 c.if-ports-lt16.false ∙ sym (beyond_none c.args.ports c.args.mask (omega arith) c.if-ports-lt16.false)
