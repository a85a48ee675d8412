-- A port that is live is named by a mask of sixteen bits.
use mathlib.Core.Path.{sym, ◌∙◌}
use native.Mathlib.Omega.{arith}
use borrow.Author.Tests.{not-false}
use Rattle.rules.proofs.Bits.{names_below}
use Rattle.head.proofs.Refusals.{on_ok}
use Rattle.head.proofs.causes.check_frame.Goals as goal

pub returns-clause-port : goal.returns-clause-port
returns-clause-port c =
    let live = sym c.has_port.ensures ∙ not-false _ c.in_ok-when-2.ensures.passed in
    on_ok c.when-8.result (names_below 16 c.args.s.live c.args.port (omega arith) live)
