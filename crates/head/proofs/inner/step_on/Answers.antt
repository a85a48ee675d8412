-- The frame has the room that writing asks for, and the port is one of sixteen.
use borrow.Author.Rules.{rules}
use mathlib.Core.Path.{sym}
use Rattle.rules.specs.Rules.{rule1}
use Rattle.head.proofs.Refusals.{passed_room}
use Rattle.head.proofs.inner.step_on.Goals as goal

pub rules_in-report-requires : goal.rules_in-report-requires
unfolding rule1
rules_in-report-requires c = (search rules, rw c.rule1_in-a.ensures c.in_ok-check_frame.ensures.port)

pub write-requires : goal.write-requires
write-requires c = rw c.has_port.ensures (passed_room _ _ _ _ (sym c.in_ok-check_frame.ensures.refused))
