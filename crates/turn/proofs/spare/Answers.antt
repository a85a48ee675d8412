-- A link that is up spares all; one that is down, what flight leaves.
use native.Mathlib.Omega.{arith}
use borrow.Author.Rules.{rules}
use Rattle.turn.proofs.Turning.{kept, spared_up, spared_down}
use Rattle.turn.proofs.spare.Goals as goal

pub invariant_of-flight : goal.invariant_of-flight
invariant_of-flight c =
    let f = c.args.flight.now in
    let left = spared_down c.if-not-state.true (kept f) c.cut-flight.ensures (search rules) in
    record { whole = left.whole; few = omega (arith, left.few, f.few) }

pub returns-then-not-state : goal.returns-then-not-state
returns-then-not-state c =
    let f = c.args.flight.now in
    spared_down c.if-not-state.true (kept f) c.cut-flight.ensures (search rules)

pub returns-else-not-state : goal.returns-else-not-state
returns-else-not-state c =
    let f = c.args.flight.now in spared_up c.if-not-state.false (kept f)
