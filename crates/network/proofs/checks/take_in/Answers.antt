-- A record that passes its checks has a place behind the last of its kind.
use mathlib.Core.Path.{sym, ap, ◌∙◌}
use native.Mathlib.Omega.{arith}
use Rattle.refusal.specs.Number.{refused_as}
use Rattle.network.proofs.Faults.{switch_room, host_room, link_room}
use Rattle.network.proofs.checks.take_in.Goals as goal

pub bounds-n-n : goal.bounds-n-n
bounds-n-n c = switch_room c.args.n.now c.in-Switch.is (sym c.check.ensures ∙ ap refused_as c.in_ok-check.was)

pub overflow_add-n : goal.overflow_add-n
overflow_add-n c = omega (arith, switch_room c.args.n.now c.in-Switch.is (sym c.check.ensures ∙ ap refused_as c.in_ok-check.was))

pub bounds-n-n-in-Host : goal.bounds-n-n-in-Host
bounds-n-n-in-Host c = host_room c.args.n.now c.in-Host.is (sym c.check.ensures ∙ ap refused_as c.in_ok-check.was)

pub overflow_add-n-in-Host : goal.overflow_add-n-in-Host
overflow_add-n-in-Host c = omega (arith, host_room c.args.n.now c.in-Host.is (sym c.check.ensures ∙ ap refused_as c.in_ok-check.was))

pub bounds-n-n-in-Link : goal.bounds-n-n-in-Link
bounds-n-n-in-Link c = link_room c.args.n.now c.in-Link.is (sym c.check.ensures ∙ ap refused_as c.in_ok-check.was)

pub overflow_add-n-in-Link : goal.overflow_add-n-in-Link
overflow_add-n-in-Link c = omega (arith, link_room c.args.n.now c.in-Link.is (sym c.check.ensures ∙ ap refused_as c.in_ok-check.was))
