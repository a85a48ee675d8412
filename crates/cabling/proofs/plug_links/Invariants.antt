-- What is plugged in so far is what the definition plugs in of the first i, both ends of each.
use mathlib.Core.Path.{◌≡◌}
use Rattle.cabling.specs.Cabling.{plug_all, plug_link}
use Rattle.cabling.proofs.plug_links.Given as goal

abbrev pub invariant-loop-i : goal.invariant-loop-i
invariant-loop-i l = l.plugs ≡ plug_all (plug_link l.n.links) l.i l.initial.plugs
