-- What is plugged in so far is what the definition plugs in of the first i.
use mathlib.Core.Path.{◌≡◌}
use Rattle.cabling.specs.Cabling.{plug_all, plug_host}
use Rattle.cabling.proofs.plug_hosts.Given as goal

abbrev pub invariant-loop-i : goal.invariant-loop-i
invariant-loop-i l = l.plugs ≡ plug_all (plug_host l.n.hosts) l.i l.initial.plugs
