-- Switch after switch, two bytes are put behind those of the switches before it, and a salt.
use Rattle.network.specs.Network.{no_switch}
use Rattle.layout.specs.Layout.{switch_bytes, switches_at}
use Rattle.layout.proofs.Loops.{Column, Rows}
use Rattle.layout.proofs.description.lay_switches.Given as goal

abbrev pub invariant-loop-i : goal.invariant-loop-i
invariant-loop-i l = Rows switch_bytes 2 no_switch l.switches l.initial.bytes switches_at l.i l.bytes × Column (λ x. x.salt) no_switch l.switches l.initial.salts 0 l.i l.salts
