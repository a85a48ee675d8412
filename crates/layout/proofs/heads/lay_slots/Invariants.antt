-- Head after head, 64 numbers are put behind those of the heads before it, in each of two arrays.
use Rattle.bench.specs.Bench.{no_seat}
use Rattle.layout.specs.Layout.{slot_ports_at}
use Rattle.layout.proofs.Loops.{Rows}
use Rattle.layout.proofs.heads.lay_slots.Given as goal

abbrev pub invariant-loop-k : goal.invariant-loop-k
invariant-loop-k l = Rows (λ s. s.switch.table.ports) 64 no_seat l.seats l.initial.bytes slot_ports_at l.k l.bytes × Rows (λ s. s.switch.table.addresses) 64 no_seat l.seats l.initial.wides 0 l.k l.wides
