-- Head after head, 64 numbers are put behind those of the heads before it.
use Rattle.bench.specs.Bench.{no_seat}
use Rattle.layout.specs.Layout.{slot_hops_at}
use Rattle.layout.proofs.Loops.{Rows}
use Rattle.layout.proofs.heads.lay_hops.Given as goal

abbrev pub invariant-loop-k : goal.invariant-loop-k
invariant-loop-k l = Rows (λ s. s.switch.table.hops) 64 no_seat l.seats l.initial.bytes slot_hops_at l.k l.bytes
