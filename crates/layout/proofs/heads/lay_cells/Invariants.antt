-- Head after head, 640 bytes are put behind those of the heads before it.
use Rattle.bench.specs.Bench.{no_seat}
use Rattle.layout.specs.Layout.{cells_at}
use Rattle.layout.proofs.Loops.{Rows}
use Rattle.layout.proofs.heads.lay_cells.Given as goal

abbrev pub invariant-loop-k : goal.invariant-loop-k
invariant-loop-k l = Rows (λ s. s.cells) 640 no_seat l.seats l.initial.bytes cells_at l.k l.bytes
