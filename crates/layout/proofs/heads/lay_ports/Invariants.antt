-- Head after head, one number is put behind those of the heads before it, in each of three arrays.
use Rattle.bench.specs.Bench.{no_seat}
use Rattle.layout.specs.Layout.{ports_at}
use Rattle.layout.proofs.Loops.{Column}
use Rattle.layout.proofs.heads.lay_ports.Given as goal

abbrev pub invariant-loop-k : goal.invariant-loop-k
invariant-loop-k l =
    Column (λ s. s.switch.setup.ports) no_seat l.seats l.initial.bytes ports_at l.k l.bytes × Column (λ s. s.switch.setup.live) no_seat l.seats l.initial.masks 0 l.k l.masks
    × Column (λ s. s.switch.setup.salt) no_seat l.seats l.initial.words 0 l.k l.words
