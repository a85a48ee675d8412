-- Head after head, one number is put behind those of the heads before it, in each of three arrays.
use Rattle.bench.specs.Bench.{no_seat}
use Rattle.layout.specs.Layout.{host_masks_at, limits_at, nonces_at}
use Rattle.layout.proofs.Loops.{Column}
use Rattle.layout.proofs.heads.lay_limits.Given as goal

abbrev pub invariant-loop-k : goal.invariant-loop-k
invariant-loop-k l =
    Column (λ s. s.switch.setup.limit) no_seat l.seats l.initial.bytes limits_at l.k l.bytes × Column (λ s. s.switch.setup.host) no_seat l.seats l.initial.masks host_masks_at l.k l.masks
    × Column (λ s. s.switch.nonce) no_seat l.seats l.initial.words nonces_at l.k l.words
