-- Copy after copy, its three words are put behind those of the copies before it.
use Prim.Native.Nat.{ℕ, ◌<◌}
use lib.ListN.{get_or}
use Rattle.flight.specs.Flight.{Ranged, no_copy, pack}
use Rattle.layout.specs.Layout.{copies_at}
use Rattle.layout.proofs.Loops.{Rows}
use Rattle.layout.proofs.links.lay_copies.Given as goal

abbrev pub invariant-loop-i : goal.invariant-loop-i
invariant-loop-i l = Rows pack 3 no_copy l.copies l.initial.wides copies_at l.i l.wides × ((k : ℕ) → k < l.i → Ranged (get_or l.copies k no_copy))
