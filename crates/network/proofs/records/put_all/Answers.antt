use native.Mathlib.Omega.{arith}
use Rattle.network.proofs.Writing.{filling_starts, filling_room, filling_next, filling_ends, filled}
use Rattle.network.proofs.records.put_all.Goals as goal

pub loop-i-init : goal.loop-i-init
loop-i-init c = filling_starts _ _ c.requires c.put_at.ensures

pub put_record-requires : goal.put_record-requires
put_record-requires c =
    filling_room c.loop-i.invariant
    (omega (arith, c.count-i-end.ensures))
    c.record_at-r.ensures

pub loop-i-preserved : goal.loop-i-preserved
loop-i-preserved c =
    filling_next c.loop-i.invariant
    (omega (arith, c.count-i-end.ensures))
    c.record_at-r.ensures c.put_record.ensures c.size-at.ensures

pub returns : goal.returns
returns c =
    filled _ _ c.requires
    c.put_at.ensures
    (filling_ends c.loop-i.invariant (omega (arith, c.count-i-end.ensures)))
