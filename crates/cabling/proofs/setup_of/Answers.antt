use Rattle.cabling.proofs.Setups.{setup_is}
use Rattle.cabling.proofs.Masks.{masking_starts, masking_next, masking_room}
use native.Mathlib.Omega.{arith}
use Rattle.cabling.proofs.setup_of.Goals as goal

pub loop-p-init : goal.loop-p-init
loop-p-init c = (masking_starts, masking_starts)

pub overflow_add-live : goal.overflow_add-live
overflow_add-live c = omega (arith, masking_room c.loop-p.invariant.0 c.plug_at-plug.ensures c.is_live.ensures c.bit_of-live.ensures (omega arith))

pub overflow_add-host : goal.overflow_add-host
overflow_add-host c = omega (arith, masking_room c.loop-p.invariant.1 c.plug_at-plug.ensures c.is_hosts.ensures c.bit_of-host.ensures (omega arith))

pub loop-p-preserved : goal.loop-p-preserved
loop-p-preserved c = (masking_next c.loop-p.invariant.0 c.plug_at-plug.ensures c.is_live.ensures c.bit_of-live.ensures, masking_next c.loop-p.invariant.1 c.plug_at-plug.ensures c.is_hosts.ensures c.bit_of-host.ensures)

pub returns : goal.returns
returns c = setup_is _ _ _ _ c.switch-s.ensures (omega arith) c.loop-p.invariant.0 c.loop-p.invariant.1 c.hop_limit.ensures
