-- Both masks are those of the ports passed; the ports from 8 on, which are not passed, add nothing.
use Rattle.cabling.proofs.Masks.{Masking}
use Rattle.cabling.specs.Cabling.{is_live, is_hosts, plug_at}
use Rattle.cabling.proofs.setup_of.Given as goal

abbrev pub invariant-loop-p : goal.invariant-loop-p
invariant-loop-p l = Masking (is_live l.up) (plug_at l.plugs l.switch) l.p l.live × Masking is_hosts (plug_at l.plugs l.switch) l.p l.host
