-- The setup of a switch, put together of its parts.
use mathlib.Core.Path.{◌≡◌}
use mathlib.Core.Bool.{Bool}
use mathlib.Core.List.{List}
use Prim.Native.Nat.{ℕ, ◌≤◌, min}
use borrow.Author.Tests.{le-ltb}
use Rattle.network.specs.declared.Switch.{Switch}
use Rattle.network.specs.declared.Network.{Network}
use Rattle.network.specs.Network.{limit_of}
use Rattle.rules.specs.declared.Setup.{Setup}
use Rattle.cabling.specs.declared.Plug.TheVariants.{Open}
use Rattle.cabling.specs.Cabling.{most_ports, plug_at, is_live, is_hosts, switch_at, setup_of}
use Rattle.cabling.proofs.Masks.{Masking, masking_ends}

-- no cable is at a port from 8 on
pub plug_above : (ps : List ℕ) (k p : ℕ) → most_ports ≤ p → plug_at ps k p ≡ Open
unfolding plug_at
plug_above ps k p h = rw (le-ltb p most_ports h)

pub setup_is : (n : Network) (ps : List ℕ) (up : List Bool) (k : ℕ) {s : Switch} {p live host limit : ℕ}
    → s ≡ switch_at n k → p ≡ min s.ports most_ports
    → Masking (is_live up) (plug_at ps k) p live → Masking is_hosts (plug_at ps k) p host → limit ≡ limit_of s
    → ◌≡◌ {A = Setup} (record { ports = s.ports; live = live; host = host; limit = limit; salt = s.salt }) (setup_of n ps up k)
unfolding setup_of is_live is_hosts
setup_is n ps up k {s} e all a b l =
    let lives = masking_ends s.ports most_ports a all (λ q h. rw (plug_above ps k q h)) in
    let hosts = masking_ends s.ports most_ports b all (λ q h. rw (plug_above ps k q h)) in
    rw (lives, hosts, l, e)
