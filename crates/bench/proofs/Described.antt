-- How many switches and links an accepted network has.
use Prim.Native.Nat.{◌≤◌}
use mathlib.Core.Path.{◌≡◌}
use native.Mathlib.Omega.{arith}
use Rattle.network.specs.declared.Network.{Network}
use Rattle.network.specs.Network.{most_links, most_switches}
use Rattle.network.specs.Checks.{network_fault}
use Rattle.network.proofs.Laws.{accepted_is_sound, links_long, switches_long}

module _ (n : Network) (fine : network_fault n ≡ 0) where
  pub few_switches : n.nswitches ≤ most_switches
  few_switches = omega (arith, (accepted_is_sound n fine).few_switches, switches_long n)

  pub few_links : n.nlinks ≤ most_links
  few_links = omega (arith, (accepted_is_sound n fine).few_links, links_long n)
