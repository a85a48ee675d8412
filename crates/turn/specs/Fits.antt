-- What refusal 28 asks of a head and of a copy in flight, in words.
use Rattle.std.specs.Prelude.{ℕ, ◌^◌, ◌<◌, ◌≤◌, ◌≡◌, Bool, true, false, List, get_or}
use Rattle.wire.specs.Address.{Source}
use Rattle.network.specs.declared.Network.{Network}
use Rattle.head.specs.Switch.{WellFormed}
use Rattle.cabling.specs.Cabling.{plugs_of, setup_of}
use Rattle.seat.specs.declared.Seat.{Seat}
use Rattle.flight.specs.declared.Copy.{Copy}

-- head k: ports, limit, salt and masks follow from description and link states, and refusal 1 doesn't name it
pub record SeatFits (n : Network) (up : List Bool) (k : ℕ) (s : Seat) : Type 0 where
  pub setup : s.switch.setup ≡ setup_of n (plugs_of n) up k
  pub formed : WellFormed s.switch s.cells

-- a copy: on a live link, its source neither zero nor group, its destination not zero, HC 1 to 63, its nonce below 2^24
pub record CopyFits (n : Network) (up : List Bool) (c : Copy) : Type 0 where
  pub link : c.link < n.nlinks
  pub live : get_or up c.link false ≡ true
  pub source : Source c.source
  pub destination_some : 1 ≤ c.destination
  pub destination_below : c.destination < 2 ^ 48
  pub hops_some : 1 ≤ c.header.hc
  pub hops_few : c.header.hc ≤ 63
  pub nonce : c.header.nonce < 2 ^ 24
