-- The words that the laws of a seat are said in.
use Rattle.std.specs.Prelude.{ℕ, ◌^◌, ◌≤◌, ◌<◌, ◌≡◌, true}
use Rattle.rules.specs.Mask.{names}
use Rattle.rules.specs.declared.Setup.{Setup}
use Rattle.rules.specs.declared.Send.{Send}
use Rattle.head.specs.Switch.{WellFormed}
use Rattle.seat.specs.declared.Seat.{Seat}

-- a setup that refusal 1 doesn't name: 1 to 16 ports, masks over them, a hop limit 1 to 62
pub record Lawful (s : Setup) : Type 0 where
  pub some_ports : 1 ≤ s.ports
  pub few_ports : s.ports ≤ 16
  pub live_ports : s.live < 2 ^ s.ports
  pub host_ports : s.host < 2 ^ s.ports
  pub some_limit : 1 ≤ s.limit
  pub low_limit : s.limit ≤ 62

-- a seat that refusal 1 doesn't name: switch and filter are well-formed
abbrev pub Formed : Seat → Type 0
Formed s = WellFormed s.switch s.cells

-- what a seat may send: on live ports only, with a hop count 1 to 62 and a nonce below 2^24
pub record MaySend (s : Seat) (c : Send) : Type 0 where
  pub live : (p : ℕ) → names c.mask p ≡ true → names s.switch.setup.live p ≡ true
  pub some_hops : 1 ≤ c.header.hc
  pub low_hops : c.header.hc ≤ 62
  pub nonce : c.header.nonce < 2 ^ 24
