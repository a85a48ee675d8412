-- Words for what arrives and what is sent.
use Rattle.std.specs.Prelude.{◌≡◌, Bool, true, false, List, ℕ, ◌≤◌, ◌<◌}
use Rattle.wire.specs.Address.{Source}
use Rattle.filter.specs.Filter.{holds}
use Rattle.rules.specs.Mask.{names}
use Rattle.rules.specs.Rules.{too_old, triple_of}
use Rattle.rules.specs.declared.Setup.{Setup}
use Rattle.rules.specs.declared.Arrival.{Arrival}
use Rattle.rules.specs.declared.Send.{Send}

-- an arrival at a switch of n ports: from a source address, on one of the ports, one hop or more away
pub record Arrives (n : ℕ) (a : Arrival) : Type 0 where
  pub source : Source a.source
  pub port : a.port < n
  pub hops : 1 ≤ a.header.hc

-- the filter holds the arrival's triple
abbrev pub heard : Setup → List ℕ → Arrival → Bool
heard s f a = holds f s.salt (triple_of a a.header)

-- within the limit, with F set or clear
pub record Within (floods : Bool) (s : Setup) (a : Arrival) : Type 0 where
  pub young : too_old s a ≡ false
  pub flag : a.header.f ≡ floods

-- a flood's copy, F set
abbrev pub Floods : Setup → Arrival → Type 0
Floods = Within true

-- what is sent goes to live ports only, and carries the arrival's hop count, which is within the limit, and its nonce
pub record Fair (s : Setup) (a : Arrival) (c : Send) : Type 0 where
  pub live : (p : ℕ) → names c.mask p ≡ true → names s.live p ≡ true
  pub limit : a.header.hc ≤ s.limit
  pub hc : c.header.hc ≡ a.header.hc
  pub nonce : c.header.nonce ≡ a.header.nonce
