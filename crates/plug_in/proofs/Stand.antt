-- Facts of an accepted network, in the words of a turn: how many hosts it has, its hosts' addresses and ports, and what is plugged in where.
use Prim.Native.Nat.{ℕ, zero, suc, ◌≤◌, ◌<◌}
use mathlib.Core.Path.{◌≡◌, refl, sym, ap, subst, ◌∙◌}
use mathlib.Core.Logic.{by_cases}
use mathlib.Core.Bool.{Bool}
use mathlib.Core.List.{List, [], ◌∷◌, Memᴰ}
use native.Mathlib.Decide.{ℕ_discrete}
use native.Mathlib.Omega.{arith}
use lib.ListN.{get_or, length}
use Rattle.wire.specs.Address.{Source}
use Rattle.network.specs.declared.Network.{Network}
use Rattle.network.specs.declared.Host.{Host}
use Rattle.network.specs.Network.{hosts_of, most_hosts, no_host}
use Rattle.network.specs.Checks.{network_fault}
use Rattle.network.proofs.Laws.{accepted_is_sound, host_is, hosts_long}
use Rattle.rules.specs.Mask.{names}
use Rattle.cabling.specs.declared.End.{End}
use Rattle.cabling.specs.declared.Plug.TheVariants.{Host as OfHost, Link as OfLink}
use Rattle.cabling.specs.Cabling.{Stands, is_live, plugs_of, port_of, setup_of}
use Rattle.cabling.proofs.Laws as cabling
use Rattle.turn.specs.Turn.{host_of, plug_of}

-- an address is that of a host
pub record IsHosts (n : Network) (x : ℕ) : Type 0 where
  pub host : ℕ
  pub there : host < n.nhosts
  pub is : (host_of n host).address ≡ x

module _ (n : Network) (fine : network_fault n ≡ 0) where
  -- at most 32 hosts
  pub few_hosts : n.nhosts ≤ most_hosts
  few_hosts = rw (hosts_long n) at (accepted_is_sound n fine).few_hosts

  -- the list has as many as there are
  counted : {i : ℕ} → i < n.nhosts → i < length (hosts_of n)
  counted h = rw (hosts_long n) h

  -- element i of the hosts is host i
  listed : (i : ℕ) → i < n.nhosts → get_or (hosts_of n) i no_host ≡ host_of n i
  unfolding host_of
  listed i h = host_is n i h

  -- a host's address is a source
  pub host_source : (i : ℕ) → i < n.nhosts → Source (host_of n i).address
  host_source i h = subst (λ (host : Host). Source host.address) (listed i h) ((accepted_is_sound n fine).host i (counted h)).address

  -- no two hosts have one address
  pub address_once : (i j : ℕ) → i < n.nhosts → j < n.nhosts → (host_of n i).address ≡ (host_of n j).address → i ≡ j
  address_once i j h l e =
      (accepted_is_sound n fine).address_once i j (counted h) (counted l)
      (ap (λ (host : Host). host.address) (listed i h) ∙ e ∙ sym (ap (λ (host : Host). host.address) (listed j l)))

  -- a host's cable goes to a port that there is
  pub host_stands : (i : ℕ) → i < n.nhosts → Stands n (host_of n i).port
  unfolding host_of
  host_stands = cabling.host_stands n fine

  -- it is plugged in there,
  pub host_plugged : (i : ℕ) → i < n.nhosts → plug_of n (host_of n i).port.switch (host_of n i).port.number ≡ OfHost i
  unfolding host_of plug_of
  host_plugged = cabling.at_host n fine

  -- and nowhere else
  pub host_there : (k p i : ℕ) → plug_of n k p ≡ OfHost i → (i < n.nhosts) × ((host_of n i).port.switch ≡ k) × ((host_of n i).port.number ≡ p)
  unfolding host_of plug_of
  host_there = cabling.host_there n fine

  -- and so is the end of a link
  pub end_plugged : (e : End) → e.link < n.nlinks → plug_of n (port_of n e).switch (port_of n e).number ≡ OfLink e
  unfolding plug_of
  end_plugged = cabling.at_end n fine

  -- and nowhere else
  pub end_there : (k p : ℕ) (e : End) → plug_of n k p ≡ OfLink e → (e.link < n.nlinks) × ((port_of n e).switch ≡ k) × ((port_of n e).number ≡ p)
  unfolding plug_of
  end_there = cabling.link_there n fine

  module _ (up : List Bool) where
    -- a host's port is always live, a link's as the link is
    pub live_is : (k p : ℕ) → names (setup_of n (plugs_of n) up k).live p ≡ is_live up (plug_of n k p)
    unfolding plug_of
    live_is = cabling.live_is n fine up

-- ---- Their addresses in a list

-- the addresses of the first hosts
abbrev pub addresses : Network → ℕ → List ℕ
addresses n zero = []
addresses n (suc i) = (host_of n i).address ∷ addresses n i

-- as many as there are hosts
pub addresses_length : (n : Network) (i : ℕ) → length (addresses n i) ≡ i
addresses_length n zero = refl
addresses_length n (suc i) = ap suc (addresses_length n i)

-- each stands in it
address_listed : (n : Network) (i j : ℕ) → i < j → Memᴰ (host_of n i).address (addresses n j)
address_listed n i zero h = absurd (omega arith)
address_listed n i (suc j) h = by_cases (ℕ_discrete i j) (λ e. Memᴰ.head (ap (λ k. (host_of n k).address) e)) (λ d. Memᴰ.tail (address_listed n i j (omega arith)))

-- a host's address stands in the list of all
pub hosts_listed : (n : Network) {x : ℕ} → IsHosts n x → Memᴰ x (addresses n n.nhosts)
hosts_listed n {x} v = subst (λ y. Memᴰ y (addresses n n.nhosts)) v.is (address_listed n v.host n.nhosts v.there)
