-- What is plugged into each port of a stand, and what a switch's setup follows from (document 01, "Network description" and "The bench").
-- Callers cite `plug_at` of `plugs_of`, `port_of` and `setup_of`, by the laws of proofs/Laws; the numbers in between are how the plugs are kept.
use Rattle.std.specs.Prelude.{ℕ, zero, suc, ◌+◌, ◌*◌, ◌-◌, ◌/◌, ◌%◌, ◌^◌, ◌<◌, ◌≤◌, min, Bool, true, false, cond, not, List, get_or, set, replicate, eqb, ltb}
use Rattle.network.specs.declared.Port.{Port}
use Rattle.network.specs.declared.Switch.{Switch}
use Rattle.network.specs.declared.Host.{Host}
use Rattle.network.specs.declared.Link.{Link}
use Rattle.network.specs.declared.Network.{Network}
use Rattle.network.specs.Network.{most_hosts, most_links, no_switch, no_host, no_link, limit_of}
use Rattle.rules.specs.declared.Setup.{Setup}
use Rattle.rules.specs.Mask.{only}
use Rattle.cabling.specs.declared.End.{End}
use Rattle.cabling.specs.declared.Plug.{Plug}
use Rattle.cabling.specs.declared.Plug.TheVariants.{Open, Host as OfHost, Link as OfLink}

-- ---- Switches, hosts and ends of links by number; all zeros where there is none

-- switch k
abbrev pub switch_at : Network → ℕ → Switch
switch_at n k = get_or n.switches k no_switch

-- host i
abbrev pub host_at : Network → ℕ → Host
host_at n i = get_or n.hosts i no_host

-- the first end of link l, and its second
abbrev pub first_of : ℕ → End
first_of l = record { link = l; second = false }

abbrev pub second_of : ℕ → End
second_of l = record { link = l; second = true }

-- the link's other end
abbrev pub other_end : End → End
other_end e = record { link = e.link; second = not e.second }

-- the port at an end of a link
unfoldable pub port_of : Network → End → Port
port_of n e = cond e.second (get_or n.links e.link no_link).second (get_or n.links e.link no_link).first

-- a switch has at most so many ports
abbrev pub most_ports : ℕ
most_ports = 8

-- there is such a switch, and it has such a port
pub record Stands (n : Network) (p : Port) : Type 0 where
  pub switch : p.switch < n.nswitches
  pub number : p.number < (switch_at n p.switch).ports
  pub few : p.number < most_ports

-- ---- Numbers for what is plugged in: 0 for nothing

-- the places of 16 switches' ports
abbrev pub places : ℕ
places = 128

-- a port's place: switch by switch, port by port
abbrev pub place_of : Port → ℕ
place_of p = p.switch * most_ports + p.number

-- host i's number
abbrev pub host_plug : ℕ → ℕ
host_plug i = 1 + i

-- the number of an end of a link
abbrev pub end_plug : End → ℕ
end_plug e = cond e.second 34 33 + 2 * e.link

-- what a number stands for
unfoldable pub plug_in : ℕ → Plug
plug_in x = cond (ltb x 1) Open (cond (ltb x 33) (OfHost (x - 1)) (OfLink (record { link = (x - 33) / 2; second = eqb ((x - 33) % 2) 1 })))

-- ---- What is plugged into each port

-- host i's port has its number
unfoldable pub plug_host : List Host → ℕ → List ℕ → List ℕ
plug_host hs i ps = set ps (place_of (get_or hs i no_host).port) (host_plug i)

-- the ports of link i have the numbers of its ends
unfoldable pub plug_link : List Link → ℕ → List ℕ → List ℕ
plug_link ls i ps =
    set (set ps (place_of (get_or ls i no_link).first) (end_plug (first_of i))) (place_of (get_or ls i no_link).second) (end_plug (second_of i))

-- so many are plugged in, one after the other
unfoldable pub plug_all : (ℕ → List ℕ → List ℕ) → ℕ → List ℕ → List ℕ
plug_all plug zero ps = ps
plug_all plug (suc i) ps = plug i (plug_all plug i ps)

-- the number of what is plugged in, at each place. No accepted network has more hosts or links, and there are no more numbers
unfoldable pub plugs_of : Network → List ℕ
plugs_of n =
    plug_all (plug_link n.links) (min n.nlinks most_links)
    (plug_all (plug_host n.hosts) (min n.nhosts most_hosts) (replicate places 0))

-- what is plugged into port p of switch k; no switch has a port from 8 on
unfoldable pub plug_at : List ℕ → ℕ → ℕ → Plug
plug_at ps k p = cond (ltb p most_ports) (plug_in (get_or ps (k * most_ports + p) 0)) Open

-- ---- The setup of a switch

-- host ports are always up, a link's as the link is, ports with no cable are down
unfoldable pub is_live : List Bool → Plug → Bool
is_live up Open = false
is_live up (OfHost i) = true
is_live up (OfLink e) = get_or up e.link false

-- a host's port
unfoldable pub is_hosts : Plug → Bool
is_hosts Open = false
is_hosts (OfHost i) = true
is_hosts (OfLink e) = false

-- the mask of those ports below a number for which it holds
unfoldable pub mask_of : (ℕ → Bool) → ℕ → ℕ
mask_of is zero = 0
mask_of is (suc p) = mask_of is p + cond (is p) (only p) 0

-- the setup that switch k has with these plugs and these links up
unfoldable pub setup_of : Network → List ℕ → List Bool → ℕ → Setup
setup_of n ps up k =
    record {
      ports = (switch_at n k).ports;
      live = mask_of (λ p. is_live up (plug_at ps k p)) (switch_at n k).ports;
      host = mask_of (λ p. is_hosts (plug_at ps k p)) (switch_at n k).ports;
      limit = limit_of (switch_at n k);
      salt = (switch_at n k).salt;
    }

-- a setup that a switch can have: 1 to 8 ports, masks that name no others, a hop limit 1 to 62
pub record FineSetup (s : Setup) : Type 0 where
  pub some_ports : 1 ≤ s.ports
  pub few_ports : s.ports ≤ most_ports
  pub live_ports : s.live < 2 ^ s.ports
  pub host_ports : s.host < 2 ^ s.ports
  pub some_limit : 1 ≤ s.limit
  pub low_limit : s.limit ≤ 62
  pub salt : s.salt < 2 ^ 32
