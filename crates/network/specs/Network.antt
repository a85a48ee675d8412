-- A network as a value, and the records that its description has (document 01, "Network description").
-- An array's unused places are no part of the network: callers cite `switches_of`, `hosts_of`, `links_of` and `records`.
use Rattle.std.specs.Prelude.{ℕ, zero, suc, ◌+◌, ◌-◌, cond, List, [], ◌∷◌, ◌++◌, map, set, replicate, length, eqb}
use Rattle.network.specs.declared.Port.{Port}
use Rattle.network.specs.declared.Switch.{Switch}
use Rattle.network.specs.declared.Host.{Host}
use Rattle.network.specs.declared.Link.{Link}
use Rattle.network.specs.declared.Network.{Network}
use Rattle.network.specs.declared.Record.{Record}
use Rattle.network.specs.declared.Record.TheVariants.{Switch as OfSwitch, Host as OfHost, Link as OfLink}

-- how many switches, hosts and links a network may have
abbrev pub most_switches : ℕ
most_switches = 16

abbrev pub most_hosts : ℕ
most_hosts = 32

abbrev pub most_links : ℕ
most_links = 64

-- a switch's hop limit: 0 means the default, 16
unfoldable pub limit_of : Switch → ℕ
limit_of s = cond (eqb s.limit 0) 16 s.limit

-- an unused place of each array: all zeros
abbrev pub no_port : Port
no_port = record { switch = 0; number = 0 }

abbrev pub no_switch : Switch
no_switch = record { ports = 0; limit = 0; salt = 0 }

abbrev pub no_host : Host
no_host = record { port = no_port; address = 0 }

abbrev pub no_link : Link
no_link = record { first = no_port; second = no_port }

-- the network of no records, all places unused
unfoldable pub empty_network : Network
empty_network =
    record {
      switches = replicate most_switches no_switch;
      hosts = replicate most_hosts no_host;
      links = replicate most_links no_link;
      nswitches = 0;
      nhosts = 0;
      nlinks = 0;
    }

-- the first k of an array; a place behind its end counts as unused
unfoldable pub up_to : {A : Type 0} → A → ℕ → List A → List A
up_to unused zero xs = []
up_to unused (suc k) [] = unused ∷ up_to unused k []
up_to unused (suc k) (x ∷ xs) = x ∷ up_to unused k xs

-- the network's switches, hosts and links: as many as it counts
unfoldable pub switches_of : Network → List Switch
switches_of n = up_to no_switch n.nswitches n.switches

unfoldable pub hosts_of : Network → List Host
hosts_of n = up_to no_host n.nhosts n.hosts

unfoldable pub links_of : Network → List Link
links_of n = up_to no_link n.nlinks n.links

-- the records of its description: kinds never fall
unfoldable pub records : Network → List Record
records n = map (λ s. OfSwitch s) (switches_of n) ++ (map (λ h. OfHost h) (hosts_of n) ++ map (λ l. OfLink l) (links_of n))

-- the network with one record more
unfoldable pub add : Network → Record → Network
add n (OfSwitch s) =
    record {
      switches = set n.switches n.nswitches s;
      hosts = n.hosts;
      links = n.links;
      nswitches = n.nswitches + 1;
      nhosts = n.nhosts;
      nlinks = n.nlinks;
    }
add n (OfHost h) =
    record {
      switches = n.switches;
      hosts = set n.hosts n.nhosts h;
      links = n.links;
      nswitches = n.nswitches;
      nhosts = n.nhosts + 1;
      nlinks = n.nlinks;
    }
add n (OfLink l) =
    record {
      switches = n.switches;
      hosts = n.hosts;
      links = set n.links n.nlinks l;
      nswitches = n.nswitches;
      nhosts = n.nhosts;
      nlinks = n.nlinks + 1;
    }

-- the network with all of a list's records more
unfoldable pub built : Network → List Record → Network
built n [] = n
built n (r ∷ rs) = built (add n r) rs

-- an array of m places that starts with xs, the others unused
abbrev pub padded : {A : Type 0} → A → ℕ → List A → List A
padded unused m xs = xs ++ replicate (m - length xs) unused

-- the same network, its unused places all zeros
unfoldable pub cleared : Network → Network
cleared n =
    record {
      switches = padded no_switch most_switches (switches_of n);
      hosts = padded no_host most_hosts (hosts_of n);
      links = padded no_link most_links (links_of n);
      nswitches = n.nswitches;
      nhosts = n.nhosts;
      nlinks = n.nlinks;
    }
