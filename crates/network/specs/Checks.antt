-- The checks of one record, given the network that the records before it made: one definition for reader and writer.
-- `record_fault` and `records_fault` are the interface; each test below is the cause of the number beside it.
use Rattle.std.specs.Prelude.{ℕ, ◌+◌, ◌*◌, ◌-◌, ◌^◌, Bool, false, not, ◌&&◌, ◌||◌, List, [], ◌∷◌, get_or, eqb, ltb, leb}
use Rattle.refusal.specs.Refusal.{Cause, when, first}
use Rattle.wire.specs.Address.{group_bit}
use Rattle.network.specs.declared.Port.{Port}
use Rattle.network.specs.declared.Switch.{Switch}
use Rattle.network.specs.declared.Host.{Host}
use Rattle.network.specs.declared.Link.{Link}
use Rattle.network.specs.declared.Network.{Network}
use Rattle.network.specs.declared.Record.{Record}
use Rattle.network.specs.declared.Record.TheVariants.{Switch as OfSwitch, Host as OfHost, Link as OfLink}
use Rattle.network.specs.Network.{most_switches, most_hosts, most_links, no_switch, no_host, no_link, hosts_of, links_of, empty_network, add, records}

-- one of a list passes a test
unfoldable pub any : {A : Type 0} → (A → Bool) → List A → Bool
any test [] = false
any test (x ∷ xs) = test x || any test xs

-- a port as one number, which orders by switch and then by port
abbrev pub place : Port → ℕ
place p = p.switch * 256 + p.number

-- a host or a link has its cable, or one of its ends, on a port
abbrev pub host_on : ℕ → Host → Bool
host_on at h = eqb (place h.port) at

abbrev pub link_on : ℕ → Link → Bool
link_on at l = eqb (place l.first) at || eqb (place l.second) at

-- a host has an address
abbrev pub has_address : ℕ → Host → Bool
has_address address h = eqb h.address address

-- a port has a cable
unfoldable pub taken : Network → Port → Bool
taken n p = any (host_on (place p)) (hosts_of n) || any (link_on (place p)) (links_of n)

-- there is such a switch, and it has such a port
unfoldable pub stands : Network → Port → Bool
stands n p = ltb p.switch n.nswitches && ltb p.number (get_or n.switches p.switch no_switch).ports

-- there is a last one of so many, and a port is not above it
unfoldable pub not_above : ℕ → Port → Port → Bool
not_above count last p = not (eqb count 0) && leb (place p) (place last)

-- 25: there are as many of its kind as there may be
unfoldable pub too_many : Network → Record → Bool
too_many n (OfSwitch s) = leb most_switches n.nswitches
too_many n (OfHost h) = leb most_hosts n.nhosts
too_many n (OfLink l) = leb most_links n.nlinks

-- 26: the kind falls, a host or a link doesn't ascend, or a link's first end isn't below its second
unfoldable pub out_of_order : Network → Record → Bool
out_of_order n (OfSwitch s) = ltb 0 n.nhosts || ltb 0 n.nlinks
out_of_order n (OfHost h) = ltb 0 n.nlinks || not_above n.nhosts (get_or n.hosts (n.nhosts - 1) no_host).port h.port
out_of_order n (OfLink l) =
    leb (place l.second) (place l.first) || not_above n.nlinks (get_or n.links (n.nlinks - 1) no_link).first l.first

-- a salt of more than 32 bits, which no switch has; ports not 1 to 8; hop limit above 62
unfoldable pub switch_out : Switch → Bool
switch_out s = leb (2 ^ 32) s.salt || ltb s.ports 1 || ltb 8 s.ports || ltb 62 s.limit

-- 22: number out of range, no such switch or port
unfoldable pub out_of_range : Network → Record → Bool
out_of_range n (OfSwitch s) = switch_out s
out_of_range n (OfHost h) = not (stands n h.port) || leb (2 ^ 48) h.address
out_of_range n (OfLink l) = not (stands n l.first) || not (stands n l.second)

-- 23: port already taken
unfoldable pub port_taken : Network → Record → Bool
port_taken n (OfSwitch s) = false
port_taken n (OfHost h) = taken n h.port
port_taken n (OfLink l) = taken n l.first || taken n l.second

-- an address is zero, group, or that of a host of the network
unfoldable pub address_out : Network → ℕ → Bool
address_out n address = eqb address 0 || eqb (group_bit address) 1 || any (has_address address) (hosts_of n)

-- 24: address zero, group, or twice
unfoldable pub bad_address : Network → Record → Bool
bad_address n (OfSwitch s) = false
bad_address n (OfHost h) = address_out n h.address
bad_address n (OfLink l) = false

-- what a record can be refused for behind the network of those before it
abbrev pub causes : Network → Record → List Cause
causes n r =
    when 25 (too_many n r)
    ∷ when 26 (out_of_order n r)
    ∷ when 22 (out_of_range n r)
    ∷ when 23 (port_taken n r)
    ∷ when 24 (bad_address n r)
    ∷ []

-- a record's refusal number, 0 for none
unfoldable pub record_fault : Network → Record → ℕ
record_fault n r = first (causes n r)

-- the number that other checks gave, as a cause: it holds unless it is 0
abbrev pub checked : ℕ → Cause
checked number = when number (not (eqb number 0))

-- the refusal number of a list of records: the first faulty record decides
unfoldable pub records_fault : Network → List Record → ℕ
records_fault n [] = 0
records_fault n (r ∷ rs) = first (checked (record_fault n r) ∷ checked (records_fault (add n r) rs) ∷ [])

-- the refusal number of a network: that of its records
unfoldable pub network_fault : Network → ℕ
network_fault n = records_fault empty_network (records n)
