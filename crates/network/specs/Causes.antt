-- Document 01, "Refusal numbers", 20 to 27: a record, the reader and the writer are each refused with n exactly when cause n holds and none before it, and
-- what each cause is in words. Each statement is a type; proofs/Causes has its term, under the same name in lower case.
use Rattle.std.specs.Prelude.{ℕ, ◌+◌, ◌-◌, ◌<◌, ◌≤◌, ◌≡◌, ◌↔◌, ◌⊎◌, ◌≢◌, length, get_or, drop}
use mathlib.Core.List.{List, [], ◌∷◌, ◌++◌, Memᴰ}
use Rattle.refusal.specs.Exact.{Decides, ForItsCauseOnly, InWords, Listed, Outside, listed}
use Rattle.wire.specs.Address.{address_bound, group_bit}
use Rattle.wire.specs.Wire.{AreBytes}
use Rattle.network.specs.declared.Port.{Port}
use Rattle.network.specs.declared.Host.{Host}
use Rattle.network.specs.declared.Link.{Link}
use Rattle.network.specs.declared.Network.{Network}
use Rattle.network.specs.declared.Record.{Record}
use Rattle.network.specs.declared.Record.TheVariants.{Switch as OfSwitch, Host as OfHost, Link as OfLink}
use Rattle.network.specs.Network.{most_switches, most_hosts, most_links, no_host, no_link, switches_of, hosts_of, links_of, empty_network, built, records}
use Rattle.network.specs.Format.{length_of, port_bytes, length_in, kind_in}
use Rattle.network.specs.Checks.{causes, record_fault, records_fault, network_fault}
use Rattle.network.specs.Describe.{version, scan_of, read_causes, read_fault, image, write_causes, write_fault}
use Rattle.network.specs.Sound.{EndsOn, FineSwitch, Standing}

-- ---- For the listed cause only

abbrev pub RecordsForItsCauseOnly : Type 0
RecordsForItsCauseOnly = (n : Network) (r : Record) → ForItsCauseOnly (record_fault n r) (causes n r)

abbrev pub ReadsForItsCauseOnly : Type 0
ReadsForItsCauseOnly = (b : List ℕ) → ForItsCauseOnly (read_fault b) (read_causes b)

abbrev pub WritesForItsCauseOnly : Type 0
WritesForItsCauseOnly = (n : Network) (room : ℕ) → ForItsCauseOnly (write_fault n room) (write_causes n room)

-- ---- The causes of a record, n being the network of those before it

-- one of a list is so
pub record Some {A : Type 0} (So : A → Type 0) (xs : List A) : Type 0 where
  pub one : A
  pub there : Memᴰ one xs
  pub so : So one

-- ports ascend by (switch, port)
abbrev pub Below : Port → Port → Type 0
Below p q = (p.switch < q.switch) ⊎ ((p.switch ≡ q.switch) × (p.number < q.number))

-- the last host, and the last link
abbrev pub last_host : Network → Host
last_host n = get_or n.hosts (n.nhosts - 1) no_host

abbrev pub last_link : Network → Link
last_link n = get_or n.links (n.nlinks - 1) no_link

-- 25: with it there are more than 16 switches, 32 hosts or 64 links
abbrev pub TooMany : Network → Record → Type 0
TooMany n (OfSwitch s) = most_switches < n.nswitches + 1
TooMany n (OfHost h) = most_hosts < n.nhosts + 1
TooMany n (OfLink l) = most_links < n.nlinks + 1

-- 26: the kind falls; a host isn't above the last one; a link's first end isn't below its second, or not above the last link's
abbrev pub OutOfOrder : Network → Record → Type 0
OutOfOrder n (OfSwitch s) = (0 < n.nhosts) ⊎ (0 < n.nlinks)
OutOfOrder n (OfHost h) = (0 < n.nlinks) ⊎ ((n.nhosts ≢ 0) × (Below (last_host n).port h.port → ⊥))
OutOfOrder n (OfLink l) = (Below l.first l.second → ⊥) ⊎ ((n.nlinks ≢ 0) × (Below (last_link n).first l.first → ⊥))

-- 22: a switch's numbers are out of range; no such switch or port, or an address of more than six bytes
abbrev pub OutOfRange : Network → Record → Type 0
OutOfRange n (OfSwitch s) = FineSwitch s → ⊥
OutOfRange n (OfHost h) = (Standing (switches_of n) h.port → ⊥) ⊎ (address_bound ≤ h.address)
OutOfRange n (OfLink l) = (Standing (switches_of n) l.first → ⊥) ⊎ (Standing (switches_of n) l.second → ⊥)

-- a host's cable or a link's end is on a port
abbrev pub Taken : Network → Port → Type 0
Taken n p = Some (λ h. h.port ≡ p) (hosts_of n) ⊎ Some (EndsOn p) (links_of n)

-- 23: port already taken
abbrev pub PortTaken : Network → Record → Type 0
PortTaken n (OfSwitch s) = ⊥
PortTaken n (OfHost h) = Taken n h.port
PortTaken n (OfLink l) = Taken n l.first ⊎ Taken n l.second

-- 24: address zero or group, or twice
abbrev pub BadAddress : Network → Record → Type 0
BadAddress n (OfSwitch s) = ⊥
BadAddress n (OfHost h) = ((h.address ≡ 0) ⊎ (group_bit h.address ≡ 1)) ⊎ Some (λ other. other.address ≡ h.address) (hosts_of n)
BadAddress n (OfLink l) = ⊥

abbrev pub record_words : Network → Record → List Listed
record_words n r =
    listed 25 (TooMany n r)
    ∷ listed 26 (OutOfOrder n r)
    ∷ listed 22 (OutOfRange n r)
    ∷ listed 23 (PortTaken n r)
    ∷ listed 24 (BadAddress n r)
    ∷ []

-- a record's ports are pairs of bytes, as their types say
abbrev pub InBytes : Record → Type 0
InBytes (OfSwitch s) = Unit {0}
InBytes (OfHost h) = AreBytes (port_bytes h.port)
InBytes (OfLink l) = AreBytes (port_bytes l.first) × AreBytes (port_bytes l.second)

-- and so are those of every record of a list
abbrev pub AllInBytes : List Record → Type 0
AllInBytes rs = (r : Record) → Memᴰ r rs → InBytes r

abbrev pub RecordCausesInWords : Type 0
RecordCausesInWords = (n : Network) (r : Record) → AllInBytes (records n) → InBytes r → InWords (causes n r) (record_words n r)

-- ---- The first faulty record decides

-- of records behind a network: one is refused with a number, and none before it is refused
pub record FirstFaulty (n : Network) (rs : List Record) (number : ℕ) : Type 0 where
  pub before : List Record
  pub faulty : Record
  pub behind : List Record
  pub listed : rs ≡ before ++ (faulty ∷ behind)
  pub none_before : records_fault n before ≡ 0
  pub decides : Decides number (causes (built n before) faulty)

abbrev pub FirstFaultyDecides : Type 0
FirstFaultyDecides = (n : Network) (rs : List Record) (number : ℕ) → number ≢ 0 → (records_fault n rs ≡ number) ↔ FirstFaulty n rs number

-- the causes of that record in words, those before it having made the network
abbrev pub FirstFaultyInWords : Type 0
FirstFaultyInWords =
    (rs : List Record) (number : ℕ) (f : FirstFaulty empty_network rs number) → AllInBytes rs
    → InWords (causes (built empty_network f.before) f.faulty) (record_words (built empty_network f.before) f.faulty)

-- ---- The causes of the reader and the writer

-- 20: there are bytes, and they don't start with a record. It is cut short before its kind byte, or its length is 0; or it isn't of an event's kind, and
-- its kind is unknown, its length is wrong for its kind, or it is cut short
pub record BadRecord (b : List ℕ) : Type 0 where
  pub some : length b ≢ 0
  pub bad : ((length b < 3) ⊎ (length_in b ≡ 0)) ⊎ (Outside 4 6 (kind_in b) × (Outside 1 3 (kind_in b) ⊎ (length_in b ≢ length_of (kind_in b)) ⊎ (length b < length_in b + 2)))

-- input over 60,000 bytes; description empty, or first byte not 1; the first faulty record's number; behind the records found, what is none
abbrev pub read_words : List ℕ → List Listed
read_words b =
    listed 25 (60000 < length b)
    ∷ listed 21 ((length b ≡ 0) ⊎ (get_or b 0 0 ≢ version))
    ∷ listed (records_fault empty_network (scan_of b).found) (FirstFaulty empty_network (scan_of b).found (records_fault empty_network (scan_of b).found))
    ∷ listed 20 (BadRecord (drop (scan_of b).end b))
    ∷ []

abbrev pub ReadCausesInWords : Type 0
ReadCausesInWords = (b : List ℕ) → InWords (read_causes b) (read_words b)

-- the first faulty record's number; description output too short
abbrev pub write_words : Network → ℕ → List Listed
write_words n room = listed (network_fault n) (FirstFaulty empty_network (records n) (network_fault n)) ∷ listed 27 (room < length (image n)) ∷ []

abbrev pub WriteCausesInWords : Type 0
WriteCausesInWords = (n : Network) (room : ℕ) → InWords (write_causes n room) (write_words n room)
