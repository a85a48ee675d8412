-- What an accepted network is, in words: the statement is `AcceptedIsSound`, and proofs/Laws has its term. The network's switches, hosts and links are
-- named by number, as element i of `switches_of`, `hosts_of` and `links_of`.
use Rattle.std.specs.Prelude.{ℕ, ◌≤◌, ◌<◌, ◌^◌, ◌≡◌, ◌⊎◌, ◌≢◌, List, length, get_or}
use Rattle.network.specs.declared.Port.{Port}
use Rattle.network.specs.declared.Switch.{Switch}
use Rattle.network.specs.declared.Host.{Host}
use Rattle.network.specs.declared.Link.{Link}
use Rattle.network.specs.declared.Network.{Network}
use Rattle.network.specs.Network.{most_switches, most_hosts, most_links, no_switch, no_host, no_link, switches_of, hosts_of, links_of}
use Rattle.wire.specs.Address.{Source}
use Rattle.network.specs.Checks.{network_fault}

-- a switch's numbers are in range
pub record FineSwitch (s : Switch) : Type 0 where
  pub least : 1 ≤ s.ports
  pub most : s.ports ≤ 8
  pub limit : s.limit ≤ 62
  pub salt : s.salt < 2 ^ 32

-- there is such a switch, and it has such a port
pub record Standing (ss : List Switch) (p : Port) : Type 0 where
  pub switch : p.switch < length ss
  pub number : p.number < (get_or ss p.switch no_switch).ports

-- a host's cable goes to a port that there is, and its address is a source
pub record FineHost (ss : List Switch) (h : Host) : Type 0 where
  pub port : Standing ss h.port
  pub address : Source h.address

-- a link's ends are two ports that there are
pub record FineLink (ss : List Switch) (l : Link) : Type 0 where
  pub first : Standing ss l.first
  pub second : Standing ss l.second
  pub two : l.first ≢ l.second

-- a link has an end on a port
abbrev pub EndsOn : Port → Link → Type 0
EndsOn p l = (l.first ≡ p) ⊎ (l.second ≡ p)

-- a network of these switches, hosts and links: not too many, each in order, no address twice, and no port with two cables
pub record SoundOf (ss : List Switch) (hs : List Host) (ls : List Link) : Type 0 where
  pub few_switches : length ss ≤ most_switches
  pub few_hosts : length hs ≤ most_hosts
  pub few_links : length ls ≤ most_links
  pub switch : (i : ℕ) → i < length ss → FineSwitch (get_or ss i no_switch)
  pub host : (i : ℕ) → i < length hs → FineHost ss (get_or hs i no_host)
  pub link : (i : ℕ) → i < length ls → FineLink ss (get_or ls i no_link)
  pub address_once : (i j : ℕ) → i < length hs → j < length hs → (get_or hs i no_host).address ≡ (get_or hs j no_host).address → i ≡ j
  pub host_alone : (i j : ℕ) → i < length hs → j < length hs → (get_or hs i no_host).port ≡ (get_or hs j no_host).port → i ≡ j
  pub host_or_link : (i j : ℕ) → i < length hs → j < length ls → EndsOn (get_or hs i no_host).port (get_or ls j no_link) → ⊥
  pub link_alone : (p : Port) (i j : ℕ) → i < length ls → j < length ls → EndsOn p (get_or ls i no_link) → EndsOn p (get_or ls j no_link) → i ≡ j

abbrev pub Sound : Network → Type 0
Sound n = SoundOf (switches_of n) (hosts_of n) (links_of n)

-- what reader and writer accept is sound
abbrev pub AcceptedIsSound : Type 0
AcceptedIsSound = (n : Network) → network_fault n ≡ 0 → Sound n
