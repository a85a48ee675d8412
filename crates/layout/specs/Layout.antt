-- A network and a bench as arrays of numbers that a C caller lends:
--
--   network  bytes          355 u8   counts of switches, hosts and links; 16 switches of ports and limit; 32 hosts of switch and port; 64 links of two such ends
--            salts           16 u32  of the switches
--            addresses       32 u64  of the hosts
--   bench    bytes       12,384 u8   64 links' states; 16 heads' ports; their limits; their tables' 64 ports; their tables' 64 hops; their 640 bytes of cells
--            masks           32 u16  16 heads' live masks; their host masks
--            words           32 u32  16 heads' salts; their next nonces
--            wides        2,561 u64  16 heads' tables' 64 addresses; 512 copies of three words; how many of them are in flight
--
-- `network_in` and `bench_in` are what such arrays hold, `network_bytes` and so on what they are where a network or a bench was laid down.
use Rattle.std.specs.Prelude.{ℕ, zero, suc, ◌+◌, ◌*◌, ◌<◌, ◌≡◌, Bool, not, ◌&&◌, eqb, get_or, length, take, drop}
use mathlib.Core.List.{List, [], ◌∷◌, ◌++◌, map, flat_map}
use Rattle.frame.specs.Header.{bit}
use Rattle.wire.specs.Wire.{put}
use Rattle.network.specs.declared.Switch.{Switch}
use Rattle.network.specs.declared.Host.{Host}
use Rattle.network.specs.declared.Link.{Link}
use Rattle.network.specs.declared.Network.{Network}
use Rattle.network.specs.Network.{most_switches, most_hosts, most_links}
use Rattle.network.specs.Format.{port_bytes, port_in}
use Rattle.table.specs.Table.{slots, table_of}
use Rattle.rules.specs.declared.Setup.{Setup}
use Rattle.head.specs.Step.{switch_of}
use Rattle.seat.specs.declared.Seat.{Seat}
use Rattle.seat.specs.Seat.{cell_bytes, seat_of}
use Rattle.flight.specs.declared.Copy.{Copy}
use Rattle.flight.specs.Flight.{Ranged, most, no_copy, pack, unpack}
use Rattle.bench.specs.declared.Bench.{Bench}
use Rattle.bench.specs.Bench.{bench_of, no_seat}

-- ---- Where the parts begin

-- of a network's bytes, behind the three counts
abbrev pub switches_at : ℕ
switches_at = 3

abbrev pub hosts_at : ℕ
hosts_at = 35

abbrev pub links_at : ℕ
links_at = 99

-- of a bench's bytes, behind the links' states
abbrev pub ports_at : ℕ
ports_at = 64

abbrev pub limits_at : ℕ
limits_at = 80

abbrev pub slot_ports_at : ℕ
slot_ports_at = 96

abbrev pub slot_hops_at : ℕ
slot_hops_at = 1120

abbrev pub cells_at : ℕ
cells_at = 2144

-- of its masks, behind the live masks
abbrev pub host_masks_at : ℕ
host_masks_at = 16

-- of its words, behind the salts
abbrev pub nonces_at : ℕ
nonces_at = 16

-- of its wides, behind the addresses
abbrev pub copies_at : ℕ
copies_at = 1024

abbrev pub flying_at : ℕ
flying_at = 2560

-- ---- Arrays that can hold them

pub record HoldsNetwork (b s a : List ℕ) : Type 0 where
  pub bytes : length b ≡ 355
  pub salts : length s ≡ 16
  pub addresses : length a ≡ 32

pub record HoldsBench (b m w v : List ℕ) : Type 0 where
  pub bytes : length b ≡ 12384
  pub masks : length m ≡ 32
  pub words : length w ≡ 32
  pub wides : length v ≡ 2561

-- the same as tests of the lengths
abbrev pub network_fits : ℕ → ℕ → ℕ → Bool
network_fits bytes salts addresses = eqb bytes 355 && eqb salts 16 && eqb addresses 32

abbrev pub bench_fits : ℕ → ℕ → ℕ → ℕ → Bool
bench_fits bytes masks words wides = eqb bytes 12384 && eqb masks 32 && eqb words 32 && eqb wides 2561

-- a network whose arrays are as long as its type says
pub record SizedNetwork (n : Network) : Type 0 where
  pub switches : length n.switches ≡ most_switches
  pub hosts : length n.hosts ≡ most_hosts
  pub links : length n.links ≡ most_links

-- the heads of a bench, each with so many numbers of a kind
pub record Evenly (f : Seat → List ℕ) (w : ℕ) (ss : List Seat) : Type 0 where
  pub even : (k : ℕ) → k < most_switches → length (f (get_or ss k no_seat)) ≡ w

-- 16 heads with 64 slots and 64 cells each
pub record SizedSeats (ss : List Seat) : Type 0 where
  pub long : length ss ≡ most_switches
  pub addresses : Evenly (λ s. s.switch.table.addresses) slots ss
  pub ports : Evenly (λ s. s.switch.table.ports) slots ss
  pub hops : Evenly (λ s. s.switch.table.hops) slots ss
  pub cells : Evenly (λ s. s.cells) cell_bytes ss

-- 512 copies with numbers that their types hold
pub record RangedCopies (cs : List Copy) : Type 0 where
  pub long : length cs ≡ most
  pub ranged : (i : ℕ) → i < most → Ranged (get_or cs i no_copy)

-- a bench whose arrays are as long as its type says, and whose copies' numbers are within theirs
pub record SizedBench (b : Bench) : Type 0 where
  pub up : length b.up ≡ most_links
  pub seats : SizedSeats b.seats
  pub copies : RangedCopies b.copies

-- ---- What they hold

-- so many values, one for each number from 0 on
unfoldable pub listed : {A : Type 0} → ℕ → (ℕ → A) → List A
listed zero f = []
listed (suc k) f = listed k f ++ (f k ∷ [])

-- block i of w numbers, the first of them at a place
abbrev pub block : ℕ → ℕ → ℕ → List ℕ → List ℕ
block at w i l = take w (drop (at + w * i) l)

-- number j of block i
abbrev pub in_block : ℕ → ℕ → ℕ → ℕ → List ℕ → ℕ
in_block at w i j l = get_or (block at w i l) j 0

-- switch i
unfoldable pub switch_in : List ℕ → List ℕ → ℕ → Switch
switch_in bytes salts i = record { ports = in_block switches_at 2 i 0 bytes; limit = in_block switches_at 2 i 1 bytes; salt = get_or salts i 0 }

-- host i
unfoldable pub host_in : List ℕ → List ℕ → ℕ → Host
host_in bytes addresses i = record { port = port_in 0 (block hosts_at 2 i bytes); address = get_or addresses i 0 }

-- link i
unfoldable pub link_in : List ℕ → ℕ → Link
link_in bytes i = record { first = port_in 0 (block links_at 4 i bytes); second = port_in 2 (block links_at 4 i bytes) }

-- the network that three arrays hold
unfoldable pub network_in : List ℕ → List ℕ → List ℕ → Network
network_in bytes salts addresses =
    record {
      switches = listed most_switches (switch_in bytes salts);
      hosts = listed most_hosts (host_in bytes addresses);
      links = listed most_links (link_in bytes);
      nswitches = get_or bytes 0 0;
      nhosts = get_or bytes 1 0;
      nlinks = get_or bytes 2 0;
    }

-- whether link i is up: 0 is down, anything else up
unfoldable pub up_in : List ℕ → ℕ → Bool
up_in bytes i = not (eqb (get_or bytes i 0) 0)

-- head k: its setup, and all of it
unfoldable pub setup_in : List ℕ → List ℕ → List ℕ → ℕ → Setup
setup_in bytes masks words k =
    record { ports = get_or bytes (ports_at + k) 0; live = get_or masks k 0; host = get_or masks (host_masks_at + k) 0; limit = get_or bytes (limits_at + k) 0; salt = get_or words k 0 }

unfoldable pub seat_in : List ℕ → List ℕ → List ℕ → List ℕ → ℕ → Seat
seat_in bytes masks words wides k =
    seat_of
    (switch_of (setup_in bytes masks words k) (get_or words (nonces_at + k) 0) (table_of (block 0 slots k wides) (block slot_ports_at slots k bytes) (block slot_hops_at slots k bytes)))
    (block cells_at cell_bytes k bytes)

-- copy i
unfoldable pub copy_in : List ℕ → ℕ → Copy
copy_in wides i = unpack (block copies_at 3 i wides)

-- the bench of a network that four arrays hold
unfoldable pub bench_in : Network → List ℕ → List ℕ → List ℕ → List ℕ → Bench
bench_in n bytes masks words wides =
    bench_of n (listed most_links (up_in bytes)) (listed most_switches (seat_in bytes masks words wides)) (listed most (copy_in wides)) (get_or wides flying_at 0)

-- ---- What they are where a value was laid down

abbrev pub switch_bytes : Switch → List ℕ
switch_bytes s = s.ports ∷ s.limit ∷ []

abbrev pub host_bytes : Host → List ℕ
host_bytes h = port_bytes h.port

abbrev pub link_bytes : Link → List ℕ
link_bytes l = port_bytes l.first ++ port_bytes l.second

-- a network
abbrev pub counts : Network → List ℕ
counts n = n.nswitches ∷ n.nhosts ∷ n.nlinks ∷ []

unfoldable pub network_bytes : Network → List ℕ
network_bytes n =
    counts n ++ (flat_map switch_bytes n.switches ++ (flat_map host_bytes n.hosts ++ flat_map link_bytes n.links))

unfoldable pub network_salts : Network → List ℕ
network_salts n = map (λ s. s.salt) n.switches

unfoldable pub network_addresses : Network → List ℕ
network_addresses n = map (λ h. h.address) n.hosts

-- arrays are those of the network that was laid down
pub record LaidNetwork (n : Network) (b s a : List ℕ) : Type 0 where
  pub bytes : b ≡ network_bytes n
  pub salts : s ≡ network_salts n
  pub addresses : a ≡ network_addresses n
  pub sized : SizedNetwork n

-- the heads of a bench
unfoldable pub seat_bytes : List Seat → List ℕ
seat_bytes ss =
    map (λ s. s.switch.setup.ports) ss
    ++ (map (λ s. s.switch.setup.limit) ss
    ++ (flat_map (λ s. s.switch.table.ports) ss ++ (flat_map (λ s. s.switch.table.hops) ss ++ flat_map (λ s. s.cells) ss)))

unfoldable pub seat_masks : List Seat → List ℕ
seat_masks ss = map (λ s. s.switch.setup.live) ss ++ map (λ s. s.switch.setup.host) ss

unfoldable pub seat_words : List Seat → List ℕ
seat_words ss = map (λ s. s.switch.setup.salt) ss ++ map (λ s. s.switch.nonce) ss

unfoldable pub seat_wides : List Seat → List ℕ
seat_wides ss = flat_map (λ s. s.switch.table.addresses) ss

-- arrays are those of the heads that were laid down; before them the bytes and behind them the wides are as they were
pub record LaidSeats (ss : List Seat) (bytes₀ wides₀ b m w v : List ℕ) : Type 0 where
  pub bytes : b ≡ put bytes₀ ports_at (seat_bytes ss)
  pub masks : m ≡ seat_masks ss
  pub words : w ≡ seat_words ss
  pub wides : v ≡ put wides₀ 0 (seat_wides ss)
  pub sized : SizedSeats ss

-- a bench
unfoldable pub bench_bytes : Bench → List ℕ
bench_bytes b = map bit b.up ++ seat_bytes b.seats

unfoldable pub bench_wides : Bench → List ℕ
bench_wides b = seat_wides b.seats ++ (flat_map pack b.copies ++ (b.flying ∷ []))

-- arrays are those of the bench that was laid down
pub record LaidBench (x : Bench) (b m w v : List ℕ) : Type 0 where
  pub bytes : b ≡ bench_bytes x
  pub masks : m ≡ seat_masks x.seats
  pub words : w ≡ seat_words x.seats
  pub wides : v ≡ bench_wides x
  pub sized : SizedBench x
