-- Refusal 28, as far as it is about the bench: `in_shape` is what is checked, `InShape` says in words what it has found. What a count leaves unused isn't asked.
use Rattle.std.specs.Prelude.{ℕ, ◌^◌, ◌<◌, ◌≤◌, ◌≡◌, Bool, false, not, ◌&&◌, List, eqb, leb, ltb, get_or, length}
use Rattle.refusal.specs.Refusal.{first, outside}
use Rattle.wire.specs.Address.{is_source}
use Rattle.wire.specs.Below.{all_below}
use Rattle.network.specs.declared.Network.{Network}
use Rattle.network.specs.Network.{most_links, most_switches}
use Rattle.network.specs.Checks.{network_fault}
use Rattle.rules.specs.declared.Setup.{Setup}
use Rattle.head.specs.Switch.{switch_causes}
use Rattle.cabling.specs.Cabling.{plugs_of, setup_of}
use Rattle.seat.specs.declared.Seat.{Seat}
use Rattle.flight.specs.declared.Copy.{Copy}
use Rattle.flight.specs.Flight.{All, most, no_copy}
use Rattle.bench.specs.Bench.{in_flight, no_seat, seat_at}
use Rattle.turn.specs.Turn.{own_refusal}
use Rattle.turn.specs.Fits.{CopyFits, SeatFits}
use Rattle.event.specs.declared.Event.{Event}
use Rattle.bench.specs.declared.Bench.{Bench}

-- ---- What is checked

-- ports, limit, salt and masks are those of another setup
abbrev pub same_setup : Setup → Setup → Bool
same_setup a b = eqb a.ports b.ports && eqb a.live b.live && eqb a.host b.host && eqb a.limit b.limit && eqb a.salt b.salt

-- a head's setup follows from description and link states, and refusal 1 doesn't name it
unfoldable pub seat_fits : Network → List Bool → ℕ → Seat → Bool
seat_fits n up k s = same_setup s.switch.setup (setup_of n (plugs_of n) up k) && eqb (first (switch_causes s.switch s.cells)) 0

-- so many heads fit
abbrev pub seats_fit : Network → List Bool → List Seat → ℕ → Bool
seats_fit n up seats = all_below (λ k. seat_fits n up k (get_or seats k no_seat))

-- a link that there is, and that is up
unfoldable pub on_live_link : ℕ → List Bool → ℕ → Bool
on_live_link links up l = ltb l links && get_or up l false

-- the source neither zero nor group, the destination not zero
unfoldable pub has_addresses : ℕ → ℕ → Bool
has_addresses source destination = is_source source && not (eqb destination 0) && ltb destination (2 ^ 48)

-- a copy is on a live link, has HC 1 to 63, a nonce below 2^24, and such addresses
unfoldable pub copy_fits : ℕ → List Bool → Copy → Bool
copy_fits links up c =
    on_live_link links up c.link && not (outside 1 63 c.header.hc) && ltb c.header.nonce (2 ^ 24) && has_addresses c.source c.destination

-- so many copies fit
abbrev pub copies_fit : ℕ → List Bool → List Copy → ℕ → Bool
copies_fit links up copies = all_below (λ i. copy_fits links up (get_or copies i no_copy))

-- the writer wouldn't refuse the description, the heads fit, there are at most 512 copies, and each fits
unfoldable pub in_shape : Bench → Bool
in_shape b =
    eqb (network_fault b.network) 0
    && seats_fit b.network b.up b.seats b.network.nswitches
    && leb b.flying most
    && copies_fit b.network.nlinks b.up b.copies b.flying

-- ---- The same in words

-- the description is one that the writer accepts, each head fits, there are at most 512 copies, and each fits
pub record InShape (b : Bench) : Type 0 where
  pub described : network_fault b.network ≡ 0
  pub seats : (k : ℕ) → k < b.network.nswitches → SeatFits b.network b.up k (seat_at b k)
  pub few : b.flying ≤ most
  pub copies : All (CopyFits b.network b.up) (in_flight b)

-- a bench's arrays are as long as its type says
pub record Sized (b : Bench) : Type 0 where
  pub up : length b.up ≡ most_links
  pub seats : length b.seats ≡ most_switches
  pub copies : length b.copies ≡ most

-- an event that nothing refuses, on a bench in shape
pub record Accepted (b : Bench) (e : Event) : Type 0 where
  pub shape : InShape b
  pub free : own_refusal b.network b.flying e ≡ 0
