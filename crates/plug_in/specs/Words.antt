-- The words of the order's demand 3, phrase by phrase, each said of the bench, its events and its answers. A is a host's number and x its address.
-- A frame is known by its source: A sends one only. Nothing here knows of a flood.
use Rattle.std.specs.Prelude.{ℕ, ◌+◌, ◌≤◌, ◌<◌, ◌≡◌, ◌≢◌, Bool, true, false, ◌&&◌, eqb, get_or, Some, Ok, Err}
use mathlib.Core.List.{List, [], ◌∷◌, Memᴰ}
use Rattle.wire.specs.Wire.{bytes_of}
use Rattle.network.specs.declared.Network.{Network}
use Rattle.network.specs.declared.Port.{Port}
use Rattle.network.specs.Network.{limit_of}
use Rattle.table.specs.declared.Entry.{Entry}
use Rattle.table.specs.Table.{Holds, lookup_of}
use Rattle.filter.specs.Filter.{Names, holds}
use Rattle.filter.specs.Triple.{width}
use Rattle.frame.specs.Header.{bit}
use Rattle.rules.specs.Mask.{names}
use Rattle.rules.specs.Verdict.{sending_of, sent_by}
use Rattle.cabling.specs.declared.End.{End}
use Rattle.cabling.specs.declared.Plug.TheVariants.{Host as OfHost, Link as OfLink}
use Rattle.cabling.specs.Cabling.{other_end, port_of, switch_at}
use Rattle.flight.specs.declared.Copy.{Copy}
use Rattle.flight.specs.Flight.{All}
use Rattle.event.specs.declared.Event.{Event}
use Rattle.event.specs.declared.Event.TheVariants.{Present, Take, Link}
use Rattle.event.specs.Event.{address_of}
use Rattle.turn.specs.declared.Done.TheVariants.{Stepped, Linked}
use Rattle.turn.specs.Turn.{Answer, host_of, is_up, plug_of}
use Rattle.bench.specs.declared.Bench.{Bench}
use Rattle.bench.specs.Bench.{in_flight, seat_at}
use Rattle.counters.specs.Event.{event_refusal}
use Rattle.counters.specs.History.{Moment, State}

-- ---- Host A

-- host A's address, and the port of its cable
unfoldable pub address_of_host : State → ℕ → ℕ
address_of_host s A = (host_of s.bench.network A).address

unfoldable pub home_of : State → ℕ → Port
home_of s A = (host_of s.bench.network A).port

-- ---- "no table entry, filter record or copy in flight names host A, as source or destination"

-- x being A's address: an entry is for a source, a filter record of a source; a copy has a source and a destination
pub record NamesNowhere (x : ℕ) (b : Bench) : Type 0 where
  pub entries : (k : ℕ) → k < b.network.nswitches → Holds (seat_at b k).switch.table x → ⊥
  pub records : (k : ℕ) → k < b.network.nswitches → Names width (bytes_of 6 x) (seat_at b k).cells → ⊥
  pub copies : All (λ c. (c.source ≢ x) × (c.destination ≢ x)) (in_flight b)

-- ---- "A sends one frame to an address other than its own, then nothing more. Others send what they like, never to A .. no cable changes"

-- an event that others may cause: A doesn't send, nobody sends to A, and a link is set at most to the state that it has
abbrev pub OfOthers : State → ℕ → Event → Type 0
OfOthers s A (Present e) = (e.host ≢ A) × (address_of e.to ≢ address_of_host s A)
OfOthers s A (Take place) = Unit {0}
OfOthers s A (Link e) = is_up e.state ≡ get_or s.bench.up e.link false

-- the event is refused, so that nothing happens
abbrev pub IsRefused : State → Event → Type 0
IsRefused s e = event_refusal s.bench s.counters e ≢ 0

-- ---- "no copy of A's frame is lost for want of room"

-- the copies of a step whose frame is from x all found room
abbrev pub LosesNone : ℕ → Answer → Type 0
LosesNone x (Err n) = Unit {0}
LosesNone x (Ok (Stepped r)) = r.source ≡ x → r.lost ≡ 0
LosesNone x (Ok (Linked cut)) = Unit {0}

-- ---- "no filter record of it is overwritten before its last copy has been taken"

-- a copy of the frame from x is in flight
pub record IsFlying (x : ℕ) (b : Bench) : Type 0 where
  pub copy : Copy
  pub there : Memᴰ copy (in_flight b)
  pub mine : copy.source ≡ x

-- head k's filter holds a triple
unfoldable pub holds_at : Bench → ℕ → List ℕ → Bool
holds_at b k key = holds (seat_at b k).cells (seat_at b k).switch.setup.salt key

-- if a copy was in flight before an event, each filter that held the triple before it does so after it
abbrev pub KeepsRecord : ℕ → List ℕ → Bench → Bench → Type 0
KeepsRecord x key before after = IsFlying x before → (k : ℕ) → k < before.network.nswitches → holds_at before k key ≡ true → holds_at after k key ≡ true

-- ---- "every hop limit is at least the number of switches"

abbrev pub LimitsReach : Network → Type 0
LimitsReach n = (k : ℕ) → k < n.nswitches → n.nswitches ≤ limit_of (switch_at n k)

-- ---- "each port sends the frame at most once", "received exactly one copy": counted from the reports

-- port p of switch k sends a frame from x, by a report
abbrev pub sends_by : ℕ → ℕ → ℕ → Answer → Bool
sends_by x k p (Err n) = false
sends_by x k p (Ok (Stepped r)) = eqb r.source x && eqb r.switch k && names (sent_by (sending_of r.verdict)).mask p
sends_by x k p (Ok (Linked cut)) = false

-- host i receives a frame from x, by a report
abbrev pub receives_by : ℕ → ℕ → Answer → Bool
receives_by x i (Err n) = false
receives_by x i (Ok (Stepped r)) = eqb r.source x && names r.received i
receives_by x i (Ok (Linked cut)) = false

-- how often it is so in a history
unfoldable pub times : (Answer → Bool) → List Moment → ℕ
times is [] = 0
times is (m ∷ ms) = bit (is m.answer) + times is ms

-- ---- "joined to A by live cables"

-- a live cable leads from switch k to switch t
pub record Cabled (b : Bench) (k t : ℕ) : Type 0 where
  pub near : End
  pub there : near.link < b.network.nlinks
  pub live : get_or b.up near.link false ≡ true
  pub from : (port_of b.network near).switch ≡ k
  pub to : (port_of b.network (other_end near)).switch ≡ t

-- the switches joined to switch k by live cables: itself, and each to which a live cable leads from one of them
pub data JoinedTo (b : Bench) (k : ℕ) : ℕ → Type 0 where
  here : JoinedTo b k k
  over : {t u : ℕ} → JoinedTo b k t → Cabled b t u → JoinedTo b k u

-- ---- "following the recorded ports for A from a switch that has a record visits no switch twice and ends at A"

-- switch k has a record for x: an entry that names a port
pub record HasRecord (x : ℕ) (b : Bench) (k : ℕ) : Type 0 where
  pub in_stand : k < b.network.nswitches
  pub entry : Entry
  pub found : lookup_of (seat_at b k).switch.table x ≡ Some entry

-- the way from a switch: the switches that following the recorded ports visits, one after the other, up to the port that A is plugged into
pub data Way (A x : ℕ) (b : Bench) : ℕ → List ℕ → Type 0 where
  -- the recorded port is A's
  home : {k : ℕ} (r : HasRecord x b k) → plug_of b.network k r.entry.port ≡ OfHost A → Way A x b k (k ∷ [])
  -- the recorded port has a live cable to another switch, and so on from there
  on : {k t : ℕ} {ks : List ℕ} (r : HasRecord x b k) (e : End) → plug_of b.network k r.entry.port ≡ OfLink e → get_or b.up e.link false ≡ true
      → (port_of b.network (other_end e)).switch ≡ t → Way A x b t ks → Way A x b k (k ∷ ks)

-- none stands in the list twice
abbrev pub NoneTwice : List ℕ → Type 0
NoneTwice [] = Unit {0}
NoneTwice (k ∷ ks) = (Memᴰ k ks → ⊥) × NoneTwice ks
