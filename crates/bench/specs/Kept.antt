-- What holds of every event on a bench: it keeps the bench in shape, its head steps by demand 2's public step, and nothing else changes.
-- Each statement is a type; proofs/Laws has its term, under the same name in lower case.
use Rattle.std.specs.Prelude.{ℕ, ◌<◌, ◌≡◌, true, false, ◌↔◌, ◌⊎◌, List, Ok, Err, get_or, set}
use Rattle.network.specs.declared.Network.{Network}
use Rattle.network.specs.Checks.{network_fault}
use Rattle.cabling.specs.Cabling.{first_of, plugs_of, port_of, second_of, setup_of}
use Rattle.seat.specs.Seat.{Seated, step_of, with_setup}
use Rattle.seat.specs.Frames.{IsTheStep, host_frame, link_frame}
use Rattle.table.specs.Table as table
use Rattle.event.specs.declared.Event.{Event}
use Rattle.event.specs.declared.Event.TheVariants.{Present, Take, Link}
use Rattle.event.specs.declared.Setting.{Setting}
use Rattle.event.specs.Event.{address_of}
use Rattle.rules.specs.declared.Arrival.{Arrival}
use Rattle.turn.specs.declared.Done.TheVariants.{Stepped, Linked}
use Rattle.turn.specs.Turn.{Answer, copy_arrival, copy_at, host_arrival, host_of, is_up, port_to}
use Rattle.bench.specs.Bench.{fresh_bench, in_flight, seat_at}
use Rattle.bench.specs.Events.{Happened, event_of}
use Rattle.bench.specs.Shape.{Accepted, InShape, Sized, in_shape}
use Rattle.bench.specs.declared.Bench.{Bench}

-- the test finds a bench in shape exactly where it is; its arrays are as long as their types say, and so are those of each head's table
abbrev pub TestedBothWays : Type 0
TestedBothWays = (b : Bench) → Sized b → ((k : ℕ) → k < b.network.nswitches → table.Sized (seat_at b k).switch.table) → (in_shape b ≡ true) ↔ InShape b

-- a fresh bench is in shape
abbrev pub FreshInShape : Type 0
FreshInShape = (n : Network) → network_fault n ≡ 0 → InShape (fresh_bench n)

-- an accepted event keeps the bench in shape
abbrev pub KeepsShape : Type 0
KeepsShape = (b : Bench) (e : Event) → Sized b → Accepted b e → InShape (event_of b e).bench

-- ---- Each event on a head is the public step of that head

-- a step's report names the head, the port, the frame's addresses, the verdict and whether a record was overwritten
abbrev pub ReportsIt : ℕ → Arrival → Seated → Answer → Type 0
ReportsIt k a w (Err n) = ⊥
ReportsIt k a w (Ok (Stepped r)) =
    (r.switch ≡ k) × (r.port ≡ a.port) × (r.source ≡ a.source) × (r.destination ≡ a.destination) × (r.verdict ≡ w.report.verdict) × (r.overwrote ≡ w.report.overwrote)
ReportsIt k a w (Ok (Linked cut)) = ⊥

-- head k stepped on an arrival, which is the public step on a frame, and both bench and report show what it did
pub record StepsTruly (b : Bench) (after : Happened) (k : ℕ) (a : Arrival) (frame : List ℕ) : Type 0 where
  pub step : IsTheStep (seat_at b k) a.port frame (step_of (seat_at b k) a)
  pub seat : seat_at after.bench k ≡ (step_of (seat_at b k) a).seat
  pub verdict : ReportsIt k a (step_of (seat_at b k) a) after.answer

-- for a host the frame of 60 bytes, for a copy that of 66 with its header, and those addresses
abbrev pub Truly : Bench → Event → Happened → Type 0
Truly b (Present e) after =
    StepsTruly b after (host_of b.network e.host).port.switch
    (host_arrival (seat_at b (host_of b.network e.host).port.switch) (host_of b.network e.host) (address_of e.to))
    (host_frame (host_of b.network e.host).address (address_of e.to))
Truly b (Take place) after =
    StepsTruly b after (port_to b.network (copy_at (in_flight b) place)).switch (copy_arrival b.network (copy_at (in_flight b) place))
    (link_frame (copy_at (in_flight b) place).source (copy_at (in_flight b) place).destination (copy_at (in_flight b) place).header)
Truly b (Link e) after = Unit {0}

-- at every accepted event of a head
abbrev pub EachIsTheStep : Type 0
EachIsTheStep = (b : Bench) (e : Event) → Sized b → Accepted b e → Truly b e (event_of b e)

-- ---- Nothing else changes

-- the heads that an event may change
abbrev pub Concerns : Bench → Event → ℕ → Type 0
Concerns b (Present e) k = k ≡ (host_of b.network e.host).port.switch
Concerns b (Take place) k = k ≡ (port_to b.network (copy_at (in_flight b) place)).switch
Concerns b (Link e) k = (k ≡ (port_of b.network (first_of e.link)).switch) ⊎ (k ≡ (port_of b.network (second_of e.link)).switch)

-- the links that an event may change
abbrev pub Switches : Event → ℕ → Type 0
Switches (Present e) l = ⊥
Switches (Take place) l = ⊥
Switches (Link e) l = l ≡ e.link

-- the description, every other head and every other link stay
pub record ElseStays (b : Bench) (e : Event) (after : Bench) : Type 0 where
  pub network : after.network ≡ b.network
  pub seats : (k : ℕ) → k < b.network.nswitches → (Concerns b e k → ⊥) → seat_at after k ≡ seat_at b k
  pub links : (l : ℕ) → (Switches e l → ⊥) → get_or after.up l false ≡ get_or b.up l false

-- at every accepted event
abbrev pub NothingElseChanges : Type 0
NothingElseChanges = (b : Bench) (e : Event) → Sized b → Accepted b e → ElseStays b e (event_of b e).bench

-- a link's setting changes nothing of a head but what follows from the links' states
abbrev pub HeadsFollow : Type 0
HeadsFollow =
    (b : Bench) (e : Setting) → Sized b → Accepted b (Link e) → (k : ℕ) → k < b.network.nswitches
    → seat_at (event_of b (Link e)).bench k ≡ with_setup (setup_of b.network (plugs_of b.network) (set b.up e.link (is_up e.state)) k) (seat_at b k)

-- an event changed nothing and cut nothing
pub record Unchanged (b : Bench) (after : Happened) : Type 0 where
  pub network : after.bench.network ≡ b.network
  pub seats : (k : ℕ) → k < b.network.nswitches → seat_at after.bench k ≡ seat_at b k
  pub links : after.bench.up ≡ b.up
  pub copies : in_flight after.bench ≡ in_flight b
  pub cut : after.answer ≡ Ok (Linked 0)

-- setting what is already so changes nothing
abbrev pub AlreadySo : Type 0
AlreadySo =
    (b : Bench) (e : Setting) → Sized b → Accepted b (Link e) → get_or b.up e.link false ≡ is_up e.state → Unchanged b (event_of b (Link e))
