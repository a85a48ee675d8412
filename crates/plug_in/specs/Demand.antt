-- Demand 3 of the order, over runs of the bench's own events: the first plug-in. The statement is `FirstPlugIn`; proofs/Laws has its term, `first_plug_in`.
use Rattle.std.specs.Prelude.{ℕ, ◌≤◌, ◌<◌, ◌≡◌, ◌≢◌, ◌⊎◌, List, [], ◌∷◌}
use Rattle.filter.specs.Triple.{triple}
use Rattle.event.specs.declared.Event.{Event}
use Rattle.event.specs.declared.Event.TheVariants.{Present}
use Rattle.event.specs.declared.Address.{Address}
use Rattle.event.specs.Event.{address_of}
use Rattle.bench.specs.declared.Bench.{Bench}
use Rattle.bench.specs.Bench.{seat_at}
use Rattle.counters.specs.Event.{event_refusal}
use Rattle.counters.specs.History.{Moment, Reachable, State, after, happens_at, history_of, run_of}
use Rattle.plug_in.specs.Words.{HasRecord, IsFlying, IsRefused, JoinedTo, KeepsRecord, LimitsReach, LosesNone, NamesNowhere, NoneTwice, OfOthers, Way, address_of_host, home_of, receives_by, sends_by, times}

-- ---- What is premised

-- A sends a frame to an address
abbrev pub sends : ℕ → Address → Event
sends A to = Present (record { host = A; to = to })

-- where A's frame starts
pub record Starts (s : State) (A : ℕ) (to : Address) : Type 0 where
  -- any state the bench can reach
  pub reachable : Reachable s
  -- A is a host of it
  pub host : A < s.bench.network.nhosts
  -- .. where no table entry, filter record or copy in flight names host A
  pub nowhere : NamesNowhere (address_of_host s A) s.bench
  -- A sends one frame, and the event is accepted
  pub accepted : event_refusal s.bench s.counters (sends A to) ≡ 0
  -- .. to an address other than its own
  pub not_itself : address_of to ≢ address_of_host s A
  -- every hop limit is at least the number of switches
  pub limits : LimitsReach s.bench.network

-- the triple that filters know A's frame by: its source, the next nonce of its switch, and L
unfoldable pub frame_of : State → ℕ → List ℕ
frame_of s A = triple (address_of_host s A) (seat_at s.bench (home_of s A).switch).switch.nonce 1

-- what is provided of each event behind it, at the state s where it comes
pub record Provided (A x : ℕ) (key : List ℕ) (s : State) (e : Event) : Type 0 where
  -- A sends nothing more, others never to A, and no cable changes; a refused event may be any
  pub others : IsRefused s e ⊎ OfOthers s A e
  -- no copy of A's frame is lost for want of room
  pub room : LosesNone x (happens_at s e).happened.answer
  -- no filter record of it is overwritten before its last copy has been taken
  pub kept : KeepsRecord x key s.bench (after s e).bench

-- and so for each event of a run from s
abbrev pub AllProvided : ℕ → ℕ → List ℕ → State → List Event → Type 0
AllProvided A x key s [] = Unit {0}
AllProvided A x key s (e ∷ es) = Provided A x key s e × AllProvided A x key (after s e) es

-- ---- What is claimed, at a moment: x is A's address and home its switch, b the bench then, h the history since A's frame, its sending included

-- each port of each switch has sent the frame at most once
abbrev pub EachPortOnce : ℕ → List Moment → Type 0
EachPortOnce x h = (k p : ℕ) → times (sends_by x k p) h ≤ 1

-- from a switch that has a record, the recorded ports lead to A and visit no switch twice
abbrev pub RecordsLeadHome : ℕ → ℕ → Bench → Type 0
RecordsLeadHome A x b = (k : ℕ) → HasRecord x b k → (ks : List ℕ) × Way A x b k ks × NoneTwice ks

-- no copy of it is in flight
abbrev pub NoneFlies : ℕ → Bench → Type 0
NoneFlies x b = IsFlying x b → ⊥

-- all switches joined to A by live cables have a record
abbrev pub AllHaveRecords : ℕ → ℕ → Bench → Type 0
AllHaveRecords x home b = (k : ℕ) → JoinedTo b home k → HasRecord x b k

-- all other hosts on them have received exactly one copy
abbrev pub AllReceivedOne : ℕ → ℕ → ℕ → State → List Moment → Type 0
AllReceivedOne A x home s h =
    (i : ℕ) → i < s.bench.network.nhosts → i ≢ A → JoinedTo s.bench home (home_of s i).switch → times (receives_by x i) h ≡ 1

-- the first two at every moment, the others at each with no copy of it in flight
pub record PluggedIn (A x home : ℕ) (s : State) (h : List Moment) : Type 0 where
  pub once : EachPortOnce x h
  pub lead_home : RecordsLeadHome A x s.bench
  pub records : NoneFlies x s.bench → AllHaveRecords x home s.bench
  pub received : NoneFlies x s.bench → AllReceivedOne A x home s h

-- ---- Demand 3: at every moment of every such run. A moment is where a list of events leads, so the claim is for every list

abbrev pub FirstPlugIn : Type 0
FirstPlugIn =
    (s : State) (A : ℕ) (to : Address) (es : List Event)
    → Starts s A to
    → LosesNone (address_of_host s A) (happens_at s (sends A to)).happened.answer
    → AllProvided A (address_of_host s A) (frame_of s A) (after s (sends A to)) es
    → PluggedIn A (address_of_host s A) (home_of s A).switch (run_of s (sends A to ∷ es)) (history_of s (sends A to ∷ es))
