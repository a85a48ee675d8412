-- Words of the code that runs: what an event does to a bench whose heads' setups are worked out when their turn comes.
use Rattle.std.specs.Prelude.{ℕ, ◌<◌, ◌≤◌, ◌≡◌, Bool, List, Result, Ok, Err, get_or, length, replicate, set}
use Rattle.refusal.specs.Number.{number_of}
use Rattle.refusal.specs.declared.Refusal.{Refusal}
use Rattle.wire.specs.Wire.{put}
use Rattle.network.specs.declared.Network.{Network}
use Rattle.network.specs.Network.{most_switches}
use Rattle.network.specs.Checks.{network_fault}
use Rattle.cabling.specs.Cabling.{plugs_of, setup_of}
use Rattle.seat.specs.declared.Seat.{Seat}
use Rattle.seat.specs.Seat.{with_setup}
use Rattle.flight.specs.declared.Copy.{Copy}
use Rattle.flight.specs.Flight.{copies_in, most, no_words}
use Rattle.event.specs.declared.Event.{Event}
use Rattle.turn.specs.declared.Done.{Done}
use Rattle.turn.specs.Turn.{CanTurn, Turn, Turns, head_of, own_refusal, turn_of}
use Rattle.bench.specs.Bench.{all_up, no_seat}
use Rattle.transcript.specs.Transcript.{lines_from, most_printed}
use Rattle.transcript.specs.declared.running.Parts.{Parts}

-- ---- What a run keeps

-- all links up, nothing learned, no copy in flight
pub record FreshParts (p : Parts) : Type 0 where
  pub up : p.up ≡ all_up
  pub seats : p.seats ≡ replicate most_switches no_seat
  pub words : p.flight.words ≡ replicate most no_words
  pub flying : p.flight.flying ≡ 0

-- the copies in flight
abbrev pub copies_of : Parts → List Copy
copies_of p = copies_in p.flight.flying p.flight.words

-- ---- An event

-- its own refusal
abbrev pub refusal_at : Network → Parts → Event → ℕ
refusal_at n p e = own_refusal n p.flight.flying e

-- the number of the head whose turn it is
abbrev pub head_at : Network → Parts → Event → ℕ
head_at n p e = head_of n (copies_of p) e

-- head k, under the setup that is worked out for it
unfoldable pub seated_at : Network → List Bool → ℕ → Seat → Seat
seated_at n up k s = with_setup (setup_of n (plugs_of n) up k) s

-- the turn that it takes
unfoldable pub turn_at : Network → Parts → Event → Turn
turn_at n p e = turn_of n p.up (seated_at n p.up (head_at n p e) (get_or p.seats (head_at n p e) no_seat)) (copies_of p) e

-- what an event needs
pub record CanAct (n : Network) (p : Parts) (e : Event) : Type 0 where
  pub can : refusal_at n p e ≡ 0 → CanTurn n (copies_of p) e
  pub few : refusal_at n p e ≡ 0 → head_at n p e < most_switches

-- an accepted event is the turn of its head, and the others stay as they are
pub record Taken (n : Network) (p : Parts) (e : Event) (d : Done) (q : Parts) : Type 0 where
  pub free : refusal_at n p e ≡ 0
  pub seat : Seat
  pub turns : Turns (turn_at n p e) q.up seat q.flight.words q.flight.flying d
  pub seats : q.seats ≡ set p.seats (head_at n p e) seat

-- a refused one leaves everything as it was
pub record Left (n : Network) (p : Parts) (e : Event) (r : Refusal) (q : Parts) : Type 0 where
  pub number : number_of r ≡ refusal_at n p e
  pub same : q ≡ p

abbrev pub Acts : Network → Parts → Event → Result Done Refusal → Parts → Type 0
Acts n p e (Ok d) q = Taken n p e d q
Acts n p e (Err r) q = Left n p e r q

-- ---- The run

-- a description that is accepted, an input that isn't too long, room for the longest transcript
pub record CanRun (n : Network) (input out : List ℕ) : Type 0 where
  pub accepted : network_fault n ≡ 0
  pub short : length input ≤ 60_000
  pub room : most_printed ≤ length out

-- the lines stand at the output's start, up to where they end
pub record Ran (n : Network) (input : List ℕ) (start : ℕ) (out : List ℕ) (end : ℕ) (out' : List ℕ) : Type 0 where
  pub ends : end ≡ length (lines_from n input start)
  pub output : out' ≡ put out 0 (lines_from n input start)
