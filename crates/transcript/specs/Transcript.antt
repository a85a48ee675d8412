-- Document 01, "The bench", last part: what the program prints for an input, a description followed by events.
use Rattle.std.specs.Prelude.{ℕ, zero, suc, ◌+◌, ◌*◌, ◌≤◌, ◌≡◌, cond, List, [], ◌∷◌, ◌++◌, eqb, ltb, drop, length, Option, None, Some, Result, Ok, Err}
use Rattle.refusal.specs.declared.Refusal.{Refusal}
use Rattle.wire.specs.Wire.{put}
use Rattle.network.specs.declared.Network.{Network}
use Rattle.network.specs.Describe.{read_end, read_fault, read_network}
use Rattle.event.specs.declared.Event.{Event}
use Rattle.event.specs.Event.{letter_of, read_event, size_of}
use Rattle.lines.specs.declared.Line.{Line}
use Rattle.lines.specs.Lines.{line_of, refused_line, stop_line}
use Rattle.turn.specs.Turn.{Answer, received_by, refusal_of, verdict_of}
use Rattle.counters.specs.History.{State, after, fresh_state, happens_at}

-- ---- A line for each event, refused ones also

-- number from 1, letter, refusal number or 0, verdict, hosts that received, copies in flight
unfoldable pub line_for : ℕ → Event → Answer → ℕ → Line
line_for k e a flying =
    record { number = k; letter = letter_of e; refusal = refusal_of a; verdict = verdict_of a; received = received_by a; flying = flying }

-- event k's line at a state
abbrev pub line_at : ℕ → State → Event → List ℕ
line_at k s e = line_of (line_for k e (happens_at s e).happened.answer (happens_at s e).happened.bench.flying)

-- ---- The lines of a run

-- the line of the event that was read and what follows it; a bad event record ends the run
unfoldable pub printed : ℕ → State → (Event → List ℕ) → Result Event Refusal → List ℕ
printed k s rest (Err r) = stop_line
printed k s rest (Ok e) = line_at k s e ++ rest e

-- the lines of the events in an input, numbered from k on; an event takes at least a byte, so that as many turns as the input has bytes are enough
unfoldable pub lines_in : ℕ → ℕ → State → List ℕ → List ℕ
lines_in zero k s input = []
lines_in (suc turns) k s [] = []
lines_in (suc turns) k s (x ∷ xs) = printed k s (λ e. lines_in turns (k + 1) (after s e) (drop (size_of e) (x ∷ xs))) (read_event (x ∷ xs))

-- the lines of the events from a place of the input on, on the fresh bench of a network
unfoldable pub lines_from : Network → List ℕ → ℕ → List ℕ
lines_from n input start = lines_in (length input) 1 (fresh_state n) (drop start input)

-- the lines of a whole input whose description is accepted
unfoldable pub run_lines : List ℕ → List ℕ
run_lines input = lines_from (read_network input) input (read_end input)

-- what the program prints
unfoldable pub transcript : List ℕ → List ℕ
transcript input = cond (eqb (read_fault input) 0) (run_lines input) (refused_line (read_fault input))

-- ---- The function's answer

-- 60,000 bytes hold fewer than 12,000 events, each with a line of at most 26 bytes; "stop 20" has eight
abbrev pub most_printed : ℕ
most_printed = 12_000 * 26 + 8

-- no transcript is longer
abbrev pub Bounded : Type 0
Bounded = (input : List ℕ) → length (transcript input) ≤ most_printed

-- what each answer says: no number but how many bytes were written, and none for a buffer that is too short
abbrev pub told_printed : Option ℕ → List ℕ
told_printed None = []
told_printed (Some n) = n ∷ []

-- a buffer shorter than the longest transcript stays as it is; any other has the transcript at its start, and what is behind it stays
pub record Prints (input out : List ℕ) (p : Option ℕ) (out' : List ℕ) : Type 0 where
  pub answer : told_printed p ≡ cond (ltb (length out) most_printed) [] (length (transcript input) ∷ [])
  pub output : out' ≡ cond (ltb (length out) most_printed) out (put out 0 (transcript input))
