-- The lines of a run one by one, and how long they are.
use Prim.Native.Nat.{ℕ, zero, suc, ◌+◌, ◌*◌, ◌≤◌, ◌<◌}
use mathlib.Core.Path.{◌≡◌, refl, ap}
use mathlib.Core.Bool.{Bool, true, false, cond}
use mathlib.Core.List.{List, [], ◌∷◌, ◌++◌}
use native.Mathlib.Omega.{arith}
use borrow.Author.Tests.{eqb-true, ltb-false}
use lib.Dec.{eqb, ltb}
use lib.ListN.{drop, length, length-append, length-drop}
use Rattle.std.specs.Prelude.{Result, Ok, Err}
use Rattle.refusal.specs.declared.Refusal.{Refusal}
use Rattle.refusal.specs.Refusal.{first}
use Rattle.network.specs.declared.Network.{Network}
use Rattle.network.specs.Describe.{read_causes, read_fault, read_network, read_end}
use Rattle.flight.specs.Flight.{most}
use Rattle.event.specs.declared.Event.{Event}
use Rattle.event.specs.Event.{read_event, size_of}
use Rattle.event.proofs.Laws.{read_within, size_range}
use Rattle.lines.specs.Lines.{refused_line, stop_line}
use Rattle.lines.proofs.Laws.{line_most, refused_range, stop_long}
use Rattle.bench.specs.Bench.{fresh_bench}
use Rattle.counters.specs.History.{State, after, fresh_state}
use Rattle.transcript.specs.Transcript.{Bounded, line_at, line_for, lines_from, lines_in, most_printed, printed, run_lines, transcript}
use Rattle.transcript.proofs.Small.{few_flying, read_small, small_refusal}

-- ---- One by one

module _ (turns k : ℕ) (s : State) where
  pub lines_got : {e : Event} (b : List ℕ) → 1 ≤ length b → read_event b ≡ Ok e → lines_in (suc turns) k s b ≡ line_at k s e ++ lines_in turns (k + 1) (after s e) (drop (size_of e) b)
  unfolding lines_in printed
  lines_got [] h q = absurd (omega arith)
  lines_got (x ∷ xs) h q = ap (λ r. printed k s (λ e. lines_in turns (k + 1) (after s e) (drop (size_of e) (x ∷ xs))) r) q

  pub lines_bad : {m : Refusal} (b : List ℕ) → 1 ≤ length b → read_event b ≡ Err m → lines_in (suc turns) k s b ≡ stop_line
  unfolding lines_in printed
  lines_bad [] h q = absurd (omega arith)
  lines_bad (x ∷ xs) h q = ap (λ r. printed k s (λ e. lines_in turns (k + 1) (after s e) (drop (size_of e) (x ∷ xs))) r) q

  pub no_lines : lines_in turns k s [] ≡ []
  unfolding lines_in
  no_lines = by_turns turns
    where
      by_turns : (t : ℕ) → lines_in t k s [] ≡ []
      by_turns zero = refl
      by_turns (suc t) = refl

-- ---- How long they are

-- an event's line, at a state that has at most 512 copies in flight
pub line_short : (k : ℕ) (s : State) (e : Event) → k < 100_000 → s.bench.flying ≤ most → length (line_at k s e) ≤ 26
unfolding line_for
line_short k s e h few = line_most _ h (omega (arith, small_refusal s.bench s.counters e)) (omega (arith, few_flying s.bench s.counters e few))

few_after : (s : State) (e : Event) → s.bench.flying ≤ most → (after s e).bench.flying ≤ most
unfolding after
few_after s e = few_flying s.bench s.counters e

-- 26 bytes for at least five that were read, and 8 for a stop
lines_short : (turns k : ℕ) (s : State) (b : List ℕ) → k + length b < 100_000 → s.bench.flying ≤ most → 5 * length (lines_in turns k s b) ≤ 26 * length b + 40
unfolding lines_in printed
lines_short zero k s b h few = omega arith
lines_short (suc turns) k s [] h few = omega arith
lines_short (suc turns) k s (x ∷ xs) h few = by_read (read_event (x ∷ xs)) refl (λ e l. lines_short turns (k + 1) (after s e) (drop (size_of e) (x ∷ xs)) l (few_after s e few))
  where
    by_read : (r : Result Event Refusal) → read_event (x ∷ xs) ≡ r
        → ((e : Event) → k + 1 + length (drop (size_of e) (x ∷ xs)) < 100_000 → 5 * length (lines_in turns (k + 1) (after s e) (drop (size_of e) (x ∷ xs))) ≤ 26 * length (drop (size_of e) (x ∷ xs)) + 40)
        → 5 * length (printed k s (λ e. lines_in turns (k + 1) (after s e) (drop (size_of e) (x ∷ xs))) r) ≤ 26 * length (x ∷ xs) + 40
    by_read (Err n) q rest = omega (arith, stop_long)
    by_read (Ok e) q rest =
        let long = length-drop (size_of e) (x ∷ xs) in
        let within = read_within (x ∷ xs) e q in
        let size = (size_range e).0 in
        omega (
          arith,
          length-append (line_at k s e) (lines_in turns (k + 1) (after s e) (drop (size_of e) (x ∷ xs))),
          line_short k s e (omega arith) few,
          rest e (omega arith),
        )

-- an accepted input isn't over 60,000 bytes
pub accepted_short : (input : List ℕ) → read_fault input ≡ 0 → length input ≤ 60_000
unfolding read_fault
accepted_short input e = by_test (ltb 60_000 (length input)) (first (drop 1 (read_causes input))) refl e
  where
    by_test : (b : Bool) (rest : ℕ) → ltb 60_000 (length input) ≡ b → cond b 25 rest ≡ 0 → length input ≤ 60_000
    by_test true rest h q = absurd (omega arith)
    by_test false rest h q = ltb-false 60_000 (length input) h

pub bounded : Bounded
unfolding transcript run_lines lines_from fresh_bench
bounded input = by_fault (eqb (read_fault input) 0) refl
  where
    fresh_few : (n : Network) → (fresh_bench n).flying ≤ most
    fresh_few n = omega arith

    by_fault : (b : Bool) → eqb (read_fault input) 0 ≡ b → length (cond b (run_lines input) (refused_line (read_fault input))) ≤ most_printed
    by_fault true e =
        let short = accepted_short input (eqb-true (read_fault input) 0 e) in
        let long = length-drop (read_end input) input in
        omega (arith, lines_short (length input) 1 (fresh_state (read_network input)) (drop (read_end input) input) (omega arith) (fresh_few (read_network input)))
    by_fault false e = omega (arith, (refused_range (read_fault input) (omega (arith, read_small input))).1)
