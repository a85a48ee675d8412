-- What the function answers: a short buffer, a refused description, or the lines of a run.
use Prim.Native.Nat.{ℕ, zero, suc, ◌+◌, ◌<◌, ◌≤◌}
use mathlib.Core.Path.{◌≡◌, refl, ap, ap₂, ◌∙◌}
use mathlib.Core.List.{List, [], ◌∷◌}
use native.Mathlib.Omega.{arith}
use borrow.Author.Tests.{eq-eqb, le-ltb, lt-ltb, ne_eqb}
use lib.ListN.{length}
use Rattle.std.specs.Prelude.{None, Some}
use Rattle.refusal.specs.declared.Refusal.{Refusal}
use Rattle.refusal.specs.Refusal.{Told, answered}
use Rattle.refusal.specs.Number.{number_of}
use Rattle.wire.specs.Wire.{put}
use Rattle.network.specs.declared.Network.{Network}
use Rattle.network.specs.Describe.{read_end, read_fault, read_network}
use Rattle.network.proofs.Trip.{read_fine}
use Rattle.lines.specs.Lines.{refused_line}
use Rattle.lines.proofs.Laws.{refused_range}
use Rattle.transcript.specs.Transcript.{Prints, lines_from, most_printed, run_lines, transcript}
use Rattle.transcript.specs.Running.{CanRun, Ran}
use Rattle.transcript.proofs.Printing.{accepted_short}
use Rattle.transcript.proofs.Small.{read_small}

pub too_short : (input out : List ℕ) → length out < most_printed → Prints input out None out
too_short input out h = let e = lt-ltb (length out) most_printed h in record { answer = rw e refl; output = rw e refl }

pub long_enough : {input out out' : List ℕ} {n : ℕ} → most_printed ≤ length out → n ≡ length (transcript input) → out' ≡ put out 0 (transcript input) → Prints input out (Some n) out'
long_enough {input} {out} room ends output =
    let e = le-ltb (length out) most_printed room in
    record { answer = rw e (ap (λ i. i ∷ []) ends); output = rw e output }

-- ---- What the reader's answer says

-- a refusal has the reader's number, which isn't 0
pub record ReadsRefused (input : List ℕ) (r : Refusal) : Type 0 where
  pub number : number_of r ≡ read_fault input
  pub some : read_fault input ≡ 0 → ⊥

refused_is : (f x : ℕ) (r : Refusal) → record { number = number_of r; values = [] } ≡ answered f (x ∷ []) → (number_of r ≡ f) × (f ≡ 0 → ⊥)
refused_is zero x r e = let same : [] ≡ x ∷ [] = ap (λ (t : Told). t.values) e in cc
refused_is (suc f) x r e = (ap (λ (t : Told). t.number) e, λ z. omega arith)

-- else the description is accepted, and ends where it says
pub record ReadsTo (input : List ℕ) (at : ℕ) : Type 0 where
  pub accepted : read_fault input ≡ 0
  pub end : at ≡ read_end input

ends_is : (f x at : ℕ) → record { number = 0; values = at ∷ [] } ≡ answered f (x ∷ []) → (f ≡ 0) × (at ≡ x)
ends_is zero x at e = let same : at ∷ [] ≡ x ∷ [] = ap (λ (t : Told). t.values) e in (refl, (cc))
ends_is (suc f) x at e = let same : at ∷ [] ≡ [] = ap (λ (t : Told). t.values) e in cc

pub reads_refused : (input : List ℕ) (r : Refusal) → record { number = number_of r; values = [] } ≡ answered (read_fault input) (read_end input ∷ []) → ReadsRefused input r
reads_refused input r e = let v = refused_is (read_fault input) (read_end input) r e in record { number = v.0; some = v.1 }

pub reads_to : (input : List ℕ) (at : ℕ) → record { number = 0; values = at ∷ [] } ≡ answered (read_fault input) (read_end input ∷ []) → ReadsTo input at
reads_to input at e = let v = ends_is (read_fault input) (read_end input) at e in record { accepted = v.0; end = v.1 }

-- ---- What is then written

-- a refused description's line
pub refused_room : {input : List ℕ} (out : List ℕ) {r : Refusal} {n : ℕ} → ReadsRefused input r → n ≡ number_of r → most_printed ≤ length out → 0 + length (refused_line n) ≤ length out
refused_room {input} out {n = n} v is room = omega (arith, (refused_range n (omega (arith, v.number, read_small input))).1)

pub refused_prints : {input out out' : List ℕ} {r : Refusal} {n end : ℕ} → ReadsRefused input r → n ≡ number_of r → most_printed ≤ length out → end ≡ 0 + length (refused_line n) → out' ≡ put out 0 (refused_line n)
    → Prints input out (Some end) out'
unfolding transcript
refused_prints {input} {out} {n = n} v is room ends output =
    let all : refused_line n ≡ transcript input = ap refused_line (is ∙ v.number) ∙ rw (ne_eqb (read_fault input) 0 v.some) refl in
    let from_0 : 0 + length (refused_line n) ≡ length (refused_line n) = omega arith in
    long_enough room (ends ∙ from_0 ∙ ap length all) (output ∙ ap (λ l. put out 0 l) all)

-- or the lines of a run
module _ {n : Network} {input out : List ℕ} {at : ℕ} (v : ReadsTo input at) (is : n ≡ read_network input) (room : most_printed ≤ length out) where
  pub reads_can : CanRun n input out
  reads_can = record { accepted = rw is (read_fine input v.accepted); short = accepted_short input v.accepted; room = room }

  pub run_prints : {end : ℕ} {out' : List ℕ} → Ran n input at out end out' → Prints input out (Some end) out'
  unfolding transcript run_lines
  run_prints r =
      let all : lines_from n input at ≡ transcript input
      = ap₂ (λ m i. lines_from m input i) is v.end ∙ rw (eq-eqb (read_fault input) 0 v.accepted) refl in
      long_enough room (r.ends ∙ ap length all) (r.output ∙ ap (λ l. put out 0 l) all)
