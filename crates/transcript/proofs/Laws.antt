-- What callers cite: no transcript is longer than the bound, an answer and an output are the only ones, and the whole run is as document 01 prints it.
use Prim.Native.Nat.{ℕ}
use mathlib.Core.Path.{refl}
use mathlib.Core.List.{List}
use Rattle.std.specs.Prelude.{Option, None, Some}
use Rattle.refusal.specs.OneOutcome.{OneOutcome, TellsApart}
use Rattle.refusal.proofs.Outcomes.{one_outcome, beside}
use Rattle.transcript.specs.Transcript.{Prints, told_printed}
pub use Rattle.transcript.proofs.Printing.{bounded}
pub use Rattle.transcript.proofs.WholeRun.{whole_run}

-- two answers that tell the same are the same
pub told_apart : TellsApart told_printed
told_apart None None e = refl
told_apart None (Some n) e = cc
told_apart (Some m) None e = cc
told_apart (Some m) (Some n) e = cc

-- printing has one outcome: the answer and the output
pub transcript_has_one_outcome : (input out : List ℕ) → OneOutcome (λ (o : Option ℕ × List ℕ). Prints input out o.0 o.1)
transcript_has_one_outcome input out = one_outcome (beside told_apart) (λ o p i. (p.answer i, p.output i))
