-- The contracts of tagging and stripping have one outcome: the answer, and what the output then holds.
use mathlib.Core.Path.{◌≡◌}
use mathlib.Core.List.{List, [], ◌∷◌}
use Rattle.std.specs.Prelude.{Result}
use Prim.Native.Nat.{ℕ}
use lib.ListN.{length}
use Rattle.refusal.specs.OneOutcome.{OneOutcome}
use Rattle.refusal.proofs.Outcomes.{one_outcome, beside}
use Rattle.frame.specs.Frame.{host_values, tag_answer, tag_output, strip_answer, strip_output}
use Rattle.frame.specs.declared.Header.{Header}
use Rattle.frame.specs.declared.Host.{Host}
use Rattle.refusal.specs.Number.{told}
use Rattle.refusal.specs.declared.Refusal.{Refusal}
use Rattle.refusal.proofs.Told.{told_apart}
use Rattle.frame.proofs.Told.{length_apart, host_apart}

pub tag_has_one_outcome : (frame : List ℕ) (h : Header) (out : List ℕ)
    → OneOutcome (λ (o : Result ℕ Refusal × List ℕ). (told (λ n. n ∷ []) o.0 ≡ tag_answer frame h (length out)) × (o.1 ≡ tag_output frame h out))
tag_has_one_outcome frame h out = one_outcome (beside (told_apart length_apart)) (λ o p i. (p.0 i, p.1 i))

pub strip_has_one_outcome : (frame out : List ℕ)
    → OneOutcome (λ (o : Result Host Refusal × List ℕ). (told host_values o.0 ≡ strip_answer frame (length out)) × (o.1 ≡ strip_output frame out))
strip_has_one_outcome frame out = one_outcome (beside (told_apart host_apart)) (λ o p i. (p.0 i, p.1 i))
