-- The contract of each C function of a head has one outcome: the number that it returns, beside what it leaves in all that is lent.
use Prim.Native.Nat.{ℕ}
use mathlib.Core.List.{List}
use Rattle.refusal.specs.OneOutcome.{OneOutcome}
use Rattle.refusal.proofs.Outcomes.{one_outcome, plain}
use Rattle.table.specs.declared.Table.{Table}
use Rattle.frame.specs.declared.Header.{Header}
use Rattle.head.specs.declared.Switch.{Switch}
use Rattle.engine.specs.Head.{FreshensLent, LooksUp, StepsLent}
use Rattle.engine.specs.Frames.{StripsLent, TagsLent}

pub sc_step_has_one_outcome : (n : ℕ) (s : Switch) (f : List ℕ) (port : ℕ) (frame out numbers : List ℕ)
    → OneOutcome (λ (o : ℕ × Switch × List ℕ × List ℕ × List ℕ). StepsLent n s f port frame out numbers o.0 o.1 o.2 o.3 o.4)
sc_step_has_one_outcome n s f port frame out numbers = one_outcome plain (λ o p i. (p.number i, p.switch i, p.filter i, p.output i, p.report i))

pub sc_tag_has_one_outcome : (frame : List ℕ) (h : Header) (out held : List ℕ)
    → OneOutcome (λ (o : ℕ × List ℕ × List ℕ). TagsLent frame h out held o.0 o.1 o.2)
sc_tag_has_one_outcome frame h out held = one_outcome plain (λ o p i. (p.number i, p.output i, p.told i))

pub sc_strip_has_one_outcome : (frame out held : List ℕ)
    → OneOutcome (λ (o : ℕ × List ℕ × List ℕ). StripsLent frame out held o.0 o.1 o.2)
sc_strip_has_one_outcome frame out held = one_outcome plain (λ o p i. (p.number i, p.output i, p.told i))

pub sc_switch_fresh_has_one_outcome : (n : ℕ) (s : Switch) (f : List ℕ)
    → OneOutcome (λ (o : ℕ × Switch × List ℕ). FreshensLent n s f o.0 o.1 o.2)
sc_switch_fresh_has_one_outcome n s f = one_outcome plain (λ o p i. (p.number i, p.switch i, p.filter i))

pub sc_lookup_has_one_outcome : (t : Table) (x : ℕ) (held : List ℕ) → OneOutcome (λ (o : ℕ × List ℕ). LooksUp t x held o.0 o.1)
sc_lookup_has_one_outcome t x held = one_outcome plain (λ o p i. (p.number i, p.told i))
