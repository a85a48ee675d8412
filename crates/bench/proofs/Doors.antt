-- A fresh bench, the bench beside a refusal and the test of shape have one outcome.
use mathlib.Core.Path.{◌≡◌, sym, ap, ◌∙◌}
use mathlib.Core.Bool.{Bool}
use Rattle.std.specs.Prelude.{Ok, Err}
use Rattle.refusal.specs.OneOutcome.{OneOutcome}
use Rattle.refusal.proofs.Outcomes.{one_outcome, plain}
use Rattle.refusal.proofs.Told.{refused_apart}
use Rattle.network.specs.declared.Network.{Network}
use Rattle.bench.specs.Bench.{Freshens, fresh_or_empty}
use Rattle.bench.specs.Shape.{in_shape}
use Rattle.bench.specs.declared.Bench.{Bench}

pub fresh_has_one_outcome : (n : Network) → OneOutcome (Freshens n)
fresh_has_one_outcome n (Ok a) (Ok b) p q = ap Ok (p.bench ∙ sym q.bench)
fresh_has_one_outcome n a (Err r) p q = refused_apart r a (p.refused ∙ sym q.refused)
fresh_has_one_outcome n (Err r) b p q = sym (refused_apart r b (q.refused ∙ sym p.refused))

pub fresh_or_empty_has_one_outcome : (n : Network) → OneOutcome (λ (r : Bench). r ≡ fresh_or_empty n)
fresh_or_empty_has_one_outcome n = one_outcome plain (λ r p. p)

pub is_in_shape_has_one_outcome : (b : Bench) → OneOutcome (λ (r : Bool). r ≡ in_shape b)
is_in_shape_has_one_outcome b = one_outcome plain (λ r p. p)
