-- An input that is refused is read as the empty network.
use Prim.Native.Nat.{ℕ, zero, suc}
use mathlib.Core.Path.{◌≡◌, refl, ap, sym, ◌∙◌}
use mathlib.Core.List.{List}
use Rattle.refusal.specs.Refusal.{answered}
use Rattle.refusal.proofs.Told.{some}
use Rattle.network.proofs.Laws.{refused_reads_none}
use Rattle.network.proofs.read_or_empty.Goals as goal

number_is : (n : ℕ) (vs : List ℕ) → (answered n vs).number ≡ n
number_is zero vs = refl
number_is (suc n) vs = refl

pub returns-in-Err : goal.returns-in-Err
returns-in-Err c = c.empty.ensures ∙ sym (refused_reads_none c.args.input.now (λ z. some _ (ap (λ t. t.number) c.in-Err.ensures.answer ∙ number_is _ _ ∙ z)))
