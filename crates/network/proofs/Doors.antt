-- The contracts of the reader and the writer have one outcome: the answer, and the network or the output.
use Prim.Native.Nat.{ℕ}
use mathlib.Core.Path.{◌≡◌, refl, sym, ap, ◌∙◌}
use mathlib.Core.List.{List, [], ◌∷◌}
use native.Mathlib.Omega.{arith}
use lib.ListN.{length}
use Rattle.std.specs.Prelude.{Result, Ok, Err, IfOk}
use Rattle.refusal.specs.Refusal.{answered}
use Rattle.refusal.specs.Number.{told}
use Rattle.refusal.specs.declared.Refusal.{Refusal}
use Rattle.refusal.specs.OneOutcome.{OneOutcome}
use Rattle.refusal.proofs.Outcomes.{one_outcome, beside, plain}
use Rattle.network.specs.declared.Description.{Description}
use Rattle.network.specs.declared.Network.{Network}
use Rattle.network.specs.Describe.{end_values, image, read_end, read_fault, read_network, write_fault, written}
use Rattle.network.proofs.Laws.{told_apart}

-- an answer, and where it is none of a refusal its network is the one that is read
abbrev Reads : List ℕ → Result Description Refusal → Type 0
Reads b o = (told (λ d. end_values d.end) o ≡ answered (read_fault b) (read_end b ∷ [])) × IfOk o (λ d. d.network ≡ read_network b)

-- its ends alone
ends_of : Result Description Refusal → Result ℕ Refusal
ends_of (Ok d) = Ok d.end
ends_of (Err r) = Err r

ends_told : (o : Result Description Refusal) → told end_values (ends_of o) ≡ told (λ (d : Description). end_values d.end) o
unfolding ends_of
ends_told (Ok d) = refl
ends_told (Err r) = refl

pub read_has_one_outcome : (b : List ℕ) → OneOutcome (Reads b)
unfolding ends_of
read_has_one_outcome b x y p q = both x y p.1 q.1 (told_apart (ends_of x) (ends_of y) (ends_told x ∙ p.0 ∙ sym (ends_told y ∙ q.0)))
  where
    both : (x y : Result Description Refusal) → IfOk x (λ d. d.network ≡ read_network b) → IfOk y (λ d. d.network ≡ read_network b) → ends_of x ≡ ends_of y → x ≡ y
    both (Ok d) (Ok e) p q s = let same : d.end ≡ e.end = cc in let network : d.network ≡ e.network = p ∙ sym q in λ i. Ok (record { network = network i; end = same i })
    both (Ok d) (Err r) p q s = let z : ◌≡◌ {A = ℕ} 0 1 = cc in absurd (omega arith)
    both (Err r) (Ok d) p q s = let z : ◌≡◌ {A = ℕ} 0 1 = cc in absurd (omega arith)
    both (Err r) (Err t) p q s = let same : r ≡ t = cc in ap Err same

pub read_or_empty_has_one_outcome : (b : List ℕ) → OneOutcome (λ (n : Network). n ≡ read_network b)
read_or_empty_has_one_outcome b = one_outcome plain (λ n p. p)

pub write_has_one_outcome : (n : Network) (out : List ℕ)
    → OneOutcome (λ (o : Result ℕ Refusal × List ℕ). (told end_values o.0 ≡ answered (write_fault n (length out)) (length (image n) ∷ [])) × (o.1 ≡ written n out))
write_has_one_outcome n out = one_outcome (beside told_apart) (λ o p i. (p.0 i, p.1 i))
