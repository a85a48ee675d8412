-- The test of counters finds exactly what `CountersFit` says.
use Prim.Native.Nat.{ℕ, ◌+◌, ◌*◌, ◌≤◌}
use mathlib.Core.Path.{◌≡◌, ◌∙◌}
use mathlib.Core.Bool.{Bool, true, ◌&&◌, and-eq-true_iff}
use borrow.Author.Tests.{eq-eqb, eqb-true, le-leb, leb-true}
use lib.Dec.{eqb, leb}
use Rattle.counters.specs.Counters.{CountersFit, counters_fit}
use Rattle.counters.specs.declared.Counters.{Counters}

-- six tests that all hold
each : (a b c d e f : Bool) → (a && b && c && d && e && f) ≡ true → (a ≡ true) × (b ≡ true) × (c ≡ true) × (d ≡ true) × (e ≡ true) × (f ≡ true)
each a b c d e f h =
    let (h₅, is_f) = (and-eq-true_iff (a && b && c && d && e) f).0 h in
    let (h₄, is_e) = (and-eq-true_iff (a && b && c && d) e).0 h₅ in
    let (h₃, is_d) = (and-eq-true_iff (a && b && c) d).0 h₄ in
    let (h₂, is_c) = (and-eq-true_iff (a && b) c).0 h₃ in
    let (is_a, is_b) = (and-eq-true_iff a b).0 h₂ in
    (is_a, is_b, is_c, is_d, is_e, is_f)

-- where no other counter is too large, the balance decides
pub by_balance : (flying : ℕ) (c : Counters) → c.taken ≤ 8 * c.accepted → c.cut ≤ 8 * c.accepted → c.lost ≤ 8 * c.accepted → c.delivered ≤ 8 * c.accepted
    → c.overwritten ≤ 8 * c.accepted → counters_fit flying c ≡ eqb c.placed (c.taken + c.cut + flying)
unfolding counters_fit
by_balance flying c t k l d o = simp (le-leb _ _ t, le-leb _ _ k, le-leb _ _ l, le-leb _ _ d, le-leb _ _ o)

pub fits : (flying : ℕ) (c : Counters) → CountersFit flying c → counters_fit flying c ≡ true
fits flying c f = by_balance flying c f.taken f.cut f.lost f.delivered f.overwritten ∙ eq-eqb _ _ f.balance

pub found_fit : (flying : ℕ) (c : Counters) → counters_fit flying c ≡ true → CountersFit flying c
unfolding counters_fit
found_fit flying c e =
    let few : ℕ → Bool = λ n. leb n (8 * c.accepted) in
    let (t, k, l, d, o, b) = each (few c.taken) (few c.cut) (few c.lost) (few c.delivered) (few c.overwritten) (eqb c.placed (c.taken + c.cut + flying)) e in
    record { taken = leb-true _ _ t; cut = leb-true _ _ k; lost = leb-true _ _ l; delivered = leb-true _ _ d; overwritten = leb-true _ _ o; balance = eqb-true _ _ b }
