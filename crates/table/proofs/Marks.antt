-- The test of a table slot by slot. Every address passed has its mark set, so where an address finds its mark clear, no slot before has it.
use mathlib.Core.Path.{◌≡◌, refl, sym, ◌∙◌}
use mathlib.Core.Bool.{Bool, true, false, true≢false}
use mathlib.Core.List.{List, [], ◌∷◌}
use Prim.Native.Nat.{ℕ, zero, suc, ◌+◌, ◌≤◌, ◌<◌}
use native.Mathlib.Numerals.{add-one}
use native.Mathlib.Omega.{arith}
use lib.ListN.{length, length-set, get_or, set}
use lib.Seq.{get_or-set_same}
use borrow.Author.Count.{below_none, below_more}
use Rattle.wire.specs.Below.{all_below}
use Rattle.wire.proofs.Below.{not_below}
use Rattle.table.specs.declared.Table.{Table}
use Rattle.table.specs.Table.{Sized, address_at, mark_of, marks, slot_fits, slot_of, slots, well_formed}
use Rattle.table.proofs.Slots.{slot_first}

-- a mark stays where another is set
stays : (s : List Bool) (w v : ℕ) → get_or s v false ≡ true → get_or (set s w true) v false ≡ true
stays [] w v e = e
stays (x ∷ xs) zero zero e = refl
stays (x ∷ xs) zero (suc v) e = e
stays (x ∷ xs) (suc w) zero e = e
stays (x ∷ xs) (suc w) (suc v) e = stays xs w v e

-- i slots are passed: each fits, and its address is marked
pub record Passed (n : ℕ) (t : Table) (seen : List Bool) (i : ℕ) : Type 0 where
  pub within : i ≤ slots
  pub size : length seen ≡ marks
  pub fit : all_below (slot_fits n t) i ≡ true
  pub marked : (k : ℕ) → k < i → get_or seen (mark_of (address_at t k)) false ≡ true

pub pass_start : (n : ℕ) (t : Table) (seen : List Bool) → length seen ≡ marks → Passed n t seen 0
unfolding all_below
pass_start n t seen e = record { within = omega arith; size = e; fit = refl; marked = below_none _ }

module _ {n : ℕ} {t : Table} {seen : List Bool} {i : ℕ} (v : Passed n t seen i) where
  pub pass_end : slots ≤ i → true ≡ well_formed n t
  unfolding well_formed
  pass_end h = let e : i ≡ slots = omega (arith, v.within) in sym (rw e at v.fit)

  module _ (h : i < slots) where
    pub pass_fails : slot_fits n t i ≡ false → false ≡ well_formed n t
    unfolding well_formed
    pass_fails e = sym (not_below (slot_fits n t) slots i h e)

    -- where the code finds the mark
    module _ (m : ℕ) (q : m ≡ mark_of (address_at t i)) where
      pub unmarked : Sized t → get_or seen m false ≡ false → slot_of (address_at t i) t.addresses ≡ i
      unmarked z c = slot_first (address_at t i) t.addresses i (omega (arith, z.addresses)) refl
          (λ k l e. true≢false (sym (rw e at (v.marked k l)) ∙ rw q at c))

      pub pass_next : m < marks → slot_fits n t i ≡ true → Passed n t (set seen m true) (i + 1)
      unfolding all_below
      pass_next l e = record {
        within = omega arith;
        size = length-set seen m true ∙ v.size;
        fit = rw (add-one, v.fit) e;
        marked = below_more (λ (k : ℕ). get_or (set seen m true) (mark_of (address_at t k)) false ≡ true) i (λ k j. stays seen m (mark_of (address_at t k)) (v.marked k j)) (rw (← q) (get_or-set_same seen m true false (omega (arith, v.size))));
      }
