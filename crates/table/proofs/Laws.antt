-- What a caller may know of a table, in place of the definitions' text.
use mathlib.Core.Path.{◌≡◌, refl, sym, ap, ◌∙◌}
use mathlib.Core.Bool.{true, false, true≢false, false≢true}
use mathlib.Core.Logic.{◌↔◌, ◌⊎◌, ◌≢◌, inl, inr, ⊎_elim, by_cases}
use mathlib.Core.List.{List, Memᴰ}
use Prim.Native.Nat.{ℕ, ◌<◌}
use native.Mathlib.Decide.{ℕ_discrete}
use native.Mathlib.Nat.{not-le_of_lt}
use native.Mathlib.Omega.{arith}
use lib.ListN.{length, get_or-replicate}
use Rattle.std.specs.Prelude.{Some, None}
use Rattle.table.specs.declared.Table.{Table}
use Rattle.table.specs.declared.Entry.{Entry}
use Rattle.table.specs.Table.{Empty, Holds, MayHold, Sized, WellFormed, address_at, empty_table, entry_at, entry_of, erase_of, hops_at, learn_of, lookup_of, port_at, slot_for, slot_of, slots, well_formed}
use Rattle.table.proofs.Slots.{for_free, for_least, for_none, slot_stands}
use Rattle.table.proofs.Put.{first_holds, found_apart, holds_first, lookup_here, lookup_none, put_found, put_holds, put_other, put_sized, zero_absent}
use Rattle.table.proofs.Change.{erase_cases, learn_cases, lookup_cases}
use Rattle.table.proofs.Test.{table_test}
use Rattle.table.proofs.WellFormed.{for_only, full_many, own_slot, put_keeps, zeroed_gone, zeroed_same}

-- ---- Any table of 64 slots

-- address zero finds nothing
pub lookup_zero : (t : Table) → lookup_of t 0 ≡ None
lookup_zero t = zero_absent t

module _ {t : Table} (z : Sized t) where
  -- what is found stands in a slot, with the entry found
  pub found_holds : (x : ℕ) (e : Entry) → lookup_of t x ≡ Some e → (k : Holds t x) × (entry_at t k.slot ≡ e)
  unfolding first_holds
  found_holds x e = lookup_cases (λ f. f ≡ Some e → (k : Holds t x) × (entry_at t k.slot ≡ e)) t x (λ n l q. (first_holds z x n l, cc)) (λ _ q. absurd (found_apart e (sym q)))

  -- what stands in a slot is found
  pub holds_found : {x : ℕ} → Holds t x → (e : Entry) × (lookup_of t x ≡ Some e)
  holds_found {x} k = (entry_at t (slot_of x t.addresses), lookup_here t x k.nonzero (holds_first z k))

  -- absent is what stands in no slot
  pub absent_iff : (x : ℕ) → (lookup_of t x ≡ None) ↔ (¬ Holds t x)
  absent_iff x =
      (λ q k. found_apart (holds_found k).0 (sym (holds_found k).1 ∙ q), lookup_cases (λ f. ¬ Holds t x → f ≡ None) t x (λ n l m. absurd (m (first_holds z x n l))) (λ _ _. refl))

  -- learning address x with port p and hop count h
  module _ (x p h : ℕ) where
    -- unless the table was full, the address is found with port and hop count
    pub learn_same : x ≢ 0 → (learn_of t x p h).full ≡ false → lookup_of (learn_of t x p h).table x ≡ Some (entry_of p h)
    learn_same n = learn_cases (λ r. r.full ≡ false → lookup_of r.table x ≡ Some (entry_of p h)) t x p h
        (λ l _. put_found (slot_for x t.addresses) x p h z n l (for_least x t.addresses))
        (λ _ q. absurd (true≢false q))

    -- any other address is found as before
    pub learn_other : (y : ℕ) → y ≢ x → lookup_of (learn_of t x p h).table y ≡ lookup_of t y
    learn_other y d = learn_cases (λ r. lookup_of r.table y ≡ lookup_of t y) t x p h
        (λ l. put_other (slot_for x t.addresses) x p h z y (λ k. for_free x t.addresses (omega (arith, z.addresses)) y k d) (λ _ e. d (sym e)))
        (λ _. refl)

    -- a full table stays as it was
    pub full_unchanged : (learn_of t x p h).full ≡ true → (learn_of t x p h).table ≡ t
    full_unchanged = learn_cases (λ r. r.full ≡ true → r.table ≡ t) t x p h (λ _ q. absurd (false≢true q)) (λ _ _. refl)

    -- only an absent address finds it full
    pub full_absent : (learn_of t x p h).full ≡ true → lookup_of t x ≡ None
    full_absent = learn_cases (λ r. r.full ≡ true → lookup_of t x ≡ None) t x p h (λ _ q. absurd (false≢true q))
        (λ l _. lookup_none t x (omega (arith, z.addresses, (for_none x t.addresses (omega (arith, z.addresses))).0)))

    -- one that stands in a slot never does
    pub known_not_full : Holds t x → (learn_of t x p h).full ≡ false
    known_not_full k = learn_cases (λ r. r.full ≡ false) t x p h (λ _. refl)
        (λ l. absurd (not-le_of_lt (holds_first z k) (omega (arith, z.addresses, (for_none x t.addresses (omega (arith, z.addresses))).0))))

    -- what stands in a slot afterwards stood in one before, or was learned
    pub learn_holds : {y : ℕ} → Holds (learn_of t x p h).table y → (y ≡ x) ⊎ Holds t y
    learn_holds {y} = learn_cases (λ r. Holds r.table y → (y ≡ x) ⊎ Holds t y) t x p h (λ l k. put_holds (slot_for x t.addresses) x p h z l k) (λ _ k. inr k)

    -- it keeps its 64 slots
    pub learn_sized : Sized (learn_of t x p h).table
    learn_sized = learn_cases (λ r. Sized r.table) t x p h (λ _. put_sized (slot_for x t.addresses) x p h z) (λ _. z)

  -- erasing address x
  module _ (x : ℕ) where
    -- any other address is found as before
    pub erase_other : (y : ℕ) → y ≢ x → lookup_of (erase_of t x) y ≡ lookup_of t y
    erase_other y d = erase_cases (λ u. lookup_of u y ≡ lookup_of t y) t x
        (λ l. put_other (slot_of x t.addresses) 0 0 0 z y (λ _ e. d (sym e ∙ slot_stands x t.addresses (omega (arith, z.addresses)))) (λ k e. k (sym e)))
        (λ _. refl)

    -- what stands in a slot afterwards stood in one before
    pub erase_holds : {y : ℕ} → Holds (erase_of t x) y → Holds t y
    erase_holds {y} = erase_cases (λ u. Holds u y → Holds t y) t x (λ l k. ⊎_elim (λ e. absurd (k.nonzero e)) (λ j. j) (put_holds (slot_of x t.addresses) 0 0 0 z l k)) (λ _ k. k)

    -- it keeps its 64 slots
    pub erase_sized : Sized (erase_of t x)
    erase_sized = erase_cases Sized t x (λ _. put_sized (slot_of x t.addresses) 0 0 0 z) (λ _. z)

-- ---- A well-formed table

module _ {n : ℕ} {t : Table} (w : WellFormed n t) where
  -- the address in a slot is found with what the slot holds
  pub slot_found : (i : ℕ) → i < slots → address_at t i ≢ 0 → lookup_of t (address_at t i) ≡ Some (entry_at t i)
  slot_found i l k = lookup_here t (address_at t i) k (rw (own_slot w i l k) l) ∙ rw (own_slot w i l k)

  -- what is found is what a slot may hold
  pub found_may_hold : (x : ℕ) (e : Entry) → lookup_of t x ≡ Some e → MayHold n x e.port e.hops
  found_may_hold x e q =
      let (k, d) = found_holds w.sized x e q in
      ⊎_elim (λ (v : Empty (address_at t k.slot) (port_at t k.slot) (hops_at t k.slot)). absurd (k.nonzero (sym k.here ∙ v.address)))
      (λ v. rw (k.here, ap (λ (f : Entry). f.port) d, ap (λ (f : Entry). f.hops) d) at v) (w.slot k.slot k.within)

  -- an erased address is absent
  pub erase_same : (x : ℕ) → lookup_of (erase_of t x) x ≡ None
  erase_same x = (absent_iff (erase_sized w.sized x) x).1 (erase_cases (λ u. ¬ Holds u x) t x (zeroed_gone w x) (λ l k. not-le_of_lt (holds_first w.sized k) l))

  -- erasing an absent address, zero among them, changes nothing
  pub erase_absent : (x : ℕ) → lookup_of t x ≡ None → erase_of t x ≡ t
  erase_absent x q = erase_cases (λ u. u ≡ t) t x
      (λ l. by_cases (ℕ_discrete x 0) (zeroed_same w x l) (λ k. absurd (found_apart (entry_at t (slot_of x t.addresses)) (sym (lookup_here t x k l) ∙ q))))
      (λ _. refl)

  -- learning what a slot may hold keeps it well-formed
  pub learn_keeps : {x p h : ℕ} → MayHold n x p h → WellFormed n (learn_of t x p h).table
  learn_keeps {x} {p} {h} v = learn_cases (λ r. WellFormed n r.table) t x p h (λ l. put_keeps (slot_for x t.addresses) x p h w l (for_only w x) (inr v)) (λ _. w)

  -- erasing keeps it well-formed
  pub erase_keeps : (x : ℕ) → WellFormed n (erase_of t x)
  erase_keeps x = erase_cases (WellFormed n) t x (λ l. put_keeps (slot_of x t.addresses) 0 0 0 w l (λ _ _ _ k _. k refl) (inl (record { address = refl; port = refl; hops = refl }))) (λ _. w)

  -- where every address in a slot is of a list shorter than 64, it is never full
  pub never_full : (hosts : List ℕ) → length hosts < slots → ((y : ℕ) → Holds t y → Memᴰ y hosts) → (x p h : ℕ) → (learn_of t x p h).full ≡ false
  never_full hosts few named x p h = learn_cases (λ r. r.full ≡ false) t x p h (λ _. refl) (λ l. absurd (not-le_of_lt few (full_many w x hosts named l)))

-- the empty table is well-formed
pub empty_well_formed : (n : ℕ) → WellFormed n empty_table
unfolding empty_table
empty_well_formed n = record {
  sized = record { addresses = refl; ports = refl; hops = refl };
  slot = λ i l. inl (record { address = get_or-replicate slots i 0 0 l; port = get_or-replicate slots i 0 0 l; hops = get_or-replicate slots i 0 0 l });
  once = λ i j l _ k _. absurd (k (get_or-replicate slots i 0 0 l));
}

-- and finds nothing
pub empty_absent : (x : ℕ) → lookup_of empty_table x ≡ None
unfolding empty_table
empty_absent x = (absent_iff (empty_well_formed 0).sized x).1 (λ k. k.nonzero (sym k.here ∙ get_or-replicate slots k.slot 0 0 k.within))

-- ---- The tests

-- the test of a table is true exactly where it is well-formed
pub test_iff : (n : ℕ) {t : Table} → Sized t → (well_formed n t ≡ true) ↔ WellFormed n t
test_iff n z = table_test n z
