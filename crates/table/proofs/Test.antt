-- The test of a table is true exactly where the table is well-formed.
use mathlib.Core.Path.{◌≡◌, refl, sym, ◌∙◌}
use mathlib.Core.Logic.{◌↔◌, ◌≢◌, inl, inr, ⊎_elim}
use mathlib.Core.Bool.{Bool, true, false, cond, ◌&&◌, and-eq-true_iff}
use Prim.Native.Nat.{ℕ, ◌<◌}
use lib.Dec.{eqb, ltb, leb}
use borrow.Author.Tests.{eq-eqb, ne_eqb, lt-ltb, le-leb, eqb-true, ltb-true, leb-true}
use Rattle.table.specs.declared.Table.{Table}
use Rattle.wire.specs.Address.{is_source}
use Rattle.wire.specs.Below.{all_below}
use Rattle.wire.proofs.Laws.{source_iff}
use Rattle.wire.proofs.Below.{all_below_lem, each_below}
use Rattle.table.specs.Table.{Empty, MayHold, Sized, Slot, WellFormed, address_at, hops_at, may_hold, port_at, slot_fits, slot_of, slots, well_formed}
use Rattle.table.proofs.WellFormed.{own_slot}

held_test : (n x p h : ℕ) → (may_hold n x p h ≡ true) ↔ MayHold n x p h
unfolding may_hold
held_test n x p h = (tested, λ v. rw (lt-ltb p n v.port, le-leb 1 h v.least, le-leb h 62 v.most) ((source_iff x).1 v.source))
  where
    tested : (ltb p n && leb 1 h && leb h 62 && is_source x) ≡ true → MayHold n x p h
    tested e =
        let (a, source) = (and-eq-true_iff (ltb p n && leb 1 h && leb h 62) (is_source x)).0 e in
        let (b, most) = (and-eq-true_iff (ltb p n && leb 1 h) (leb h 62)).0 a in
        let (port, least) = (and-eq-true_iff (ltb p n) (leb 1 h)).0 b in
        record { source = (source_iff x).0 source; port = ltb-true p n port; least = leb-true 1 h least; most = leb-true h 62 most }

-- slot i passes exactly if it is empty, or holds what it may and its address's first slot is i
module _ (n : ℕ) (t : Table) (i : ℕ) where
  slot_test : slot_fits n t i ≡ true → Slot n t i × (address_at t i ≢ 0 → slot_of (address_at t i) t.addresses ≡ i)
  unfolding slot_fits
  slot_test = go (eqb (address_at t i) 0) refl
    where
      go : (b : Bool) → eqb (address_at t i) 0 ≡ b → cond b (eqb (port_at t i) 0 && eqb (hops_at t i) 0) (may_hold n (address_at t i) (port_at t i) (hops_at t i) && eqb (slot_of (address_at t i) t.addresses) i) ≡ true
          → Slot n t i × (address_at t i ≢ 0 → slot_of (address_at t i) t.addresses ≡ i)
      go true z e =
          let (port, hops) = (and-eq-true_iff (eqb (port_at t i) 0) (eqb (hops_at t i) 0)).0 e in
          (inl (record { address = eqb-true (address_at t i) 0 z; port = eqb-true (port_at t i) 0 port; hops = eqb-true (hops_at t i) 0 hops }), λ k. absurd (k (eqb-true (address_at t i) 0 z)))
      go false z e =
          let (held, first) = (and-eq-true_iff (may_hold n (address_at t i) (port_at t i) (hops_at t i)) (eqb (slot_of (address_at t i) t.addresses) i)).0 e in
          (inr ((held_test n (address_at t i) (port_at t i) (hops_at t i)).0 held), λ k. eqb-true (slot_of (address_at t i) t.addresses) i first)

  slot_passes : Slot n t i → (address_at t i ≢ 0 → slot_of (address_at t i) t.addresses ≡ i) → slot_fits n t i ≡ true
  unfolding slot_fits
  slot_passes v first = ⊎_elim
      (λ (e : Empty (address_at t i) (port_at t i) (hops_at t i)). rw (eq-eqb (address_at t i) 0 e.address, eq-eqb (port_at t i) 0 e.port, eq-eqb (hops_at t i) 0 e.hops))
      (λ (e : MayHold n (address_at t i) (port_at t i) (hops_at t i)). rw (ne_eqb (address_at t i) 0 e.source.nonzero, (held_test n (address_at t i) (port_at t i) (hops_at t i)).1 e) (eq-eqb (slot_of (address_at t i) t.addresses) i (first e.source.nonzero)))
      v

pub table_test : (n : ℕ) {t : Table} → Sized t → (well_formed n t ≡ true) ↔ WellFormed n t
unfolding well_formed
table_test n {t} z = (tested, λ w. all_below_lem (slot_fits n t) slots (λ i h. slot_passes n t i (w.slot i h) (own_slot w i h)))
  where
    tested : all_below (slot_fits n t) slots ≡ true → WellFormed n t
    tested e =
        let each : (i : ℕ) → i < slots → Slot n t i × (address_at t i ≢ 0 → slot_of (address_at t i) t.addresses ≡ i) = (λ i h. slot_test n t i (each_below (slot_fits n t) slots e i h)) in
        record { sized = z; slot = λ i h. (each i h).0; once = λ i j hi hj k q. sym ((each i hi).1 k) ∙ rw q ((each j hj).1 (λ d. k (q ∙ d))) }
