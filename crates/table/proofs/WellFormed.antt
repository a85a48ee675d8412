-- On a well-formed table an address stands in its first slot and in no other.
use mathlib.Core.Path.{◌≡◌, refl, sym, ap, ◌∙◌}
use mathlib.Core.Logic.{◌⊎◌, ◌≢◌, ⊎_elim, by_cases}
use mathlib.Core.List.{List, Memᴰ}
use Prim.Native.Nat.{ℕ, ◌<◌, ◌≤◌}
use native.Mathlib.Decide.{ℕ_discrete}
use native.Mathlib.Omega.{arith}
use lib.ListN.{length}
use Rattle.table.specs.declared.Table.{Table}
use Rattle.table.specs.declared.Entry.{Entry}
use Rattle.table.specs.Table.{Empty, Holds, MayHold, Slot, WellFormed, address_at, hops_at, port_at, put, slot_for, slot_of, slots}
use Rattle.table.proofs.Slots.{for_known, for_none, slot_first, slot_least, slot_stands}
use Rattle.table.proofs.Put.{other_address, other_entry, put_address, put_entry, put_same, put_sized}
use Rattle.table.proofs.Room.{pigeonhole}

module _ {n : ℕ} {t : Table} (w : WellFormed n t) where
  pub own_slot : (i : ℕ) → i < slots → address_at t i ≢ 0 → slot_of (address_at t i) t.addresses ≡ i
  own_slot i l k = slot_first (address_at t i) t.addresses i (omega (arith, w.sized.addresses)) refl
      (λ j m e. let q : i ≡ j = w.once i j l (omega arith) k (sym e) in omega arith)

  -- the slot where an address is learned is the only one that can have it
  pub for_only : (x : ℕ) (j : ℕ) → j < slots → j ≢ slot_for x t.addresses → x ≢ 0 → address_at t j ≢ x
  for_only x j l d k e =
      let o : slot_of x t.addresses ≡ j = rw e at (own_slot j l (λ q. k (sym e ∙ q))) in
      d (sym (for_known x t.addresses (omega (arith, w.sized.addresses)) ∙ o))

  module _ (x : ℕ) (l : slot_of x t.addresses < slots) where
    -- where the first slot of an address is zeroed, it stands in none
    pub zeroed_gone : ¬ Holds (put t (slot_of x t.addresses) 0 0 0) x
    zeroed_gone k = by_cases (ℕ_discrete k.slot (slot_of x t.addresses))
        (λ e. k.nonzero (sym k.here ∙ rw e (put_address (slot_of x t.addresses) 0 0 0 w.sized l)))
        (λ d.
        let e : address_at t k.slot ≡ x = sym (other_address (slot_of x t.addresses) 0 0 0 w.sized k.slot d) ∙ k.here in
        d (sym (rw e at (own_slot k.slot k.within (λ q. k.nonzero (sym e ∙ q))))))

    -- the first slot of zero is all zeros already
    pub zeroed_same : x ≡ 0 → put t (slot_of x t.addresses) 0 0 0 ≡ t
    zeroed_same z = ⊎_elim
        (λ (v : Empty (address_at t (slot_of x t.addresses)) (port_at t (slot_of x t.addresses)) (hops_at t (slot_of x t.addresses))). put_same t (slot_of x t.addresses) 0 0 0 v.address v.port v.hops)
        (λ v. absurd (v.source.nonzero (slot_stands x t.addresses (omega (arith, w.sized.addresses)) ∙ z)))
        (w.slot (slot_of x t.addresses) l)

  -- where a new address has no slot, each of the 64 holds an address of its own
  pub full_many : (x : ℕ) (hosts : List ℕ) → ((y : ℕ) → Holds t y → Memᴰ y hosts) → slots ≤ slot_for x t.addresses → slots ≤ length hosts
  full_many x hosts named l = pigeonhole (address_at t) slots hosts (λ i j hi hj e. w.once i j hi hj (used i hi) e) (λ i h. named (address_at t i) (record { nonzero = used i h; slot = i; within = h; here = refl }))
    where
      used : (i : ℕ) → i < slots → address_at t i ≢ 0
      used i h e =
          let none : length t.addresses ≤ slot_of 0 t.addresses = (for_none x t.addresses (omega (arith, w.sized.addresses))).1 in
          let low : slot_of 0 t.addresses ≤ i = slot_least 0 t.addresses i (omega (arith, w.sized.addresses)) e in
          omega (arith, w.sized.addresses)

-- a slot's write keeps a table well-formed, if the slot may hold it and no other slot has its address
module _ {n : ℕ} {t : Table} (s x p h : ℕ) (w : WellFormed n t) (l : s < slots) where
  kept_slot : Empty x p h ⊎ MayHold n x p h → (i : ℕ) → i < slots → Slot n (put t s x p h) i
  kept_slot v i k = by_cases (ℕ_discrete i s)
      (λ e. rw (e, put_address s x p h w.sized l, ap (λ (f : Entry). f.port) (put_entry s x p h w.sized l), ap (λ (f : Entry). f.hops) (put_entry s x p h w.sized l)) v)
      (λ d. rw (other_address s x p h w.sized i d, ap (λ (f : Entry). f.port) (other_entry s x p h w.sized i d), ap (λ (f : Entry). f.hops) (other_entry s x p h w.sized i d)) (w.slot i k))

  module _ (only : (j : ℕ) → j < slots → j ≢ s → x ≢ 0 → address_at t j ≢ x) where
    -- of two slots with one address, neither is the one written and the other not
    apart : (i j : ℕ) → j < slots → i ≡ s → j ≢ s → address_at (put t s x p h) i ≢ 0 → address_at (put t s x p h) i ≢ address_at (put t s x p h) j
    apart i j hj e d k q =
        let here : address_at (put t s x p h) i ≡ x = rw e (put_address s x p h w.sized l) in
        only j hj d (λ z. k (here ∙ z)) (sym (other_address s x p h w.sized j d) ∙ sym q ∙ here)

    kept_once : (i j : ℕ) → i < slots → j < slots → address_at (put t s x p h) i ≢ 0 → address_at (put t s x p h) i ≡ address_at (put t s x p h) j → i ≡ j
    kept_once i j hi hj k e = by_cases (ℕ_discrete i s)
        (λ a. by_cases (ℕ_discrete j s) (λ b. a ∙ sym b) (λ b. absurd (apart i j hj a b k e)))
        (λ a. by_cases (ℕ_discrete j s)
        (λ b. absurd (apart j i hi b a (λ z. k (e ∙ z)) (sym e)))
        (λ b. w.once i j hi hj (λ z. k (other_address s x p h w.sized i a ∙ z)) (sym (other_address s x p h w.sized i a) ∙ e ∙ other_address s x p h w.sized j b)))

    pub put_keeps : Empty x p h ⊎ MayHold n x p h → WellFormed n (put t s x p h)
    put_keeps v = record { sized = put_sized s x p h w.sized; slot = kept_slot v; once = kept_once }
