-- Looking up by the slot that is found, and what writing one slot does to a table.
use mathlib.Core.Path.{◌≡◌, refl, sym, ◌∙◌}
use mathlib.Core.Logic.{◌⊎◌, ◌≢◌, inl, inr, by_cases}
use Prim.Native.Nat.{ℕ, ◌<◌, ◌≤◌}
use native.Mathlib.Decide.{dec_lt, ℕ_discrete}
use native.Mathlib.Omega.{arith}
use lib.ListN.{length-set, get_or, set}
use lib.Seq.{get_or-set_same, get_or-set_other, set-get_or}
use borrow.Author.Tests.{eq-eqb, ne_eqb, lt-ltb, le-ltb}
use Rattle.std.specs.Prelude.{Some, None}
use Rattle.table.specs.declared.Table.{Table}
use Rattle.table.specs.declared.Entry.{Entry}
use Rattle.table.specs.Table.{Holds, Sized, address_at, entry_at, entry_of, found_at, hops_at, lookup_of, port_at, put, slot_of, slots}
use Rattle.table.proofs.Slots.{slot_least, slot_set, slot_set_other, slot_stands}

-- an entry is not absent
pub found_apart : (e : Entry) → Some e ≢ None
found_apart e q = let o : ◌≡◌ {A = ℕ} 0 1 = cc in omega arith

pub zero_absent : (t : Table) → lookup_of t 0 ≡ None
unfolding lookup_of
zero_absent t = refl

module _ (t : Table) (x : ℕ) where
  pub lookup_none : slots ≤ slot_of x t.addresses → lookup_of t x ≡ None
  unfolding lookup_of found_at
  lookup_none h = by_cases (ℕ_discrete x 0) (λ e. rw (eq-eqb x 0 e)) (λ n. rw (ne_eqb x 0 n, le-ltb _ _ h))

  pub lookup_here : x ≢ 0 → slot_of x t.addresses < slots → lookup_of t x ≡ Some (entry_at t (slot_of x t.addresses))
  unfolding lookup_of found_at
  lookup_here n h = rw (ne_eqb x 0 n, lt-ltb _ _ h)

module _ {t : Table} (z : Sized t) where
  unfoldable pub first_holds : (x : ℕ) → x ≢ 0 → slot_of x t.addresses < slots → Holds t x
  first_holds x n l = record { nonzero = n; slot = slot_of x t.addresses; within = l; here = slot_stands x t.addresses (omega (arith, z.addresses)) }

  pub holds_first : {x : ℕ} → Holds t x → slot_of x t.addresses < slots
  holds_first {x} k = omega (arith, slot_least x t.addresses k.slot (omega (arith, z.addresses)) k.here, k.within)

-- slot s is written
module _ {t : Table} (s x p h : ℕ) (z : Sized t) where
  pub put_sized : Sized (put t s x p h)
  unfolding put
  put_sized = record { addresses = simp length-set z.addresses; ports = simp length-set z.ports; hops = simp length-set z.hops }

  -- it holds what was written
  module _ (l : s < slots) where
    pub put_address : address_at (put t s x p h) s ≡ x
    unfolding put
    put_address = get_or-set_same t.addresses s x 0 (omega (arith, z.addresses))

    pub put_entry : entry_at (put t s x p h) s ≡ entry_of p h
    unfolding put
    put_entry =
        let e : get_or (set t.ports s p) s 0 ≡ p = get_or-set_same t.ports s p 0 (omega (arith, z.ports)) in
        let d : get_or (set t.hops s h) s 0 ≡ h = get_or-set_same t.hops s h 0 (omega (arith, z.hops)) in
        rw (e, d)

  -- the others hold what they held
  module _ (i : ℕ) (n : i ≢ s) where
    pub other_address : address_at (put t s x p h) i ≡ address_at t i
    unfolding put
    other_address = get_or-set_other t.addresses s i x 0 n

    pub other_entry : entry_at (put t s x p h) i ≡ entry_at t i
    unfolding put
    other_entry = rw (get_or-set_other t.ports s i p 0 n, get_or-set_other t.hops s i h 0 n)

  -- an address that is written no later than its first place is found
  module _ (n : x ≢ 0) (l : s < slots) (k : s ≤ slot_of x t.addresses) where
    its_slot : slot_of x (put t s x p h).addresses ≡ s
    unfolding put
    its_slot = slot_set x t.addresses s (omega (arith, z.addresses)) k

    pub put_found : lookup_of (put t s x p h) x ≡ Some (entry_of p h)
    put_found = lookup_here (put t s x p h) x n (rw its_slot l) ∙ rw (its_slot, put_entry l)

  -- another address, neither overwritten nor written, is found as before
  module _ (y : ℕ) (over : y ≢ 0 → address_at t s ≢ y) (new : y ≢ 0 → x ≢ y) where
    same_slot : y ≢ 0 → slot_of y (put t s x p h).addresses ≡ slot_of y t.addresses
    unfolding put
    same_slot k = slot_set_other y t.addresses s x (over k) (new k)

    pub put_other : lookup_of (put t s x p h) y ≡ lookup_of t y
    put_other = by_cases (ℕ_discrete y 0) (λ e. rw e (zero_absent (put t s x p h) ∙ sym (zero_absent t))) (λ k. by_cases (dec_lt (slot_of y t.addresses) slots) (stands k) (none k))
      where
        none : y ≢ 0 → ¬ (slot_of y t.addresses < slots) → lookup_of (put t s x p h) y ≡ lookup_of t y
        none k l = lookup_none (put t s x p h) y (rw (same_slot k) (omega arith)) ∙ sym (lookup_none t y (omega arith))

        stands : y ≢ 0 → slot_of y t.addresses < slots → lookup_of (put t s x p h) y ≡ lookup_of t y
        stands k l =
            let d : slot_of y t.addresses ≢ s = (λ e. over k (rw (← e) (slot_stands y t.addresses (omega (arith, z.addresses))))) in
            lookup_here (put t s x p h) y k (rw (same_slot k) l) ∙ rw (same_slot k, other_entry (slot_of y t.addresses) d) (sym (lookup_here t y k l))

  -- what stands in a slot stood there before, or was written
  pub put_holds : s < slots → {y : ℕ} → Holds (put t s x p h) y → (y ≡ x) ⊎ Holds t y
  put_holds l k = by_cases (ℕ_discrete k.slot s)
      (λ e. inl (sym k.here ∙ rw e (put_address l)))
      (λ d. inr (record { nonzero = k.nonzero; slot = k.slot; within = k.within; here = sym (other_address k.slot d) ∙ k.here }))

-- a slot that is written with what it holds stays
pub put_same : (t : Table) (s x p h : ℕ) → address_at t s ≡ x → port_at t s ≡ p → hops_at t s ≡ h → put t s x p h ≡ t
unfolding put
put_same t s x p h a b c = rw (← a, ← b, ← c, set-get_or t.addresses s 0, set-get_or t.ports s 0, set-get_or t.hops s 0)
