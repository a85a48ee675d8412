-- A record that passes: none of its causes holds. A list of records: the first fault decides.
use Prim.Native.Nat.{ℕ, ◌<◌}
use mathlib.Core.Path.{◌≡◌, refl, sym, ◌∙◌}
use mathlib.Core.Bool.{Bool, true, false}
use mathlib.Core.List.{List, [], ◌∷◌}
use native.Mathlib.Omega.{arith}
use lib.Dec.{eqb}
use borrow.Author.Tests.{eq-eqb, ne_eqb, eqb-true, eqb-false, leb-false}
use Rattle.std.specs.Prelude.{Result, Ok, Err}
use Rattle.refusal.specs.Refusal.{first, answered}
use Rattle.refusal.specs.Number.{number_of, told}
use Rattle.refusal.specs.declared.Refusal.{Refusal}
use Rattle.refusal.specs.Exact.{Numbered}
use Rattle.refusal.proofs.Laws.{for_its_cause_only, refused_answer}
use Rattle.refusal.proofs.Told.{refused_apart}
use Rattle.network.specs.declared.Switch.{Switch}
use Rattle.network.specs.declared.Host.{Host}
use Rattle.network.specs.declared.Link.{Link}
use Rattle.network.specs.declared.Network.{Network}
use Rattle.network.specs.declared.Record.{Record}
use Rattle.network.specs.declared.Record.TheVariants.{Switch as OfSwitch, Host as OfHost, Link as OfLink}
use Rattle.network.specs.Network.{add}
use Rattle.network.specs.Checks.{causes, checked, record_fault, records_fault, too_many, out_of_order, out_of_range, port_taken, bad_address}

-- a record without a fault
pub record Passes (n : Network) (r : Record) : Type 0 where
  pub room : too_many n r ≡ false
  pub order : out_of_order n r ≡ false
  pub range : out_of_range n r ≡ false
  pub free : port_taken n r ≡ false
  pub address : bad_address n r ≡ false

-- none of its causes has the number 0
pub numbered : (n : Network) (r : Record) → Numbered (causes n r)
numbered n r = ((λ z. omega arith), ((λ z. omega arith), ((λ z. omega arith), ((λ z. omega arith), ((λ z. omega arith), tt)))))

pub passes : (n : Network) (r : Record) → record_fault n r ≡ 0 → Passes n r
unfolding record_fault
passes n r e =
    let none = (for_its_cause_only (causes n r)).only_then (numbered n r) e in
    record { room = none.0; order = none.1.0; range = none.1.1.0; free = none.1.1.1.0; address = none.1.1.1.1.0 }

-- there is a place for it
pub switch_room : (n : Network) {r : Record} {s : Switch} → r ≡ OfSwitch s → record_fault n r ≡ 0 → n.nswitches < 16
unfolding too_many
switch_room n {r} {s} p e = leb-false _ _ (passes n (OfSwitch s) (rw p at e)).room

pub host_room : (n : Network) {r : Record} {h : Host} → r ≡ OfHost h → record_fault n r ≡ 0 → n.nhosts < 32
unfolding too_many
host_room n {r} {h} p e = leb-false _ _ (passes n (OfHost h) (rw p at e)).room

pub link_room : (n : Network) {r : Record} {l : Link} → r ≡ OfLink l → record_fault n r ≡ 0 → n.nlinks < 64
unfolding too_many
link_room n {r} {l} p e = leb-false _ _ (passes n (OfLink l) (rw p at e)).room

-- a number found by other checks decides unless it is 0
pub checked_first : (x y : ℕ) → (x ≡ 0 → ⊥) → first (checked x ∷ checked y ∷ []) ≡ x
checked_first x y h = rw (ne_eqb x 0 h)

checked_last : (x : ℕ) → first (checked x ∷ []) ≡ x
checked_last x = by_test (eqb x 0) refl
  where
    by_test : (b : Bool) → eqb x 0 ≡ b → first (checked x ∷ []) ≡ x
    by_test true e = rw e (sym (eqb-true x 0 e))
    by_test false e = rw e

checked_next : (x y : ℕ) → x ≡ 0 → first (checked x ∷ checked y ∷ []) ≡ y
checked_next x y h = rw (eq-eqb x 0 h) (checked_last y)

module _ (n : Network) (r : Record) (rs : List Record) where
  pub fault_here : (record_fault n r ≡ 0 → ⊥) → records_fault n (r ∷ rs) ≡ record_fault n r
  unfolding records_fault
  fault_here h = checked_first (record_fault n r) (records_fault (add n r) rs) h

  pub fault_behind : record_fault n r ≡ 0 → records_fault n (r ∷ rs) ≡ records_fault (add n r) rs
  unfolding records_fault
  fault_behind h = checked_next (record_fault n r) (records_fault (add n r) rs) h

  pub none_here : records_fault n (r ∷ rs) ≡ 0 → record_fault n r ≡ 0
  none_here e = by_test (eqb (record_fault n r) 0) refl
    where
      by_test : (b : Bool) → eqb (record_fault n r) 0 ≡ b → record_fault n r ≡ 0
      by_test true q = eqb-true (record_fault n r) 0 q
      by_test false q = sym (fault_here (eqb-false (record_fault n r) 0 q)) ∙ e

  pub none_behind : records_fault n (r ∷ rs) ≡ 0 → records_fault (add n r) rs ≡ 0
  none_behind e = sym (fault_behind (none_here e)) ∙ e

-- a refusal's number is not 0, which is none's
pub some : (r : Refusal) → number_of r ≡ 0 → ⊥
some r e = other (refused_apart r (Ok tt) (sym e))
  where
    other : ◌≡◌ {A = Result (Unit {0}) Refusal} (Ok tt) (Err r) → ⊥
    other p = let z : ◌≡◌ {A = ℕ} 0 1 = cc in omega arith

-- a refusal's answer has its number alone
pub told_refused : {A : Type 0} (values : A → List ℕ) (r : Refusal) {number : ℕ} (vs : List ℕ) → number ≡ number_of r → told values (Err r) ≡ answered number vs
told_refused values r vs e = refused_answer (sym e) (some r) vs
