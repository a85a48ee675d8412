-- What the rules do to a table: it keeps what erasing the destination and learning the source keep.
use mathlib.Core.Path.{◌≡◌, refl, sym, ◌∙◌}
use mathlib.Core.Logic.{◌⊎◌, ◌≢◌, ⊎_elim}
use mathlib.Core.Bool.{Bool, true, false, cond, not, ◌&&◌, true≢false, false≢true}
use mathlib.Core.List.{List, Memᴰ}
use Prim.Native.Nat.{ℕ, ◌<◌, ◌≤◌}
use native.Mathlib.Omega.{arith}
use lib.ListN.{length}
use borrow.Author.Tests.{ltb-false}
use Rattle.std.specs.Prelude.{Some}
use Rattle.table.specs.declared.Table.{Table}
use Rattle.table.specs.Table.{Learned, Holds, MayHold, Sized, WellFormed, entry_of, erase_of, learn_of, learned_of, lookup_of, most_hops, slots}
use Rattle.table.proofs.Laws as laws
use Rattle.rules.specs.Rules.{at_one, erases, learning, learns, reading, rule5, rule6, rules, too_old}
use Rattle.rules.specs.declared.Setup.{Setup}
use Rattle.rules.specs.declared.Arrival.{Arrival}
use Rattle.rules.specs.Words.{Arrives}
use Rattle.rules.proofs.Ways.{by_test, table_keeps, way}

module _ (s : Setup) (t : Table) (f : List ℕ) (a : Arrival) (P : Table → Type 0) (before : P t) where
  pub sized_keeps :
      Sized t → ((u : Table) → Sized u → P u → P (erase_of u a.destination))
      → ((u : Table) → Sized u → P u → P (learn_of u a.source a.port a.header.hc).table) → P (rules s t f a).table
  sized_keeps sized erasing teaching =
      (table_keeps s t f a (λ u. Sized u × P u) (sized, before)
      (λ u k. (laws.erase_sized k.0 a.destination, erasing u k.0 k.1))
      (λ _ u k. (laws.learn_sized k.0 a.source a.port a.header.hc, teaching u k.0 k.1))
      (way s t f a)).1

  pub formed_keeps :
      {n : ℕ} → WellFormed n t → s.limit ≤ most_hops → Arrives n a → ((u : Table) → WellFormed n u → P u → P (erase_of u a.destination))
      → ((u : Table) → WellFormed n u → P u → P (learn_of u a.source a.port a.header.hc).table) → WellFormed n (rules s t f a).table × P (rules s t f a).table
  formed_keeps {n} formed low arrives erasing teaching =
      table_keeps s t f a (λ u. WellFormed n u × P u) (formed, before)
      (λ u k. (laws.erase_keeps k.0 a.destination, erasing u k.0 k.1))
      (λ young u k. (laws.learn_keeps k.0 (may_learn young), teaching u k.0 k.1))
      (way s t f a)
    where
      may_learn : too_old s a ≡ false → MayHold n a.source a.port a.header.hc
      may_learn young =
          record { source = arrives.source; port = arrives.port; least = arrives.hops; most = omega (arith, ltb-false s.limit a.header.hc young) }

-- with L set rule 5 erases nothing
local_safe : (dup l one : Bool) → l ≡ true → (not dup && not l && one) ≡ false
local_safe true true one e = refl
local_safe false true one e = refl
local_safe true false one e = refl
local_safe false false one e = absurd (false≢true e)

-- rules 4 to 6
module _ (t : Table) (a : Arrival) (dup : Bool) where
  after5 : (P : Table → Type 0) → P t → (erases a dup (reading t a) ≡ true → P (erase_of t a.destination)) → P (rule5 t a dup (reading t a))
  unfolding rule5
  after5 P before erasing = by_test P (erases a dup (reading t a)) erasing (λ _. before)

  sized5 : Sized t → Sized (rule5 t a dup (reading t a))
  sized5 sized = after5 Sized sized (λ _. laws.erase_sized sized a.destination)

  learning_by : {test : Bool} → learns a dup (reading t a) ≡ test
      → learning t a dup ≡ cond test (learn_of (rule5 t a dup (reading t a)) a.source a.port a.header.hc) (learned_of false (rule5 t a dup (reading t a)))
  unfolding learning rule6
  learning_by e = rw e

  pub learned_entry : Sized t → a.source ≢ 0 → learns a dup (reading t a) ≡ true → (learning t a dup).full ≡ false
      → lookup_of (learning t a dup).table a.source ≡ Some (entry_of a.port a.header.hc)
  learned_entry sized some e = rw (learning_by e) (λ room. laws.learn_same (sized5 sized) a.source a.port a.header.hc some room)

  pub kept_entry : Sized t → (a.source ≢ a.destination) ⊎ (a.header.l ≡ true) → learns a dup (reading t a) ≡ false
      → lookup_of (learning t a dup).table a.source ≡ lookup_of t a.source
  unfolding erases
  kept_entry sized safe e =
      rw (learning_by e) (after5 (λ u. lookup_of u a.source ≡ lookup_of t a.source) refl
      (λ erased. ⊎_elim (laws.erase_other sized a.destination a.source) (λ l. absurd (true≢false (sym erased ∙ local_safe dup a.header.l (at_one (reading t a)) l))) safe))

  pub learning_room : {n : ℕ} → WellFormed n t → (hosts : List ℕ) → length hosts < slots → ((y : ℕ) → Holds t y → Memᴰ y hosts) → (learning t a dup).full ≡ false
  unfolding learning rule6
  learning_room {n} formed hosts few named =
      by_test (λ (k : Learned). k.full ≡ false) (learns a dup (reading t a))
      (λ _. after5 (λ u. (learn_of u a.source a.port a.header.hc).full ≡ false)
      (laws.never_full formed hosts few named a.source a.port a.header.hc)
      (λ _. laws.never_full (laws.erase_keeps formed a.destination) hosts few (λ y k. named y (laws.erase_holds formed.sized a.destination k)) a.source a.port a.header.hc))
      (λ _. refl)
