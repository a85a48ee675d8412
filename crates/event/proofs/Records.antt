-- One record: the tests that the code makes at a place are those of the definition, and what passes them is whole.
use Prim.Native.Nat.{ℕ, ◌+◌, ◌≤◌}
use mathlib.Core.Path.{◌≡◌, refl, ap, ◌∙◌}
use mathlib.Core.Bool.{Bool, true, false, cond, not, ◌||◌}
use mathlib.Core.List.{List}
use native.Mathlib.Omega.{arith}
use lib.ListN.{length}
use lib.Dec.{eqb, ltb}
use borrow.Author.Tests.{le-ltb, eq-eqb, ne_eqb, eqb-true, eqb-false, ltb-false, not-false}
use Rattle.refusal.proofs.Laws.{neither}
use Rattle.network.specs.Format.{length_in, kind_in, body_in, headless}
use Rattle.event.specs.declared.Event.{Event}
use Rattle.event.specs.Event.{kind_of, event_length, size_of, event_of, event_in, bad_event}

-- a record that starts here is all there
pub record Whole (b : List ℕ) : Type 0 where
  pub head : 3 ≤ length b
  pub some : length_in b ≡ 0 → ⊥
  pub sized : length_in b ≡ event_length (kind_in b)
  pub room : length_in b + 2 ≤ length b

pub whole : (b : List ℕ) → bad_event b ≡ false → Whole b
unfolding bad_event headless
whole b h =
    let p = neither (ltb (length b) 3 || eqb (length_in b) 0 || not (eqb (length_in b) (event_length (kind_in b)))) (ltb (length b) (length_in b + 2)) h in
    let q = neither (ltb (length b) 3 || eqb (length_in b) 0) (not (eqb (length_in b) (event_length (kind_in b)))) p.0 in
    let r = neither (ltb (length b) 3) (eqb (length_in b) 0) q.0 in
    record {
      head = ltb-false _ _ r.0;
      some = eqb-false _ _ r.1;
      sized = eqb-true _ _ (not-false _ q.1);
      room = ltb-false _ _ p.1;
    }

pub not_bad : (b : List ℕ) → Whole b → bad_event b ≡ false
unfolding bad_event headless
not_bad b v =
    rw (
      le-ltb (length b) 3 v.head,
      ne_eqb (length_in b) 0 v.some,
      eq-eqb (length_in b) (event_length (kind_in b)) v.sized,
      le-ltb (length b) (length_in b + 2) v.room,
    )

-- what holds of the three kinds holds of each kind that has a length
pub each_kind : (P : ℕ → Type 0) → P 4 → P 5 → P 6 → (kind : ℕ) → (event_length kind ≡ 0 → ⊥) → P kind
unfolding event_length
each_kind P four five six kind h = by_kind (eqb kind 4) (eqb kind 5) (eqb kind 6) refl refl refl h
  where
    by_kind : (a b c : Bool) → eqb kind 4 ≡ a → eqb kind 5 ≡ b → eqb kind 6 ≡ c → (◌≡◌ {A = ℕ} (cond a 8 (cond b 3 (cond c 3 0))) 0 → ⊥) → P kind
    by_kind true b c p q r h = rw (eqb-true kind 4 p) four
    by_kind false true c p q r h = rw (eqb-true kind 5 q) five
    by_kind false false true p q r h = rw (eqb-true kind 6 r) six
    by_kind false false false p q r h = absurd (h refl)

pub known : {b : List ℕ} → Whole b → event_length (kind_in b) ≡ 0 → ⊥
known v z = v.some (v.sized ∙ z)

pub length_least : (kind : ℕ) → (event_length kind ≡ 0 → ⊥) → 3 ≤ event_length kind
unfolding event_length
length_least = each_kind (λ kind. 3 ≤ event_length kind) (omega arith) (omega arith) (omega arith)

pub kind_back : (body : List ℕ) (kind : ℕ) → (event_length kind ≡ 0 → ⊥) → kind_of (event_of kind body) ≡ kind
unfolding event_of kind_of
kind_back body = each_kind (λ kind. kind_of (event_of kind body) ≡ kind) refl refl refl

-- a whole record's event takes what the record has
pub size_within : {b : List ℕ} → Whole b → {e : Event} → e ≡ event_in b → size_of e ≤ length b
unfolding size_of
size_within {b} v {e} q =
    let kind : kind_of e ≡ kind_in b = ap kind_of q ∙ kind_back (body_in b) (kind_in b) (known v) in
    omega (arith, ap event_length kind, v.sized, v.room)
