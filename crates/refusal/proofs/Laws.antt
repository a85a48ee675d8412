-- The laws of the first cause in order, by going through the causes one by one.
use Prim.Native.Nat.{ℕ, zero, suc, ◌≤◌}
use mathlib.Core.Path.{◌≡◌, refl, sym, ap}
use mathlib.Core.Bool.{Bool, true, false, cond, ◌||◌, true≢false}
use mathlib.Core.List.{List, [], ◌∷◌, ◌++◌}
use Rattle.refusal.specs.Refusal.{Cause, when, first, outside, answered, leaves}
use lib.Dec.{ltb}
use borrow.Author.Tests.{le-ltb, ltb-false}
use Rattle.refusal.specs.Exact.{NoneHolds, Numbered, Decides, ForItsCauseOnly}

-- the causes with one more in front that does not hold
later : (n : ℕ) (c : Cause) (cs : List Cause) → c.holds ≡ false → Decides n cs → Decides n (c ∷ cs)
later n c cs h d =
    record { before = c ∷ d.before; behind = d.behind; listed = ap (λ l. c ∷ l) d.listed; none_before = (h, d.none_before) }

refused : (n : ℕ) → (n ≡ 0 → ⊥) → (cs : List Cause) → first cs ≡ n → Decides n cs
refused n some [] e = absurd (some (sym e))
refused n some (c ∷ cs) e = by_test c.holds refl e (refused n some cs)
  where
    by_test : (b : Bool) → c.holds ≡ b → cond b c.number (first cs) ≡ n → (first cs ≡ n → Decides n cs) → Decides n (c ∷ cs)
    by_test true h q go =
        record { before = []; behind = cs; listed = λ i. record { number = q i; holds = h i } ∷ cs; none_before = tt }
    by_test false h q go = later n c cs h (go q)

first_behind : (cs : List Cause) {n : ℕ} (behind : List Cause) → NoneHolds cs → first (cs ++ (when n true ∷ behind)) ≡ n
first_behind [] behind none = refl
first_behind (c ∷ cs) behind none = rw none.0 (first_behind cs behind none.1)

none_first : (cs : List Cause) → NoneHolds cs → first cs ≡ 0
none_first [] none = refl
none_first (c ∷ cs) none = rw none.0 (none_first cs none.1)

first_none : (cs : List Cause) → Numbered cs → first cs ≡ 0 → NoneHolds cs
first_none [] ns e = tt
first_none (c ∷ cs) ns e = by_test c.holds refl e (first_none cs ns.1)
  where
    by_test : (b : Bool) → c.holds ≡ b → cond b c.number (first cs) ≡ 0 → (first cs ≡ 0 → NoneHolds cs) → NoneHolds (c ∷ cs)
    by_test true h q go = absurd (ns.0 q)
    by_test false h q go = (h, go q)

-- whatever the causes, a call that has the number of the first refuses for its listed cause only
pub for_its_cause_only : (cs : List Cause) → ForItsCauseOnly (first cs) cs
for_its_cause_only cs =
    record {
      refused = λ n some e. refused n some cs e;
      decided = λ n d. rw d.listed (first_behind d.before d.behind d.none_before);
      accepted = none_first cs;
      only_then = first_none cs;
    }

-- none of the causes of an accepted call holds
pub none_holds : (cs : List Cause) → Numbered cs → first cs ≡ 0 → NoneHolds cs
none_holds cs ns e = (for_its_cause_only cs).only_then ns e

-- neither of two
pub neither : (a b : Bool) → (a || b) ≡ false → (a ≡ false) × (b ≡ false)
neither true b e = absurd (true≢false e)
neither false b e = (refl, e)

-- a number that isn't outside is inside
pub inside : (lo hi n : ℕ) → outside lo hi n ≡ false → (lo ≤ n) × (n ≤ hi)
inside lo hi n e = let p = neither (ltb n lo) (ltb hi n) e in (ltb-false n lo p.0, ltb-false hi n p.1)

-- and the other way round
pub not_outside : {lo hi n : ℕ} → lo ≤ n → n ≤ hi → outside lo hi n ≡ false
not_outside {lo} {hi} {n} l h = rw (le-ltb n lo l, le-ltb hi n h)

some_number : (n : ℕ) → (n ≡ 0 → ⊥) → (m : ℕ) × (n ≡ suc m)
some_number zero s = absurd (s refl)
some_number (suc m) s = (m, refl)

-- a call that found the number r, which its definition calls n, refuses: it answers r alone and leaves everything as it was
module _ {r n : ℕ} (e : r ≡ n) (some : r ≡ 0 → ⊥) where
  pub refused_answer : (vs : List ℕ) → record { number = r; values = [] } ≡ answered n vs
  refused_answer vs = let p = some_number r some in rw (← e, p.1)

  pub refused_leaves : {A : Type 0} (old new : A) → old ≡ leaves n old new
  refused_leaves old new = let p = some_number r some in rw (← e, p.1)

-- one that found none accepts: it answers its values and leaves what is new
module _ {r n : ℕ} (e : r ≡ n) (none : r ≡ 0) where
  pub accepted_answer : (vs : List ℕ) → record { number = 0; values = vs } ≡ answered n vs
  accepted_answer vs = rw (← e, none)

  pub accepted_leaves : {A : Type 0} (old new : A) → new ≡ leaves n old new
  accepted_leaves old new = rw (← e, none)

-- causes behind others: the first of those in front decides, and where none of them holds the first of the others
pub first_front : (n : ℕ) (front back : List Cause) → first front ≡ n → (n ≡ 0 → ⊥) → first (front ++ back) ≡ n
first_front n [] back e some = absurd (some (sym e))
first_front n (c ∷ front) back e some = by_test c.holds e (λ q. first_front n front back q some)
  where
    by_test : (b : Bool) → cond b c.number (first front) ≡ n → (first front ≡ n → first (front ++ back) ≡ n) → cond b c.number (first (front ++ back)) ≡ n
    by_test true q go = q
    by_test false q go = go q

pub first_behind_none : (front back : List Cause) → NoneHolds front → first (front ++ back) ≡ first back
first_behind_none [] back none = refl
first_behind_none (c ∷ front) back none = rw none.0 (first_behind_none front back none.1)
