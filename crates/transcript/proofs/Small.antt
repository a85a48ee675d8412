-- What a line prints is small, in shape or not: refusal numbers have two digits, and no more than 512 copies are in flight.
use Prim.Native.Nat.{ℕ, zero, suc, ◌≤◌}
use mathlib.Core.Path.{◌≡◌, refl, sym, ◌∙◌}
use mathlib.Core.Bool.{Bool, true, false, cond}
use mathlib.Core.List.{List, [], ◌∷◌}
use native.Mathlib.Omega.{arith}
use lib.Dec.{eqb}
use lib.ListN.{length-take}
use Rattle.std.specs.Prelude.{Result, Ok, Err}
use Rattle.refusal.specs.declared.Refusal.{Refusal}
use Rattle.refusal.specs.Refusal.{Cause, first, leaves}
use Rattle.refusal.specs.Number.{number_of}
use Rattle.refusal.proofs.Told.{number_apart, refused_apart}
use Rattle.network.specs.declared.Network.{Network}
use Rattle.network.specs.declared.Record.{Record}
use Rattle.network.specs.Checks.{causes, checked, record_fault, records_fault}
use Rattle.network.specs.Network.{add, empty_network}
use Rattle.network.specs.Describe.{read_causes, read_fault, scan_of}
use Rattle.flight.specs.Flight.{most}
use Rattle.event.specs.declared.Event.{Event}
use Rattle.event.specs.declared.Event.TheVariants.{Present, Take, Link}
use Rattle.turn.specs.Turn.{own_causes, own_refusal, refusal_of}
use Rattle.turn.proofs.Laws.{turn_few}
use Rattle.bench.specs.declared.Bench.{Bench}
use Rattle.bench.specs.Bench.{in_flight}
use Rattle.bench.specs.Events.{event_of, turn_in}
use Rattle.counters.specs.declared.Counters.{Counters}
use Rattle.counters.specs.Event.{event_refusal, happens_of, refusal_numbered}

-- ---- Refusal numbers

-- what holds of the number of each cause, and of 0, holds of the first
abbrev EachNumber : (ℕ → Type 0) → List Cause → Type 0
EachNumber P [] = Unit {0}
EachNumber P (c ∷ cs) = P c.number × EachNumber P cs

first_is : (P : ℕ → Type 0) → P 0 → (cs : List Cause) → EachNumber P cs → P (first cs)
first_is P none [] u = none
first_is P none (c ∷ cs) u = by_test c.holds (first_is P none cs u.1)
  where
    by_test : (b : Bool) → P (first cs) → P (cond b c.number (first cs))
    by_test true rest = u.0
    by_test false rest = rest

-- each cause has a number up to a bound
abbrev UpTo : ℕ → List Cause → Type 0
UpTo m cs = EachNumber (λ k. k ≤ m) cs

first_small : (m : ℕ) (cs : List Cause) → UpTo m cs → first cs ≤ m
first_small m cs u = first_is (λ k. k ≤ m) (omega arith) cs u

record_small : (n : Network) (r : Record) → record_fault n r ≤ 26
unfolding record_fault
record_small n r = first_small 26 (causes n r) (omega arith, (omega arith, (omega arith, (omega arith, (omega arith, tt)))))

records_small : (n : Network) (rs : List Record) → records_fault n rs ≤ 26
unfolding records_fault
records_small n [] = omega arith
records_small n (r ∷ rs) = first_small 26 (checked (record_fault n r) ∷ checked (records_fault (add n r) rs) ∷ []) (record_small n r, (records_small (add n r) rs, tt))

pub read_small : (b : List ℕ) → read_fault b ≤ 26
unfolding read_fault
read_small b = first_small 26 (read_causes b) (omega arith, (omega arith, (records_small empty_network (scan_of b).found, (omega arith, tt))))

-- a number stands for one refusal: the one that has it
abbrev Stands : ℕ → Type 0
Stands m = (r : Refusal) → number_of r ≡ m → (m ≡ 0 → ⊥) × (refusal_numbered m ≡ r)

stands : (m : ℕ) → number_of (refusal_numbered m) ≡ m → (m ≡ 0 → ⊥) → Stands m
stands m e some r q = (some, number_apart (refusal_numbered m) r (e ∙ sym q))

none_stands : Stands 0
none_stands r q = let none : ◌≡◌ {A = Result ℕ Refusal} (Ok 0) (Err r) = refused_apart r (Ok 0) (sym q) in (λ z. cc, cc)

pub own_numbered : (n : Network) (flying : ℕ) (e : Event) → Stands (own_refusal n flying e)
unfolding own_refusal
own_numbered n flying (Present p) = first_is Stands none_stands (own_causes n flying (Present p)) (stands 30 refl (λ z. omega arith), (stands 31 refl (λ z. omega arith), tt))
own_numbered n flying (Take place) = first_is Stands none_stands (own_causes n flying (Take place)) (stands 32 refl (λ z. omega arith), tt)
own_numbered n flying (Link s) = first_is Stands none_stands (own_causes n flying (Link s)) (stands 33 refl (λ z. omega arith), tt)

-- a refusal's number has two digits
either : (b : Bool) (r s : Refusal) → number_of r ≤ 34 → number_of s ≤ 34 → number_of (cond b r s) ≤ 34
either true r s h k = h
either false r s h k = k

numbered_small : (m : ℕ) → number_of (refusal_numbered m) ≤ 34
numbered_small m =
    either (eqb m 34) _ _ (omega arith)
    (either (eqb m 28) _ _ (omega arith) (either (eqb m 30) _ _ (omega arith) (either (eqb m 31) _ _ (omega arith) (either (eqb m 32) _ _ (omega arith) (omega arith)))))

-- ---- At any event

module _ (b : Bench) (c : Counters) (e : Event) where
  small_by : (r : ℕ) → refusal_of (leaves r (Err (refusal_numbered r)) (event_of b e).answer) ≤ 34
  unfolding event_of
  small_by zero = omega arith
  small_by (suc r) = numbered_small (suc r)

  pub small_refusal : refusal_of (happens_of b e c).happened.answer ≤ 34
  unfolding happens_of
  small_refusal = small_by (event_refusal b c e)

  few_by : (r : ℕ) → b.flying ≤ most → (leaves r b (event_of b e).bench).flying ≤ most
  unfolding event_of turn_in in_flight
  few_by zero h = turn_few b.network b.up _ (in_flight b) e (omega (arith, length-take b.flying b.copies))
  few_by (suc r) h = h

  pub few_flying : b.flying ≤ most → (happens_of b e c).happened.bench.flying ≤ most
  unfolding happens_of
  few_flying = few_by (event_refusal b c e)
