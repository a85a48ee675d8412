-- What holds in a run is kept by every event: a step places, loses and delivers at most 8 copies, and nothing is taken or cut that wasn't placed.
use Prim.Native.Nat.{ℕ, ◌*◌, ◌<◌, ◌≤◌}
use mathlib.Core.Path.{◌≡◌, refl}
use mathlib.Core.Bool.{Bool, true, false, cond}
use mathlib.Core.Logic.{◌≢◌}
use native.Mathlib.Omega.{arith}
use lib.Dec.{leb}
use borrow.Author.Tests.{leb-true, leb-false}
use Rattle.network.specs.declared.Network.{Network}
use Rattle.event.specs.declared.Event.{Event}
use Rattle.event.specs.declared.Event.TheVariants.{Present, Take, Link}
use Rattle.turn.specs.Turn.{own_refusal}
use Rattle.bench.specs.Events.{event_of}
use Rattle.bench.specs.Shape.{Accepted, InShape, Sized}
use Rattle.bench.proofs.Laws.{event_sized, keeps_shape, tested_both_ways}
use Rattle.counters.specs.Counters.{CountersFit, adds, counted, plus}
use Rattle.counters.specs.Event.{event_refusal, most_events}
use Rattle.counters.specs.History.{State}
use Rattle.counters.proofs.Answering.{balance, counts_one, few_sent, one_overwritten}
use Rattle.counters.proofs.Fit.{fits}
use Rattle.counters.proofs.Refusing.{in_shape_own, late}

-- what holds in a run: bench and counters are in shape, and placed is at most 8 times accepted.
-- Without the last an event needn't keep the rest: with accepted 1, cut 8, placed 520 and 512 copies in flight on one link the counters fit,
-- and setting that link down makes cut 520, which is above 16. In a run each step places at most 8.
pub record InRun (s : State) : Type 0 where
  pub shape : InShape s.bench
  pub sized : Sized s.bench
  pub fit : CountersFit s.bench.flying s.counters
  pub placed : s.counters.placed ≤ 8 * s.counters.accepted

either_not_28 : (t : Bool) {n m : ℕ} → n ≢ 28 → m ≢ 28 → cond t n m ≢ 28
either_not_28 true p q = p
either_not_28 false p q = q

away : (n : ℕ) → (n ≡ 28 → ⊥) → n ≢ 28
away n h = h

-- an event's own refusals are 30 to 33
own_not_28 : (n : Network) (flying : ℕ) (e : Event) → own_refusal n flying e ≢ 28
unfolding own_refusal
own_not_28 n flying (Present e) = either_not_28 _ (away 30 (λ z. omega arith)) (either_not_28 _ (away 31 (λ z. omega arith)) (away 0 (λ z. omega arith)))
own_not_28 n flying (Take place) = either_not_28 _ (away 32 (λ z. omega arith)) (away 0 (λ z. omega arith))
own_not_28 n flying (Link e) = either_not_28 _ (away 33 (λ z. omega arith)) (away 0 (λ z. omega arith))

module _ {s : State} (k : InRun s) where
  -- before a million events 34 and 28 are out of the question
  pub own_only : s.counters.accepted < most_events → (e : Event) → event_refusal s.bench s.counters e ≡ own_refusal s.bench.network s.bench.flying e
  own_only early e =
      in_shape_own s.bench s.counters e early
      ((tested_both_ways s.bench k.sized (λ i less. (k.shape.seats i less).formed.table.sized)).1 k.shape)
      (fits s.bench.flying s.counters k.fit)

  -- so an event is refused with 34, or by its own causes
  by_refusal : (P : ℕ → Type 0) (e : Event) → P 34 → P (own_refusal s.bench.network s.bench.flying e) → P (event_refusal s.bench s.counters e)
  by_refusal P e at_34 own = by_test (leb most_events s.counters.accepted) refl
    where
      by_test : (t : Bool) → leb most_events s.counters.accepted ≡ t → P (event_refusal s.bench s.counters e)
      by_test true q = rw (late s.bench s.counters e (leb-true _ _ q)) at_34
      by_test false q = rw (own_only (leb-false _ _ q) e) own

  pub never_28 : (e : Event) → event_refusal s.bench s.counters e ≢ 28
  never_28 e = by_refusal (λ n. n ≢ 28) e (λ z. omega arith) (own_not_28 s.bench.network s.bench.flying e)

  pub accepted : (e : Event) → event_refusal s.bench s.counters e ≡ 0 → Accepted s.bench e
  accepted e z = record { shape = k.shape; free = by_refusal (λ n. n ≡ 0 → own_refusal s.bench.network s.bench.flying e ≡ 0) e (λ q. absurd (omega arith)) (λ q. q) z }

-- an accepted event keeps it
pub keeps : {s : State} → InRun s → (e : Event) → Accepted s.bench e
    → InRun (record { bench = (event_of s.bench e).bench; counters = counted s.counters e (event_of s.bench e).answer })
unfolding adds plus
keeps {s} k e ok =
    let moved = balance s.bench e k.sized ok in
    let sent = few_sent s.bench e in
    let overwritten = one_overwritten (event_of s.bench e).answer in
    let one = counts_one s.bench e in
    record {
      shape = keeps_shape s.bench e k.sized ok;
      sized = event_sized s.bench e k.sized;
      fit = record { taken = omega arith; cut = omega arith; lost = omega arith; delivered = omega arith; overwritten = omega arith; balance = omega arith };
      placed = omega arith;
    }
