-- What a caller may know of the counters and of the public event, and what holds in every run.
use Prim.Native.Nat.{ℕ, ◌+◌, ◌≤◌, ◌<◌}
use mathlib.Core.Path.{◌≡◌, ◌∙◌}
use mathlib.Core.Bool.{true}
use mathlib.Core.Logic.{◌↔◌}
use mathlib.Core.List.{List, [], ◌∷◌}
use native.Mathlib.Omega.{arith}
use lib.ListN.{length}
use Rattle.network.specs.declared.Network.{Network}
use Rattle.network.specs.Checks.{network_fault}
use Rattle.event.specs.declared.Event.{Event}
use Rattle.turn.specs.Turn.{own_refusal}
use Rattle.bench.specs.Bench.{fresh_bench}
use Rattle.bench.specs.Events.{event_of}
use Rattle.bench.proofs.Laws.{each_is_the_step, fresh_in_shape, fresh_sized}
use Rattle.counters.specs.Counters.{CountersFit, counters_fit}
use Rattle.counters.specs.Event.{event_refusal, happens_of, most_events}
use Rattle.counters.specs.History.{CountersByHistory, EveryStepIsTrue, PlacedIsAccountedFor, Reachable, State, StaysInShape, after, fresh_state, run_of}
use Rattle.counters.specs.declared.Counters.{Counters}
use Rattle.counters.proofs.Adding.{none_plus}
use Rattle.counters.proofs.Answering.{at_most_one, in_flight_long}
use Rattle.counters.proofs.Fit.{fits, found_fit}
use Rattle.counters.proofs.Histories.{after_cases, run_adds}
use Rattle.counters.proofs.Keeping.{accepted, keeps, never_28, own_only}
pub use Rattle.counters.proofs.Keeping.{InRun}

-- ---- Counters and the public event

-- the test finds counters in shape exactly where they are
pub counters_tested : (flying : ℕ) (c : Counters) → (counters_fit flying c ≡ true) ↔ CountersFit flying c
counters_tested flying c = (found_fit flying c, fits flying c)

-- ---- What every run keeps

-- it holds of the fresh bench with all counters 0
pub fresh_in_run : (n : Network) → network_fault n ≡ 0 → InRun (fresh_state n)
unfolding fresh_bench
fresh_in_run n described =
    record {
      shape = fresh_in_shape n described;
      sized = fresh_sized n described;
      fit = record { taken = omega arith; cut = omega arith; lost = omega arith; delivered = omega arith; overwritten = omega arith; balance = omega arith };
      placed = omega arith;
    }

-- every event keeps it
pub event_in_run : {s : State} → InRun s → (e : Event) → InRun (after s e)
event_in_run {s} k e = after_cases InRun s e k (λ z. keeps k e (accepted k e z))

-- so does every list of events
pub run_in_run : {s : State} → InRun s → (es : List Event) → InRun (run_of s es)
unfolding run_of
run_in_run {s = s} k [] = k
run_in_run {s = s} k (e ∷ es) = run_in_run {s = after s e} (event_in_run k e) es

-- so it holds of every reachable state
pub reachable_in_run : {s : State} → Reachable s → InRun s
reachable_in_run reached = rw (← reached.leads) (run_in_run (fresh_in_run reached.network reached.accepted) reached.events)

-- before the millionth accepted event only an event's own causes refuse it
pub event_accepted_in_run : {s : State} → InRun s → s.counters.accepted < most_events → (e : Event)
    → event_refusal s.bench s.counters e ≡ own_refusal s.bench.network s.bench.flying e
event_accepted_in_run k early e = own_only k early e

-- a run accepts at most all of its events
pub run_accepts : (s : State) (es : List Event) → (run_of s es).counters.accepted ≤ s.counters.accepted + length es
unfolding run_of
run_accepts s [] = omega arith
run_accepts s (e ∷ es) = omega (arith, run_accepts (after s e) es, one_more)
  where
    one_more : (after s e).counters.accepted ≤ s.counters.accepted + 1
    one_more = after_cases (λ t. t.counters.accepted ≤ s.counters.accepted + 1) s e (omega arith) (λ z. at_most_one s.counters e (event_of s.bench e).answer)

-- ---- What holds of every run from a fresh bench

-- the counters are what the history says
pub counters_by_history : CountersByHistory
counters_by_history n es = run_adds (fresh_state n) es ∙ none_plus _

-- placed equals taken plus cut plus those in flight
pub placed_is_accounted_for : PlacedIsAccountedFor
placed_is_accounted_for s reached = let k = reachable_in_run reached in omega (arith, k.fit.balance, in_flight_long k.sized k.shape)

-- bench and counters are in shape, so that 28 never arises
pub stays_in_shape : StaysInShape
stays_in_shape s reached = let k = reachable_in_run reached in (k.shape, k.fit, never_28 k)

-- at every accepted event the head steps by demand 2's public step
pub every_step_is_true : EveryStepIsTrue
unfolding happens_of
every_step_is_true s reached e z = let k = reachable_in_run reached in rw z (each_is_the_step s.bench e k.sized (accepted k e z))
