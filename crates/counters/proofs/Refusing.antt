-- 34 decides before 28, and 28 before the event's own causes; a refused event leaves everything as it was.
use Prim.Native.Nat.{ℕ, zero, suc, ◌≤◌, ◌<◌}
use mathlib.Core.Path.{◌≡◌, refl, sym, ◌∙◌}
use mathlib.Core.Bool.{Bool, true, false, cond}
use borrow.Author.Tests.{le-leb, lt-leb}
use Rattle.std.specs.Prelude.{Ok, Err}
use Rattle.refusal.specs.Refusal.{first}
use Rattle.refusal.specs.Number.{number_of}
use Rattle.refusal.specs.declared.Refusal.{Refusal}
use Rattle.refusal.proofs.Told.{number_apart, some}
use Rattle.event.specs.declared.Event.{Event}
use Rattle.event.specs.declared.Event.TheVariants.{Present, Take, Link}
use Rattle.turn.specs.declared.Done.{Done}
use Rattle.turn.specs.Turn.{own_causes, own_refusal}
use Rattle.bench.specs.declared.Bench.{Bench}
use Rattle.bench.specs.Events.{event_of, happened_as}
use Rattle.bench.specs.Shape.{in_shape}
use Rattle.counters.specs.Counters.{adds, counters_fit, plus}
use Rattle.counters.specs.Event.{event_refusal, happens_as, happens_by, happens_of, most_events, refusal_numbered}
use Rattle.counters.specs.declared.Counters.{Counters}

-- a number that has a refusal of the event's
abbrev pub Named : ℕ → Type 0
Named n = (n ≡ 0 → ⊥) → number_of (refusal_numbered n) ≡ n

either : (t : Bool) {n m : ℕ} → Named n → Named m → Named (cond t n m)
either true p q = p
either false p q = q

at : (n : ℕ) → number_of (refusal_numbered n) ≡ n → Named n
at n e some = e

none : Named 0
none some = absurd (some refl)

module _ (b : Bench) (c : Counters) (e : Event) where
  pub late : most_events ≤ c.accepted → event_refusal b c e ≡ 34
  unfolding event_refusal
  late h = rw (le-leb most_events c.accepted h)

  pub in_shape_own : c.accepted < most_events → in_shape b ≡ true → counters_fit b.flying c ≡ true → event_refusal b c e ≡ own_refusal b.network b.flying e
  unfolding event_refusal own_refusal
  in_shape_own early s f = rw (lt-leb most_events c.accepted early, s, f)

  -- its refusals are 34, 28 and 30 to 33
  pub event_named : Named (event_refusal b c e)
  unfolding event_refusal
  event_named = either _ (at 34 refl) (either _ (at 28 refl) (either _ (at 28 refl) (own e)))
    where
      own : (e : Event) → Named (first (own_causes b.network b.flying e))
      own (Present p) = either _ (at 30 refl) (either _ (at 31 refl) none)
      own (Take place) = either _ (at 32 refl) none
      own (Link s) = either _ (at 33 refl) none

  -- refused with a number
  refused_by : (n : ℕ) → (n ≡ 0 → ⊥) → happens_as b c (Err (refusal_numbered n)) ≡ happens_by n b e c
  refused_by zero nonzero = absurd (nonzero refl)
  refused_by (suc n) nonzero = refl

  -- where r is the refusal that its causes have, it is refused with r
  pub refused_happens : {r : Refusal} → number_of r ≡ event_refusal b c e → happens_as b c (Err r) ≡ happens_of b e c
  unfolding happens_of
  refused_happens {r} q =
      let here : number_of (refusal_numbered (event_refusal b c e)) ≡ event_refusal b c e = event_named (λ z. some r (q ∙ z)) in
      let named : r ≡ refusal_numbered (event_refusal b c e) = number_apart r _ (q ∙ sym here) in
      rw named (refused_by (event_refusal b c e) (λ z. some r (q ∙ z)))

  -- accepted, where the bench is the one that it leaves, and what was done adds d, which makes k
  pub accepted_happens : {b' : Bench} {done : Done} {d k : Counters} → event_refusal b c e ≡ 0 → happened_as b' (Ok done) ≡ event_of b e → d ≡ adds e (Ok done) → k ≡ plus c d
      → happens_as b' c (Ok (record { done = done; counters = k })) ≡ happens_of b e c
  unfolding happens_of
  accepted_happens accepted happened added summed = rw (accepted, summed, added, ← happened)
