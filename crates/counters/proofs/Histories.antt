-- What an event leaves, and what a run adds up.
use Prim.Native.Nat.{ℕ, zero, suc}
use mathlib.Core.Path.{◌≡◌, refl, sym, ap, ◌∙◌}
use mathlib.Core.List.{List, [], ◌∷◌}
use Rattle.std.specs.Prelude.{Err}
use Rattle.refusal.specs.Refusal.{leaves}
use Rattle.event.specs.declared.Event.{Event}
use Rattle.turn.specs.Turn.{Answer}
use Rattle.bench.specs.Events.{event_of}
use Rattle.counters.specs.Counters.{adds, counted, plus}
use Rattle.counters.specs.Event.{event_refusal, happens_of, refusal_numbered}
use Rattle.counters.specs.History.{State, after, counters_by, happens_at, history_of, run_of, total}
use Rattle.counters.specs.declared.Counters.{Counters}
use Rattle.counters.proofs.Adding.{plus_assoc, plus_none}

-- an accepted event leaves what the bench's event does and the counters brought up to date, a refused one everything as it was
pub after_cases : (P : State → Type 0) (s : State) (e : Event) → P s
    → (event_refusal s.bench s.counters e ≡ 0 → P (record { bench = (event_of s.bench e).bench; counters = counted s.counters e (event_of s.bench e).answer }))
    → P (after s e)
unfolding after happens_of
after_cases P s e old new = by_number (event_refusal s.bench s.counters e) refl
  where
    by_number : (n : ℕ) → event_refusal s.bench s.counters e ≡ n
        → P (record { bench = leaves n s.bench (event_of s.bench e).bench; counters = leaves n s.counters (counted s.counters e (event_of s.bench e).answer) })
    by_number zero z = new z
    by_number (suc n) z = old

-- an event adds what its answer says, a refused one nothing
added : (n : ℕ) (c : Counters) (e : Event) (a : Answer) → leaves n c (counted c e a) ≡ plus c (adds e (leaves n (Err (refusal_numbered n)) a))
unfolding adds
added zero c e a = refl
added (suc n) c e a = sym (plus_none c)

after_adds : (s : State) (e : Event) → (after s e).counters ≡ plus s.counters (adds e (happens_at s e).happened.answer)
unfolding after happens_of
after_adds s e = added (event_refusal s.bench s.counters e) s.counters e (event_of s.bench e).answer

-- from any state on, a run adds what its history says
pub run_adds : (s : State) (es : List Event) → (run_of s es).counters ≡ plus s.counters (counters_by (history_of s es))
unfolding adds counters_by history_of plus run_of total
run_adds s [] = sym (plus_none s.counters)
run_adds s (e ∷ es) =
    run_adds (after s e) es ∙ ap (λ c. plus c (counters_by (history_of (after s e) es))) (after_adds s e)
    ∙ plus_assoc s.counters (adds e (happens_at s e).happened.answer) (counters_by (history_of (after s e) es))
