-- An event's record has one cause, a test that says what its words say.
use Prim.Native.Nat.{ℕ, ◌+◌, ◌<◌, ◌≤◌}
use mathlib.Core.Path.{◌≡◌, refl, ◌∙◌}
use mathlib.Core.Logic.{◌↔◌, ◌≢◌, inl, inr, ⊎_elim, by_cases}
use mathlib.Core.Bool.{true}
use mathlib.Core.List.{List}
use native.Mathlib.Decide.{ℕ_discrete}
use native.Mathlib.Omega.{arith}
use lib.ListN.{length}
use borrow.Author.Tests.{ne_eqb}
use Rattle.refusal.specs.Exact.{Outside}
use Rattle.refusal.proofs.Laws.{for_its_cause_only}
use Rattle.refusal.proofs.Words.{either, equal, is_not, less}
use Rattle.network.specs.Format.{length_in, kind_in}
use Rattle.network.proofs.Causes.{headless_words}
use Rattle.event.specs.Event.{bad_event, event_fault, event_length}
use Rattle.event.specs.Causes.{BadEvent, EventRecordInWords, EventsForItsCauseOnly, record_causes}

pub events_for_its_cause_only : EventsForItsCauseOnly
unfolding event_fault
events_for_its_cause_only b = for_its_cause_only (record_causes b)

unknown_length : (kind : ℕ) → Outside 4 6 kind → event_length kind ≡ 0
unfolding event_length
unknown_length kind out = rw (ne_eqb kind 4 (other 4 (omega arith) (omega arith)), ne_eqb kind 5 (other 5 (omega arith) (omega arith)), ne_eqb kind 6 (other 6 (omega arith) (omega arith)))
  where
    other : (k : ℕ) → 4 ≤ k → k ≤ 6 → kind ≢ k
    other k low high e = ⊎_elim (λ (h : kind < 4). omega arith) (λ (h : 6 < kind). omega arith) out

bad_words : (b : List ℕ) → (bad_event b ≡ true) ↔ BadEvent b
unfolding bad_event
bad_words b =
    let tests = either (either (headless_words b) (is_not (equal (length_in b) (event_length (kind_in b))))) (less (length b) (length_in b + 2)) in (
      λ e. ⊎_elim (λ w. ⊎_elim (λ h. inl h) (λ wrong. inr (inr (inl wrong))) w) (λ cut. inr (inr (inr cut))) (tests.0 e),
      ⊎_elim (λ h. tests.1 (inl (inl h)))
          (⊎_elim
          (λ out.
          by_cases (ℕ_discrete (length_in b) 0) (λ none. tests.1 (inl (inl (inr none)))) (λ some. tests.1 (inl (inr (λ e. some (e ∙ unknown_length (kind_in b) out))))))
          (⊎_elim (λ wrong. tests.1 (inl (inr wrong))) (λ cut. tests.1 (inr cut)))),
    )

pub event_record_in_words : EventRecordInWords
event_record_in_words b = (refl, bad_words b, tt)
