-- Document 01, "Refusal numbers", 20 of an event's record: it is refused exactly when that cause holds, and what the cause is in words.
-- Each statement is a type; proofs/Causes has its term, under the same name in lower case.
use Rattle.std.specs.Prelude.{ℕ, ◌+◌, ◌<◌, ◌≡◌, ◌⊎◌, ◌≢◌, List, [], ◌∷◌, length}
use Rattle.refusal.specs.Refusal.{Cause, when}
use Rattle.refusal.specs.Exact.{ForItsCauseOnly, InWords, Listed, Outside, listed}
use Rattle.network.specs.Format.{length_in, kind_in}
use Rattle.event.specs.Event.{bad_event, event_fault, event_length}

abbrev pub record_causes : List ℕ → List Cause
record_causes b = when 20 (bad_event b) ∷ []

abbrev pub EventsForItsCauseOnly : Type 0
EventsForItsCauseOnly = (b : List ℕ) → ForItsCauseOnly (event_fault b) (record_causes b)

-- cut short before its kind byte, or of length 0; of a kind that isn't an event's, or a length that is wrong for its kind, or cut short
abbrev pub BadEvent : List ℕ → Type 0
BadEvent b = ((length b < 3) ⊎ (length_in b ≡ 0)) ⊎ Outside 4 6 (kind_in b) ⊎ (length_in b ≢ event_length (kind_in b)) ⊎ (length b < length_in b + 2)

abbrev pub record_words : List ℕ → List Listed
record_words b = listed 20 (BadEvent b) ∷ []

abbrev pub EventRecordInWords : Type 0
EventRecordInWords = (b : List ℕ) → InWords (record_causes b) (record_words b)
