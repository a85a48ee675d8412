-- What callers cite: the range of addresses and sizes, what was read, and the round trips between events and their records.
use Prim.Native.Nat.{ℕ, ◌≤◌, ◌<◌}
use mathlib.Core.Path.{◌≡◌, refl, sym, ap, ◌∙◌}
use mathlib.Core.Bool.{Bool, true, false, cond}
use mathlib.Core.List.{List, ◌++◌}
use native.Mathlib.Nat.{mod-eq_of_lt}
use native.Mathlib.Omega.{arith}
use lib.ListN.{length, get_or, drop}
use Rattle.refusal.specs.Refusal.{answered}
use Rattle.wire.specs.Wire.{number, number_after, AreBytes}
use Rattle.wire.specs.Address.{address_bound}
use Rattle.wire.proofs.Laws.{number_small, written_back}
use Rattle.event.specs.declared.Address.{Address}
use Rattle.event.specs.declared.Event.{Event}
use Rattle.event.specs.declared.Event.TheVariants.{Present, Take, Link}
use Rattle.std.specs.Prelude.{Result, Ok, Err}
use Rattle.refusal.specs.Number.{told}
use Rattle.refusal.specs.declared.Refusal.{Refusal}
use Rattle.refusal.specs.declared.Refusal.TheVariants.{BadRecord}
use Rattle.refusal.proofs.Told as refusal
use Rattle.event.specs.Event.{address_bytes, address_of, kind_of, event_length, size_of, body_of, encode_event, event_of, event_in, bad_event, event_fault, read_event, event_values, read_answer}
use Rattle.event.specs.RoundTrip.{Fits, ReadsBack, WritesBack, ToldApart}
use Rattle.event.proofs.Records.{Whole, whole, not_bad, size_within}
use Rattle.event.proofs.Starts.{starts}

-- an address of six bytes is below 2^48
pub address_below : (a : Address) → AreBytes (address_bytes a) → address_of a < address_bound
unfolding address_of
address_below a h = number_small (address_bytes a) h

-- a record takes 5 to 10 bytes
pub size_range : (e : Event) → (5 ≤ size_of e) × (size_of e ≤ 10)
unfolding size_of event_length kind_of
size_range (Present p) = (omega arith, omega arith)
size_range (Take place) = (omega arith, omega arith)
size_range (Link s) = (omega arith, omega arith)

-- an event's record is as long as its size
pub encode_long : (e : Event) → length (encode_event e) ≡ size_of e
unfolding encode_event size_of event_length kind_of body_of
encode_long (Present p) = refl
encode_long (Take place) = refl
encode_long (Link s) = refl

-- what is read as an event is a whole record, and the event that its kind and body say
record Started (b : List ℕ) (e : Event) : Type 0 where
  pub whole : Whole b
  pub is : e ≡ event_in b

started : (b : List ℕ) (e : Event) → read_event b ≡ Ok e → Started b e
unfolding read_event
started b e q = by_test (bad_event b) refl q
  where
    other : (x : Result Event Refusal) → x ≡ Err BadRecord → x ≡ Ok e → ⊥
    other x p q = let z : ◌≡◌ {A = ℕ} 0 1 = cc in omega arith

    same : {x : Event} → ◌≡◌ {A = Result Event Refusal} (Ok x) (Ok e) → e ≡ x
    same q = cc

    by_test : (bad : Bool) → bad_event b ≡ bad → cond bad (Err BadRecord) (Ok (event_in b)) ≡ Ok e → Started b e
    by_test true h q = absurd (other (Err BadRecord) refl q)
    by_test false h q = record { whole = whole b h; is = same q }

-- a record is refused with 20 only
pub refused_20 : (b : List ℕ) (r : Refusal) → read_event b ≡ Err r → r ≡ BadRecord
unfolding read_event
refused_20 b r q = by_test (bad_event b) q
  where
    by_test : (bad : Bool) → cond bad (Err BadRecord) (Ok (event_in b)) ≡ Err r → r ≡ BadRecord
    by_test true q = cc
    by_test false q = let z : ◌≡◌ {A = ℕ} 0 1 = cc in absurd (omega arith)

-- an event's values give it back, so they tell events apart
undone : (e : Event) → event_of (get_or (event_values e) 0 0) (drop 1 (event_values e)) ≡ e
unfolding event_of event_values number number_after
undone (Present p) = refl
undone (Take place) = ap Take (omega arith)
undone (Link s) = refl

values_apart : (a b : Event) → event_values a ≡ event_values b → a ≡ b
values_apart a b e = sym (undone a) ∙ ap (λ vs. event_of (get_or vs 0 0) (drop 1 vs)) e ∙ undone b

pub told_apart : ToldApart
told_apart = refusal.told_apart values_apart

-- what is told of a record is what it is read as
read_told : (b : List ℕ) → told event_values (read_event b) ≡ read_answer b
unfolding read_event event_fault
read_told b = by_test (bad_event b)
  where
    by_test : (bad : Bool) → told event_values (cond bad (Err BadRecord) (Ok (event_in b))) ≡ answered (cond bad 20 0) (event_values (event_in b))
    by_test true = refl
    by_test false = refl

-- the contract of reading gives the answer itself
pub answer_is : (r : Result Event Refusal) (b : List ℕ) → told event_values r ≡ read_answer b → r ≡ read_event b
answer_is r b e = told_apart r (read_event b) (e ∙ sym (read_told b))

-- a record that was written is whole, whatever stands behind it
written : (e : Event) (behind : List ℕ) → Whole (encode_event e ++ behind)
unfolding encode_event kind_of event_length body_of number number_after
written (Present p) behind = record { head = omega arith; some = λ z. omega arith; sized = refl; room = omega arith }
written (Take place) behind = record { head = omega arith; some = λ z. omega arith; sized = refl; room = omega arith }
written (Link s) behind = record { head = omega arith; some = λ z. omega arith; sized = refl; room = omega arith }

-- its kind and body say the event
says : (e : Event) → Fits e → (behind : List ℕ) → event_in (encode_event e ++ behind) ≡ e
unfolding encode_event kind_of body_of event_of
says (Present p) h behind = refl
says (Take place) h behind = ap Take (written_back 2 place ∙ mod-eq_of_lt h)
says (Link s) h behind = refl

pub reads_back : ReadsBack
unfolding read_event
reads_back e h behind = rw (not_bad (encode_event e ++ behind) (written e behind)) (ap Ok (says e h behind))

pub writes_back : WritesBack
writes_back b e bytes q = let v = started b e q in starts b bytes v.whole v.is

-- an accepted record is as long as its event's size
pub read_within : (b : List ℕ) (e : Event) → read_event b ≡ Ok e → size_of e ≤ length b
read_within b e q = let v = started b e q in size_within v.whole v.is
