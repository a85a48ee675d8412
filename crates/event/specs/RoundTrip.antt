-- What an event and its record are to each other. Each statement is a type; proofs/Laws has its term, under the same name in lower case.
use Rattle.std.specs.Prelude.{ℕ, ◌^◌, ◌<◌, ◌≤◌, ◌≡◌, List, ◌++◌, length, drop, Ok}
use Rattle.refusal.specs.Number.{told}
use Rattle.refusal.specs.OneOutcome.{TellsApart}
use Rattle.wire.specs.Wire.{AreBytes}
use Rattle.event.specs.declared.Event.{Event}
use Rattle.event.specs.declared.Event.TheVariants.{Present, Take, Link}
use Rattle.event.specs.Event.{address_bytes, size_of, encode_event, event_values, read_event}

-- an event's values are what its fields can hold
abbrev pub Fits : Event → Type 0
Fits (Present p) = (p.host < 256) × AreBytes (address_bytes p.to)
Fits (Take place) = place < 2 ^ 16
Fits (Link s) = (s.link < 256) × (s.state < 256)

-- an event's record reads back as that event, whatever stands behind it
abbrev pub ReadsBack : Type 0
ReadsBack = (e : Event) → Fits e → (behind : List ℕ) → read_event (encode_event e ++ behind) ≡ Ok e

-- bytes that are read as an event start with its record, and its values fit
pub record StartsWith (b : List ℕ) (e : Event) : Type 0 where
  pub fits : Fits e
  pub within : size_of e ≤ length b
  pub is : encode_event e ++ drop (size_of e) b ≡ b

abbrev pub WritesBack : Type 0
WritesBack = (b : List ℕ) (e : Event) → AreBytes b → read_event b ≡ Ok e → StartsWith b e

-- two answers that tell the same are the same
abbrev pub ToldApart : Type 0
ToldApart = TellsApart (told event_values)
