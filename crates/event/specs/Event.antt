-- The events of a bench and their records (document 01, "The bench"): length first, a kind byte 4 to 6, then the body, as in a description.
-- `address_of`, `letter_of`, `size_of`, `read_event`, `encode_event` and `event_values` are the interface; the others serve them.
use Rattle.std.specs.Prelude.{ℕ, ◌+◌, Bool, cond, not, ◌||◌, List, [], ◌∷◌, ◌++◌, length, get_or, eqb, ltb, Result, Ok, Err}
use Rattle.refusal.specs.Refusal.{Told, answered}
use Rattle.refusal.specs.declared.Refusal.{Refusal}
use Rattle.refusal.specs.declared.Refusal.TheVariants.{BadRecord}
use Rattle.wire.specs.Wire.{number, bytes_of, part}
use Rattle.network.specs.Format.{length_in, kind_in, body_in, headless}
use Rattle.event.specs.declared.Address.{Address}
use Rattle.event.specs.declared.Event.{Event}
use Rattle.event.specs.declared.Event.TheVariants.{Present, Take, Link}
use Rattle.event.specs.declared.Kind.{Kind}
use Rattle.event.specs.declared.Kind.TheVariants.{Present as PresentKind, Take as TakeKind, Link as LinkKind}

-- an address's six bytes
abbrev pub address_bytes : Address → List ℕ
address_bytes a = a.b0 ∷ a.b1 ∷ a.b2 ∷ a.b3 ∷ a.b4 ∷ a.b5 ∷ []

-- the number that they write
unfoldable pub address_of : Address → ℕ
address_of a = number (address_bytes a)

-- the kind of an event: 4, a host presents a frame; 5, a copy is taken; 6, a link is set
unfoldable pub kind_of : Event → ℕ
kind_of (Present p) = 4
kind_of (Take place) = 5
kind_of (Link s) = 6

-- a kind's byte
abbrev pub byte_of : Kind → ℕ
byte_of PresentKind = 4
byte_of TakeKind = 5
byte_of LinkKind = 6

-- an event's letter, as the byte that is printed: I, T or K
unfoldable pub letter_of : Event → ℕ
letter_of (Present p) = 0x49
letter_of (Take place) = 0x54
letter_of (Link s) = 0x4B

-- what the length of a record of a kind says; 0, which no record's length is, for an unknown kind
unfoldable pub event_length : ℕ → ℕ
event_length kind = cond (eqb kind 4) 8 (cond (eqb kind 5) 3 (cond (eqb kind 6) 3 0))

-- how many bytes an event's record takes: what its length counts, and the length itself
unfoldable pub size_of : Event → ℕ
size_of e = event_length (kind_of e) + 2

-- what stands behind the kind byte: host and destination, a place of 16 bits, or a link and its state
unfoldable pub body_of : Event → List ℕ
body_of (Present p) = p.host ∷ address_bytes p.to
body_of (Take place) = bytes_of 2 place
body_of (Link s) = s.link ∷ s.state ∷ []

-- an event's record
unfoldable pub encode_event : Event → List ℕ
encode_event e = bytes_of 2 (event_length (kind_of e)) ++ (kind_of e ∷ body_of e)

-- an address whose six bytes stand at a place
abbrev pub address_in : ℕ → List ℕ → Address
address_in at b =
    record {
      b0 = get_or b at 0;
      b1 = get_or b (at + 1) 0;
      b2 = get_or b (at + 2) 0;
      b3 = get_or b (at + 3) 0;
      b4 = get_or b (at + 4) 0;
      b5 = get_or b (at + 5) 0;
    }

-- the event of a kind that a body starts with
unfoldable pub event_of : ℕ → List ℕ → Event
event_of kind body =
    cond (eqb kind 4) (Present (record { host = get_or body 0 0; to = address_in 1 body }))
    (cond (eqb kind 5) (Take (number (part 0 2 body)))
    (Link (record { link = get_or body 0 0; state = get_or body 1 0 })))

-- the event whose record bytes start with
abbrev pub event_in : List ℕ → Event
event_in b = event_of (kind_in b) (body_in b)

-- 20: cut short before its kind byte or of length 0, of wrong length or unknown kind, or cut short behind
unfoldable pub bad_event : List ℕ → Bool
bad_event b = headless b || not (eqb (length_in b) (event_length (kind_in b))) || ltb (length b) (length_in b + 2)

-- the refusal number of the record that bytes start with, 0 for none
unfoldable pub event_fault : List ℕ → ℕ
event_fault b = cond (bad_event b) 20 0

-- the event that bytes start with, or its refusal
unfoldable pub read_event : List ℕ → Result Event Refusal
read_event b = cond (bad_event b) (Err BadRecord) (Ok (event_in b))

-- an event's values: its kind, and then host and destination, place, or link and state
unfoldable pub event_values : Event → List ℕ
event_values (Present p) = 4 ∷ p.host ∷ address_bytes p.to
event_values (Take place) = 5 ∷ place ∷ []
event_values (Link s) = 6 ∷ s.link ∷ s.state ∷ []

-- what reading the event that bytes start with answers
abbrev pub read_answer : List ℕ → Told
read_answer b = answered (event_fault b) (event_values (event_in b))
