-- One record and its bytes: length first (16 bits, counting what follows), a kind byte, then the body.
-- `encode` and `start_of` are the interface; they undo each other (RoundTrip).
use Rattle.std.specs.Prelude.{ℕ, ◌+◌, Bool, cond, not, ◌&&◌, ◌||◌, List, [], ◌∷◌, ◌++◌, length, get_or, drop, eqb, ltb, leb, Option, Some, None, Result, Ok, Err}
use Rattle.refusal.specs.declared.Refusal.{Refusal}
use Rattle.refusal.specs.declared.Refusal.TheVariants.{BadRecord}
use Rattle.wire.specs.Wire.{number, bytes_of, part}
use Rattle.network.specs.declared.Port.{Port}
use Rattle.network.specs.declared.Record.{Record}
use Rattle.network.specs.declared.Record.TheVariants.{Switch as OfSwitch, Host as OfHost, Link as OfLink}
use Rattle.network.specs.declared.format.Kind.{Kind}
use Rattle.network.specs.declared.format.Kind.TheVariants.{Switch as SwitchKind, Host as HostKind, Link as LinkKind}

-- the kind of a record
unfoldable pub kind_of : Record → ℕ
kind_of (OfSwitch s) = 1
kind_of (OfHost h) = 2
kind_of (OfLink l) = 3

-- a kind's byte
abbrev pub byte_of : Kind → ℕ
byte_of SwitchKind = 1
byte_of HostKind = 2
byte_of LinkKind = 3

-- what the length of a record of a kind says; 0, which no record's length is, for an unknown kind
unfoldable pub length_of : ℕ → ℕ
length_of kind = cond (eqb kind 1) 7 (cond (eqb kind 2) 9 (cond (eqb kind 3) 5 0))

-- the kinds of events: a description ends before them
unfoldable pub is_event : ℕ → Bool
is_event kind = leb 4 kind && leb kind 6

-- a port's two bytes
abbrev pub port_bytes : Port → List ℕ
port_bytes p = p.switch ∷ p.number ∷ []

-- what stands behind a record's kind byte
unfoldable pub body_of : Record → List ℕ
body_of (OfSwitch s) = s.ports ∷ s.limit ∷ bytes_of 4 s.salt
body_of (OfHost h) = port_bytes h.port ++ bytes_of 6 h.address
body_of (OfLink l) = port_bytes l.first ++ port_bytes l.second

-- a record's bytes
unfoldable pub encode : Record → List ℕ
encode r = bytes_of 2 (length_of (kind_of r)) ++ (kind_of r ∷ body_of r)

-- a port whose two bytes stand at a place
abbrev pub port_in : ℕ → List ℕ → Port
port_in at body = record { switch = get_or body at 0; number = get_or body (at + 1) 0 }

-- the record of a kind that a body starts with
unfoldable pub record_of : ℕ → List ℕ → Record
record_of kind body =
    cond (eqb kind 1) (OfSwitch (record { ports = get_or body 0 0; limit = get_or body 1 0; salt = number (part 2 4 body) }))
    (cond (eqb kind 2) (OfHost (record { port = port_in 0 body; address = number (part 2 6 body) }))
    (OfLink (record { first = port_in 0 body; second = port_in 2 body })))

-- the length, the kind and the body of the record that bytes start with
abbrev pub length_in : List ℕ → ℕ
length_in b = number (part 0 2 b)

abbrev pub kind_in : List ℕ → ℕ
kind_in b = get_or b 2 0

abbrev pub body_in : List ℕ → List ℕ
body_in b = drop 3 b

-- cut short before its kind byte, or of length 0
unfoldable pub headless : List ℕ → Bool
headless b = ltb (length b) 3 || eqb (length_in b) 0

-- of wrong length or unknown kind, or cut short
unfoldable pub misfit : List ℕ → Bool
misfit b = not (eqb (length_in b) (length_of (kind_in b))) || ltb (length b) (length_in b + 2)

-- what bytes start with: a record, none where the description ends, or what is neither (20)
abbrev pub Start : Type 0
Start = Result (Option Record) Refusal

unfoldable pub start_of : List ℕ → Start
start_of b =
    cond (eqb (length b) 0) (Ok None)
    (cond (headless b) (Err BadRecord)
    (cond (is_event (kind_in b)) (Ok None)
    (cond (misfit b) (Err BadRecord) (Ok (Some (record_of (kind_in b) (body_in b)))))))
