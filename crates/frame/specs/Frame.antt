-- Document 01, "Tagged frames", and the paragraph below the refusal table: tagging and stripping.
-- A frame is a list of bytes; `room` is the length of the lent output.
use Rattle.std.specs.Prelude.{ℕ, ◌+◌, ◌-◌, Bool, cond, not, ◌&&◌, List, [], ◌∷◌, ◌++◌, eqb, ltb, leb, length, take, drop}
use Rattle.refusal.specs.Refusal.{Cause, when, first, outside, Told, answered, leaves}
use Rattle.wire.specs.Wire.{number, bytes_of, part}
use Rattle.frame.specs.Header.{header_bytes, header_of, header_values, too_large}
use Rattle.frame.specs.declared.Header.{Header}
use Rattle.frame.specs.declared.Host.{Host}

-- the type of a tagged frame (IEEE local experimental)
abbrev pub our_type : ℕ
our_type = 0x88B5

-- a frame is destination 6, source 6, type 2, rest
abbrev pub destination_of : List ℕ → ℕ
destination_of frame = number (part 0 6 frame)

abbrev pub source_of : List ℕ → ℕ
source_of frame = number (part 6 6 frame)

abbrev pub type_of : List ℕ → ℕ
type_of frame = number (part 12 2 frame)

-- behind our type and the header stands the old type
abbrev pub old_type_of : List ℕ → ℕ
old_type_of tagged = number (part 18 2 tagged)

-- our type, twice
abbrev pub tagged_twice : List ℕ → Bool
tagged_twice frame = eqb (type_of frame) our_type && eqb (old_type_of frame) our_type

-- the header stands behind our type
abbrev pub header_in : List ℕ → Header
header_in tagged = header_of (drop 14 tagged)

-- a frame with our type and a header behind its addresses, and then what stands from a place on
abbrev pub tag_before : ℕ → List ℕ → Header → List ℕ
tag_before from frame h = take 12 frame ++ (bytes_of 2 our_type ++ header_bytes h) ++ drop from frame

-- the tagged frame: six bytes more, our type and the header, before the old type
unfoldable pub tagged : List ℕ → Header → List ℕ
tagged frame h = tag_before 12 frame h

-- the host frame: those six bytes taken away
unfoldable pub stripped : List ℕ → List ℕ
stripped frame = take 12 frame ++ drop 18 frame

-- tagging checks 4 (60..1,514), 6, 8 (HC 0), 10, 9
abbrev pub tag_causes : List ℕ → Header → ℕ → List Cause
tag_causes frame h room =
    when 4 (outside 60 1514 (length frame))
    ∷ when 6 (eqb (type_of frame) our_type)
    ∷ when 8 (eqb h.hc 0)
    ∷ when 10 (too_large h)
    ∷ when 9 (ltb room (length frame + 6))
    ∷ []

-- stripping checks 4 (66..1,520), 6, 7, 8, 9
abbrev pub strip_causes : List ℕ → ℕ → List Cause
strip_causes frame room =
    when 4 (outside 66 1520 (length frame))
    ∷ when 6 (tagged_twice frame)
    ∷ when 7 (not (eqb (type_of frame) our_type))
    ∷ when 8 (eqb (header_in frame).hc 0)
    ∷ when 9 (ltb room (length frame - 6))
    ∷ []

unfoldable pub tag_refusal : List ℕ → Header → ℕ → ℕ
tag_refusal frame h room = first (tag_causes frame h room)

unfoldable pub strip_refusal : List ℕ → ℕ → ℕ
strip_refusal frame room = first (strip_causes frame room)

-- bytes at the output's start, and nothing changed behind them
abbrev pub at_start : List ℕ → List ℕ → List ℕ
at_start bytes out = bytes ++ drop (length bytes) out

-- a tag is put in behind the addresses, and what results fits into so much room
unfoldable pub has_room : ℕ → List ℕ → ℕ → Bool
has_room from frame room = leb 12 from && leb from (length frame) && leb (18 + (length frame - from)) room

-- such a frame at the output's start, where it has room
abbrev pub tag_into : ℕ → List ℕ → Header → List ℕ → List ℕ
tag_into from frame h out = cond (has_room from frame (length out)) (at_start (tag_before from frame h) out) out

-- what tagging answers: the tagged frame's length
abbrev pub tag_answer : List ℕ → Header → ℕ → Told
tag_answer frame h room = answered (tag_refusal frame h room) ((length frame + 6) ∷ [])

-- what the output then holds
abbrev pub tag_output : List ℕ → Header → List ℕ → List ℕ
tag_output frame h out = leaves (tag_refusal frame h (length out)) out (at_start (tagged frame h) out)

-- what stripping answers: the host frame's length, and the header
abbrev pub strip_answer : List ℕ → ℕ → Told
strip_answer frame room = answered (strip_refusal frame room) ((length frame - 6) ∷ header_values (header_in frame))

abbrev pub strip_output : List ℕ → List ℕ → List ℕ
strip_output frame out = leaves (strip_refusal frame (length out)) out (at_start (stripped frame) out)

-- the values of what stripping gives
abbrev pub host_values : Host → List ℕ
host_values host = host.len ∷ header_values host.header
