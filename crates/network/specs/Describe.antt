-- The reader and the writer. Both check a list of records by `records_fault`: the reader those that it finds, the writer those of its network.
-- `end_values`, `read_fault`, `read_end`, `read_network`, `image` and `write_fault` are the interface; `Scan`, `scan` and `scan_of` serve the reader.
use Rattle.std.specs.Prelude.{ℕ, zero, suc, ◌+◌, Bool, true, false, cond, not, ◌||◌, List, [], ◌∷◌, ◌++◌, length, get_or, drop, eqb, ltb, Some, None, Ok, Err}
use Rattle.refusal.specs.Refusal.{Cause, when, first}
use Rattle.wire.specs.Wire.{put}
use Rattle.network.specs.declared.Network.{Network}
use Rattle.network.specs.declared.Record.{Record}
use Rattle.network.specs.Network.{empty_network, built, records}
use Rattle.network.specs.Format.{Start, encode, start_of}
use Rattle.network.specs.Checks.{checked, records_fault, network_fault}

-- an answer's value: where the description ends
abbrev pub end_values : ℕ → List ℕ
end_values at = at ∷ []

-- the version byte at the front
abbrev pub version : ℕ
version = 1

-- what a description's bytes hold: its records, where they end, and whether it ends there, at the input's end or before an event
pub record Scan : Type 0 where
  pub found : List Record
  pub end : ℕ
  pub whole : Bool

-- what one start makes of what stands behind it
abbrev pub scanned : Start → ℕ → (Record → Scan) → Scan
scanned (Ok None) at behind = record { found = []; end = at; whole = true }
scanned (Err r) at behind = record { found = []; end = at; whole = false }
scanned (Ok (Some r)) at behind = record { found = r ∷ (behind r).found; end = (behind r).end; whole = (behind r).whole }

-- the bytes b, which stand at a place, record by record. Each record takes some bytes, so one turn more than there are bytes is enough
unfoldable pub scan : ℕ → ℕ → List ℕ → Scan
scan zero at b = record { found = []; end = at; whole = false }
scan (suc turns) at b = scanned (start_of b) at (λ r. scan turns (at + length (encode r)) (drop (length (encode r)) b))

-- the records behind the version byte
unfoldable pub scan_of : List ℕ → Scan
scan_of b = scan (suc (length b)) 1 (drop 1 b)

-- 21: description empty, or first byte not the version
unfoldable pub versionless : List ℕ → Bool
versionless b = eqb (length b) 0 || not (eqb (get_or b 0 0) version)

-- what an input can be refused for: over 60,000 bytes, no version, then its records, and behind the last of them what is no record (20)
abbrev pub read_causes : List ℕ → List Cause
read_causes b =
    when 25 (ltb 60000 (length b))
    ∷ when 21 (versionless b)
    ∷ checked (records_fault empty_network (scan_of b).found)
    ∷ when 20 (not (scan_of b).whole)
    ∷ []

-- the reader's refusal number, 0 for none
unfoldable pub read_fault : List ℕ → ℕ
read_fault b = first (read_causes b)

-- where the description ends
unfoldable pub read_end : List ℕ → ℕ
read_end b = (scan_of b).end

-- the network that is read: the empty one where the input is refused
unfoldable pub read_network : List ℕ → Network
read_network b = cond (eqb (read_fault b) 0) (built empty_network (scan_of b).found) empty_network

-- the bytes of a list of records
unfoldable pub encode_all : List Record → List ℕ
encode_all [] = []
encode_all (r ∷ rs) = encode r ++ encode_all rs

-- a network's description
unfoldable pub image : Network → List ℕ
image n = version ∷ encode_all (records n)

-- what a network can be refused for with room for so many bytes: its records, then the room
abbrev pub write_causes : Network → ℕ → List Cause
write_causes n room = checked (network_fault n) ∷ when 27 (ltb room (length (image n))) ∷ []

-- the writer's refusal number, 0 for none
unfoldable pub write_fault : Network → ℕ → ℕ
write_fault n room = first (write_causes n room)

-- the output: the description at its start, and what is behind stays; unchanged on refusal
unfoldable pub written : Network → List ℕ → List ℕ
written n out = cond (eqb (write_fault n (length out)) 0) (put out 0 (image n)) out
