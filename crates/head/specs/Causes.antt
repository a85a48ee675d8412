-- Document 01, "Refusal numbers", of a step: it is refused with n exactly when cause n holds and none before it, and what each cause is in words.
-- Each statement is a type; proofs/Listed has its term, under the same name in lower case.
use Rattle.std.specs.Prelude.{ℕ, ◌+◌, ◌^◌, ◌<◌, ◌≤◌, ◌≡◌, ◌≢◌, Bool, true, false, List, [], ◌∷◌, ◌++◌, length}
use Rattle.refusal.specs.Refusal.{Cause}
use Rattle.refusal.specs.Exact.{ForItsCauseOnly, InWords, Listed, Outside, listed}
use Rattle.wire.specs.Address.{Source}
use Rattle.frame.specs.Frame.{our_type, type_of, old_type_of, header_in, source_of}
use Rattle.table.specs.Table as table
use Rattle.filter.specs.Triple as filter
use Rattle.rules.specs.Mask.{names}
use Rattle.rules.specs.Rules.{on_host_port}
use Rattle.head.specs.Switch.{switch_causes}
use Rattle.head.specs.Step.{frame_causes, refusal}
use Rattle.head.specs.declared.Switch.{Switch}

-- a step checks 1, then 2 to 9
abbrev pub step_causes : Switch → List ℕ → ℕ → List ℕ → ℕ → List Cause
step_causes s f port frame room = switch_causes s f ++ frame_causes s.setup port frame room

abbrev pub StepsForItsCauseOnly : Type 0
StepsForItsCauseOnly = (s : Switch) (f : List ℕ) (port : ℕ) (frame : List ℕ) (room : ℕ) → ForItsCauseOnly (refusal s f port frame room) (step_causes s f port frame room)

-- on a host port the first, on a switch port the second
abbrev pub ByRole : Bool → Type 0 → Type 0 → Type 0
ByRole true host switch = host
ByRole false host switch = switch

abbrev pub step_words : Switch → List ℕ → ℕ → List ℕ → ℕ → List Listed
step_words s f port frame room =
    -- 1 to 16 ports, masks over them, a hop limit 1 to 62, a next nonce below 2^24, a learning table, a filter
    listed 1 (Outside 1 16 s.setup.ports)
    ∷ listed 1 (2 ^ s.setup.ports ≤ s.setup.live)
    ∷ listed 1 (2 ^ s.setup.ports ≤ s.setup.host)
    ∷ listed 1 (Outside 1 62 s.setup.limit)
    ∷ listed 1 (2 ^ 24 ≤ s.nonce)
    ∷ listed 1 (table.WellFormed s.setup.ports s.table → ⊥)
    ∷ listed 1 (filter.WellFormed f → ⊥)
    -- no such port; port down
    ∷ listed 2 (s.setup.ports ≤ port)
    ∷ listed 3 (names s.setup.live port ≢ true)
    -- the length isn't that of a host frame, or of a tagged one
    ∷ listed 4 (ByRole (on_host_port s.setup port) (Outside 60 1514 (length frame)) (Outside 66 1520 (length frame)))
    -- source zero, or its group bit set
    ∷ listed 5 (Source (source_of frame) → ⊥)
    -- host frame of type 0x88B5, or a tagged frame whose old type is 0x88B5 too
    ∷ listed 6 (ByRole (on_host_port s.setup port) (type_of frame ≡ our_type) ((type_of frame ≡ our_type) × (old_type_of frame ≡ our_type)))
    -- type not 0x88B5 on a switch port; received HC is 0
    ∷ listed 7 (ByRole (on_host_port s.setup port) ⊥ (type_of frame ≢ our_type))
    ∷ listed 8 (ByRole (on_host_port s.setup port) ⊥ ((header_in frame).hc ≡ 0))
    -- output shorter than the tagged frame
    ∷ listed 9 (ByRole (on_host_port s.setup port) (room < length frame + 6) (room < length frame))
    ∷ []

-- a switch's table has its 64 slots by its type
abbrev pub StepCausesInWords : Type 0
StepCausesInWords =
    (s : Switch) (f : List ℕ) (port : ℕ) (frame : List ℕ) (room : ℕ) → table.Sized s.table → InWords (step_causes s f port frame room) (step_words s f port frame room)
