-- Document 01, "Refusal numbers", of tagging and stripping: each is refused with n exactly when cause n holds and none before it, and what each cause is in
-- words. Each statement is a type; proofs/Causes has its term, under the same name in lower case.
use Rattle.std.specs.Prelude.{ℕ, ◌+◌, ◌-◌, ◌^◌, ◌<◌, ◌≤◌, ◌≡◌, ◌⊎◌, ◌≢◌, List, [], ◌∷◌, length}
use Rattle.refusal.specs.Exact.{ForItsCauseOnly, InWords, Listed, Outside, listed}
use Rattle.frame.specs.Frame.{our_type, type_of, old_type_of, header_in, tag_causes, strip_causes, tag_refusal, strip_refusal}
use Rattle.frame.specs.declared.Header.{Header}

abbrev pub TagsForItsCauseOnly : Type 0
TagsForItsCauseOnly = (frame : List ℕ) (h : Header) (room : ℕ) → ForItsCauseOnly (tag_refusal frame h room) (tag_causes frame h room)

abbrev pub StripsForItsCauseOnly : Type 0
StripsForItsCauseOnly = (frame : List ℕ) (room : ℕ) → ForItsCauseOnly (strip_refusal frame room) (strip_causes frame room)

-- the length isn't a host frame's, its type is ours, HC is 0, HC or nonce is too large, the output is shorter than the tagged frame
abbrev pub tag_words : List ℕ → Header → ℕ → List Listed
tag_words frame h room =
    listed 4 (Outside 60 1514 (length frame))
    ∷ listed 6 (type_of frame ≡ our_type)
    ∷ listed 8 (h.hc ≡ 0)
    ∷ listed 10 ((63 < h.hc) ⊎ (2 ^ 24 ≤ h.nonce))
    ∷ listed 9 (room < length frame + 6)
    ∷ []

abbrev pub TagCausesInWords : Type 0
TagCausesInWords = (frame : List ℕ) (h : Header) (room : ℕ) → InWords (tag_causes frame h room) (tag_words frame h room)

-- the length isn't a tagged frame's, our type stands twice, the type isn't ours, HC is 0, the output is shorter than the host frame
abbrev pub strip_words : List ℕ → ℕ → List Listed
strip_words frame room =
    listed 4 (Outside 66 1520 (length frame))
    ∷ listed 6 ((type_of frame ≡ our_type) × (old_type_of frame ≡ our_type))
    ∷ listed 7 (type_of frame ≢ our_type)
    ∷ listed 8 ((header_in frame).hc ≡ 0)
    ∷ listed 9 (room < length frame - 6)
    ∷ []

abbrev pub StripCausesInWords : Type 0
StripCausesInWords = (frame : List ℕ) (room : ℕ) → InWords (strip_causes frame room) (strip_words frame room)
