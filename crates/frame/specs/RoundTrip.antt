-- Demand 2, "tagging and stripping undo each other", as statements; their proofs are in proofs/RoundTrip.antt.
use Rattle.std.specs.Prelude.{ℕ, ◌≤◌, ◌≡◌, List, length}
use Rattle.wire.specs.Wire.{AreBytes}
use Rattle.frame.specs.declared.Header.{Header}
use Rattle.frame.specs.Frame.{tagged, stripped, header_in, tag_refusal, strip_refusal}

-- what stripping gives back, of any output that it wrote into
pub record GivesBack (t frame : List ℕ) (h : Header) : Type 0 where
  pub accepted : (room : ℕ) → length frame ≤ room → strip_refusal t room ≡ 0
  pub frame_back : stripped t ≡ frame
  pub header_back : header_in t ≡ h

-- stripping what tagging wrote gives back the frame and the header, for every frame and header that tagging accepts
unfoldable pub StripsWhatWasTagged : Type 0
StripsWhatWasTagged =
    (frame : List ℕ) (h : Header) (room : ℕ) → tag_refusal frame h room ≡ 0 → GivesBack (tagged frame h) frame h

-- tagging what stripping gave writes back the tagged frame, for every tagged frame that stripping accepts
pub record WritesBack (t : List ℕ) : Type 0 where
  pub accepted : (room : ℕ) → length t ≤ room → tag_refusal (stripped t) (header_in t) room ≡ 0
  pub tagged_back : tagged (stripped t) (header_in t) ≡ t

unfoldable pub TagsWhatWasStripped : Type 0
TagsWhatWasStripped = (t : List ℕ) (room : ℕ) → AreBytes t → strip_refusal t room ≡ 0 → WritesBack t
