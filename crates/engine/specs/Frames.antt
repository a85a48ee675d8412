-- Tagging and stripping through the door: length and header go back through references to single numbers.
-- A list of what the references hold says it of all of them at once.
use Rattle.std.specs.Prelude.{ℕ, ◌+◌, ◌-◌, ◌≡◌, Bool, List, [], ◌∷◌, length}
use Rattle.refusal.specs.Refusal.{leaves}
use Rattle.frame.specs.declared.Header.{Header}
use Rattle.frame.specs.Header.{header_values}
use Rattle.frame.specs.Frame.{header_in, strip_output, strip_refusal, tag_output, tag_refusal}

-- a header of four arguments
abbrev pub header_of4 : Bool → Bool → ℕ → ℕ → Header
header_of4 l f hc nonce = record { l = l; f = f; hc = hc; nonce = nonce }

-- what tagging returns and leaves in the output and in the references: the tagged frame's length
pub record TagsLent (frame : List ℕ) (h : Header) (out held : List ℕ) (returned : ℕ) (out' held' : List ℕ) : Type 0 where
  pub number : returned ≡ tag_refusal frame h (length out)
  pub output : out' ≡ tag_output frame h out
  pub told : held' ≡ leaves (tag_refusal frame h (length out)) held ((length frame + 6) ∷ [])

-- what stripping does: the host frame's length, then L, F, HC and the nonce
pub record StripsLent (frame out held : List ℕ) (returned : ℕ) (out' held' : List ℕ) : Type 0 where
  pub number : returned ≡ strip_refusal frame (length out)
  pub output : out' ≡ strip_output frame out
  pub told : held' ≡ leaves (strip_refusal frame (length out)) held ((length frame - 6) ∷ header_values (header_in frame))
