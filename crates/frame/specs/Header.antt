-- Document 01, "Tagged frames": the four header bytes.
-- `header_bytes`, `header_of`, `no_header`, `header_values` and `too_large` are the interface; `bit` and `byte0` serve them.
use Rattle.std.specs.Prelude.{ℕ, ◌+◌, ◌*◌, ◌/◌, ◌%◌, ◌^◌, Bool, true, false, ◌||◌, List, [], ◌∷◌, eqb, ltb, leb, get_or}
use Rattle.wire.specs.Wire.{number, bytes_of, part}
use Rattle.frame.specs.declared.Header.{Header}

abbrev pub bit : Bool → ℕ
bit true = 1
bit false = 0

-- L in bit 7, F in bit 6, the hop count in bits 5 to 0
unfoldable pub byte0 : Header → ℕ
byte0 h = bit h.l * 2 ^ 7 + bit h.f * 2 ^ 6 + h.hc % 2 ^ 6

-- byte 0, then the nonce, high byte first
abbrev pub header_bytes : Header → List ℕ
header_bytes h = byte0 h ∷ bytes_of 3 h.nonce

-- the header that four bytes carry
unfoldable pub header_of : List ℕ → Header
header_of b =
    record {
      l = eqb (get_or b 0 0 / 2 ^ 7 % 2) 1;
      f = eqb (get_or b 0 0 / 2 ^ 6 % 2) 1;
      hc = get_or b 0 0 % 2 ^ 6;
      nonce = number (part 1 3 b);
    }

-- no header: all of it 0
abbrev pub no_header : Header
no_header = record { l = false; f = false; hc = 0; nonce = 0 }

-- L, F, HC and the nonce as numbers
abbrev pub header_values : Header → List ℕ
header_values h = bit h.l ∷ bit h.f ∷ h.hc ∷ h.nonce ∷ []

-- more than six bits of hop count, or 24 of nonce
abbrev pub too_large : Header → Bool
too_large h = ltb 63 h.hc || leb (2 ^ 24) h.nonce
