-- The paper's letter and values of each verdict: mask and header are 0 after a drop.
use Rattle.std.specs.Prelude.{ℕ, List, ◌∷◌, Option, Some, None}
use Rattle.frame.specs.Header.{bit, header_values, no_header}
use Rattle.rules.specs.declared.Send.{Send}
use Rattle.rules.specs.declared.Report.{Report}
use Rattle.rules.specs.declared.Verdict.{Verdict}
use Rattle.rules.specs.declared.Verdict.TheVariants.{X, D, G, E, F, N, B, H, U}

-- what a verdict sends
abbrev pub sending_of : Verdict → Option Send
sending_of X = None
sending_of D = None
sending_of G = None
sending_of E = None
sending_of (F s) = Some s
sending_of (N s) = Some s
sending_of (B s) = Some s
sending_of (H s) = Some s
sending_of (U s) = Some s

-- its letter, as the byte that is printed
abbrev pub letter_of : Verdict → ℕ
letter_of X = 0x58
letter_of D = 0x44
letter_of G = 0x47
letter_of E = 0x45
letter_of (F s) = 0x46
letter_of (N s) = 0x4E
letter_of (B s) = 0x42
letter_of (H s) = 0x48
letter_of (U s) = 0x55

-- the mask and the header of what is sent
abbrev pub sent_by : Option Send → Send
sent_by None = record { mask = 0; header = no_header }
sent_by (Some s) = s

-- letter, mask, L, F, HC and nonce
abbrev pub verdict_values : Verdict → List ℕ
verdict_values v = letter_of v ∷ (sent_by (sending_of v)).mask ∷ header_values (sent_by (sending_of v)).header

-- those, and whether the table was full and a record was overwritten
abbrev pub report_values : Report → List ℕ
report_values r = bit r.full ∷ bit r.overwrote ∷ verdict_values r.verdict
