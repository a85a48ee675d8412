-- Document 01, "Steps worked on paper": P1 to P12, whole steps. A row gives what a step finds and all that it answers and leaves.
use Rattle.std.specs.Prelude.{ℕ, ◌≡◌, Bool, true, false, List, [], ◌∷◌, ◌++◌, map, length, replicate}
use Rattle.wire.specs.Wire.{bytes_of}
use Rattle.frame.specs.declared.Header.{Header}
use Rattle.frame.specs.Frame.{tagged}
use Rattle.table.specs.declared.Table.{Table}
use Rattle.table.specs.Table.{empty_table, put}
use Rattle.filter.specs.Filter.{recorded}
use Rattle.filter.specs.Triple.{triple}
use Rattle.rules.specs.Rules.{on_host_port}
use Rattle.rules.specs.Verdict.{report_values, sending_of, verdict_values}
use Rattle.head.specs.Step.{refusal, ruled, switch_after, switch_of, written}
use Rattle.rules.specs.declared.Send.{Send}
use Rattle.head.specs.declared.Switch.{Switch}
use Rattle.rules.specs.declared.Verdict.{Verdict}
use Rattle.rules.specs.declared.Verdict.TheVariants.{X, D, G, E, F, N, B, H, U}

-- ---- what the rows speak of

-- hosts 0 and 1 of the whole run
abbrev pub a : ℕ
a = 0x020000000001

abbrev pub b : ℕ
b = 0x020000000002

-- four live ports, port 0 a host's, limit 16, salt 1
abbrev pub head : ℕ → Table → Switch
head nonce t = switch_of (record { ports = 4; live = 0b1111; host = 0b0001; limit = 16; salt = 1 }) nonce t

-- a slot of a table: address, port / HC
abbrev pub slot : ℕ → ℕ → ℕ → ℕ → Table → Table
slot i x port hc t = put t i x port hc

-- a filter of 64 cells, empty, and one that has recorded A's triple with nonce 0 and L
abbrev pub clear : List ℕ
clear = replicate 640 0

abbrev pub marked : ℕ → List ℕ
marked l = recorded clear 1 (triple a 0 l)

-- a host frame of 60 bytes, type 0x0800, zeros
abbrev pub plain : ℕ → ℕ → List ℕ
plain destination source = bytes_of 6 destination ++ (bytes_of 6 source ++ (bytes_of 2 0x0800 ++ replicate 46 0))

-- L, F, HC, nonce 0
abbrev pub flags : Bool → Bool → ℕ → Header
flags l f hc = record { l = l; f = f; hc = hc; nonce = 0 }

-- the same frame on a link, 66 bytes
abbrev pub on_link : ℕ → ℕ → Header → List ℕ
on_link destination source h = tagged (plain destination source) h

-- an output of 70 bytes that are not zero, as a step finds it, and with a frame at its start
abbrev pub untouched : List ℕ
untouched = replicate 70 0xEE

abbrev pub holding : List ℕ → List ℕ
holding frame = frame ++ replicate 4 0xEE

-- ---- the rows

-- all that a step answers and leaves: refusal, values of the report, switch, filter, output
pub record Whole : Type 0 where
  pub number : ℕ
  pub values : List ℕ
  pub switch : Switch
  pub filter : List ℕ
  pub output : List ℕ

pub record Row : Type 0 where
  pub switch : Switch
  pub filter : List ℕ
  pub port : ℕ
  pub frame : List ℕ
  pub after : Whole

-- what the definitions make of a row
abbrev pub stepped : Row → Whole
stepped r =
    record {
      number = refusal r.switch r.filter r.port r.frame (length untouched);
      values = report_values (ruled r.switch r.filter r.port r.frame).report;
      switch = switch_after r.switch r.port (ruled r.switch r.filter r.port r.frame);
      filter = (ruled r.switch r.filter r.port r.frame).filter;
      output =
          written (on_host_port r.switch.setup r.port) r.frame (sending_of (ruled r.switch r.filter r.port r.frame).report.verdict) untouched;
    }

-- not refused; the table not full, no record overwritten, and this verdict
abbrev pub gives : Verdict → Switch → List ℕ → List ℕ → Whole
gives v s f out = record { number = 0; values = 0 ∷ 0 ∷ verdict_values v; switch = s; filter = f; output = out }

-- a step that sends on a mask, and one that drops
abbrev pub sending : (Send → Verdict) → ℕ → Header → List ℕ → Switch → List ℕ → Whole
sending v mask h frame s f = gives (v (record { mask = mask; header = h })) s f (holding (tagged frame h))

abbrev pub dropping : Verdict → Switch → List ℕ → Whole
dropping v s f = gives v s f untouched

abbrev pub finds : Switch → List ℕ → ℕ → List ℕ → Whole → Row
finds s f port frame w = record { switch = s; filter = f; port = port; frame = frame; after = w }

abbrev pub p1 : Row
p1 = finds (head 0 empty_table) clear 0 (plain b a)
    (sending F 0b1110 (flags true true 1) (plain b a) (head 1 (slot 0 a 0 1 empty_table)) (marked 1))

abbrev pub p2 : Row
p2 = finds (head 0 (slot 0 a 0 1 empty_table)) clear 0 (plain b a)
    (sending N 0b1110 (flags true true 1) (plain b a) (head 1 (slot 0 a 0 1 empty_table)) (marked 1))

abbrev pub p3 : Row
p3 = finds (head 1 (slot 0 a 0 1 empty_table)) (marked 1) 2 (on_link b a (flags true true 2))
    (dropping D (head 1 (slot 0 a 0 1 empty_table)) (marked 1))

abbrev pub p4 : Row
p4 = finds (head 0 empty_table) clear 1 (on_link b a (flags true false 1))
    (sending B 0b1111 (flags false true 2) (plain b a) (head 0 (slot 0 a 1 2 empty_table)) (marked 0))

abbrev pub p5 : Row
p5 = finds (head 0 (slot 0 b 1 3 empty_table)) clear 1 (on_link b a (flags true false 1))
    (sending H 0b0010 (flags false false 2) (plain b a) (head 0 (slot 1 a 1 2 (slot 0 b 1 3 empty_table))) clear)

abbrev pub p6 : Row
p6 = finds (head 0 (slot 0 b 1 3 empty_table)) clear 1 (on_link b a (flags false false 1))
    (dropping E (head 0 (slot 1 a 1 2 empty_table)) clear)

abbrev pub p7 : Row
p7 = finds (head 0 (slot 1 b 1 3 (slot 0 a 0 1 empty_table))) clear 1 (on_link b a (flags false false 1))
    (dropping G (head 0 (slot 0 a 0 1 empty_table)) clear)

abbrev pub p8 : Row
p8 = finds (head 0 (slot 0 b 2 3 empty_table)) clear 1 (on_link b a (flags true false 16))
    (dropping X (head 0 empty_table) clear)

abbrev pub p9 : Row
p9 = finds (head 0 (slot 0 b 2 3 empty_table)) clear 1 (on_link b a (flags true false 15))
    (sending U 0b0100 (flags true false 16) (plain b a) (head 0 (slot 1 a 1 16 (slot 0 b 2 3 empty_table))) clear)

abbrev pub p10 : Row
p10 = finds (head 0 (slot 0 b 2 3 empty_table)) clear 1 (on_link b a (flags true true 16))
    (dropping X (head 0 (slot 0 b 2 3 empty_table)) clear)

abbrev pub p11 : Row
p11 = finds (head 0 (slot 1 b 3 2 (slot 0 a 1 5 empty_table))) clear 2 (on_link b a (flags false false 2))
    (sending U 0b1000 (flags false false 3) (plain b a) (head 0 (slot 1 b 3 2 (slot 0 a 2 3 empty_table))) clear)

abbrev pub p12 : Row
p12 = finds (head 0 (slot 0 a 0 1 empty_table)) clear 1 (on_link a a (flags false false 1))
    (dropping G (head 0 empty_table) clear)

abbrev pub rows : List Row
rows = p1 ∷ p2 ∷ p3 ∷ p4 ∷ p5 ∷ p6 ∷ p7 ∷ p8 ∷ p9 ∷ p10 ∷ p11 ∷ p12 ∷ []

-- every row steps to what stands in it
unfoldable pub EveryRowHolds : Type 0
EveryRowHolds = map stepped rows ≡ map (λ (r : Row). r.after) rows
