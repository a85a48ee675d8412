-- What callers cite: how long the lines are. That what is printed says the number (proofs/ReadBack) is passed on.
use Prim.Native.Nat.{ℕ, ◌+◌, ◌≤◌, ◌<◌}
use mathlib.Core.Path.{◌≡◌, refl}
use native.Mathlib.Omega.{arith}
use lib.ListN.{length, length-append}
use Rattle.lines.specs.declared.Line.{Line}
use Rattle.lines.specs.Lines.{text, digits, width, hex8, field, marked, ending, line_of, refused_line, stop_line}
pub use Rattle.lines.proofs.Digits.{digits_long, decimal_long, width_least, width_most}
pub use Rattle.lines.proofs.ReadBack.{reads_back, no_zero_before, marks_read_back}
pub use Rattle.lines.proofs.Rows.{rows_printed}

-- a line takes its numbers' digits, and 16 bytes besides
pub line_long : (l : Line) → length (line_of l) ≡ width l.number + width l.refusal + width l.flying + 16
unfolding line_of field marked ending hex8 digits text
line_long l = simp (length-append, decimal_long) (omega arith)

pub line_least : (l : Line) → 19 ≤ length (line_of l)
line_least l = omega (arith, line_long l, width_least l.number, width_least l.refusal, width_least l.flying)

-- 26 bytes are room for the line of each event that an input of 60,000 bytes holds
pub line_most : (l : Line) → l.number < 100_000 → l.refusal < 100 → l.flying < 1_000 → length (line_of l) ≤ 26
line_most l a b c = omega (arith, line_long l, width_most 4 l.number a, width_most 1 l.refusal b, width_most 2 l.flying c)

-- what a refused description prints takes its number's digits, and 9 bytes besides
pub refused_long : (n : ℕ) → length (refused_line n) ≡ width n + 9
unfolding refused_line ending text
refused_long n = simp (length-append, decimal_long) (omega arith)

pub refused_range : (n : ℕ) → n < 1_000 → (10 ≤ length (refused_line n)) × (length (refused_line n) ≤ 12)
refused_range n h = (omega (arith, refused_long n, width_least n), omega (arith, refused_long n, width_most 2 n h))

pub stop_long : length stop_line ≡ 8
unfolding stop_line text
stop_long = refl
