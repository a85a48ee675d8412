-- The lines of document 01's whole run, and one of the longest that its bench can print.
use Rattle.std.specs.Prelude.{ℕ, ◌≡◌, List, [], ◌∷◌, map}
use Prim.Native.Char.{Char, code}
use Prim.Native.String.{String}
use Rattle.lines.specs.declared.Line.{Line}
use Rattle.lines.specs.Lines.{text, line_of}

-- a line's values, and what it prints
pub record Row : Type 0 where
  pub line : Line
  pub printed : String

-- number, letter, refusal number, verdict, hosts that received, copies in flight
abbrev pub row : ℕ → Char → ℕ → Char → ℕ → ℕ → String → Row
row number letter refusal verdict received flying printed =
    record {
      line =
          record {
            number = number;
            letter = code letter;
            refusal = refusal;
            verdict = code verdict;
            received = received;
            flying = flying;
          };
      printed = printed;
    }

abbrev pub rows : List Row
rows =
    row 1 "I" 0 "F" 0 1 "1 I 0 F 00000000 1\n"
    ∷ row 2 "T" 0 "F" 2 0 "2 T 0 F 00000002 0\n"
    ∷ row 3 "I" 0 "F" 0 1 "3 I 0 F 00000000 1\n"
    ∷ row 4 "T" 0 "F" 1 0 "4 T 0 F 00000001 0\n"
    ∷ row 5 "I" 0 "U" 0 1 "5 I 0 U 00000000 1\n"
    ∷ row 6 "T" 0 "U" 2 0 "6 T 0 U 00000002 0\n"
    ∷ row 11990 "K" 33 "R" 0x89ABCDEF 512 "11990 K 33 R 89abcdef 512\n"
    ∷ []

-- each row's line is what it prints
abbrev pub RowsPrinted : Type 0
RowsPrinted = map (λ r. line_of r.line) rows ≡ map (λ r. text r.printed) rows
