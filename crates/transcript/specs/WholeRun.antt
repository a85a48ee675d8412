-- Document 01's whole run, as input and output bytes. The statement is a type; proofs/WholeRun has its term.
use Rattle.std.specs.Prelude.{ℕ, ◌+◌, ◌≡◌, List, ◌++◌}
use Rattle.wire.specs.Wire.{bytes_of}
use Rattle.lines.specs.Lines.{text}
use Rattle.transcript.specs.Transcript.{transcript}

-- hosts 0 and 1
abbrev pub a : ℕ
a = 0x020000000001

abbrev pub b : ℕ
b = 0x020000000002

-- two switches of two ports, limit 16, salts 1 and 2; a host on port 0 of each; a link between their ports 1
abbrev pub description : List ℕ
description =
    bytes_of 1 1
    ++ bytes_of 9 0x0007_01_02_10_00000001
    ++ bytes_of 9 0x0007_01_02_10_00000002
    ++ bytes_of 5 0x0009_02_00_00
    ++ bytes_of 6 a
    ++ bytes_of 5 0x0009_02_01_00
    ++ bytes_of 6 b
    ++ bytes_of 7 0x0005_03_00_01_01_01

-- a host presents a frame
abbrev pub presents : ℕ → ℕ → List ℕ
presents host to = bytes_of 4 (0x0008_04_00 + host) ++ bytes_of 6 to

-- the first copy is taken
abbrev pub takes : List ℕ
takes = bytes_of 5 0x0003_05_0000

abbrev pub events : List ℕ
events = presents 0 b ++ takes ++ presents 1 a ++ takes ++ presents 0 b ++ takes

-- the six lines
abbrev pub lines : List ℕ
lines =
    text "1 I 0 F 00000000 1\n"
    ++ text "2 T 0 F 00000002 0\n"
    ++ text "3 I 0 F 00000000 1\n"
    ++ text "4 T 0 F 00000001 0\n"
    ++ text "5 I 0 U 00000000 1\n"
    ++ text "6 T 0 U 00000002 0\n"

abbrev pub WholeRun : Type 0
WholeRun = transcript (description ++ events) ≡ lines
