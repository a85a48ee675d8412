-- The lines that the bench program prints (document 01, "The bench", last part), as bytes; each ends with one newline.
-- `decimal`, `hex8`, `line_of`, `refused_line` and `stop_line` are the interface; the others serve them.
use Rattle.std.specs.Prelude.{ℕ, zero, suc, ◌+◌, ◌/◌, ◌%◌, ◌^◌, cond, List, [], ◌∷◌, ◌++◌, ltb}
use Prim.Native.Char.{code}
use Prim.Native.String.{String, [] as empty, ◌∷◌ as ◌then◌}
use Rattle.lines.specs.declared.Line.{Line}

-- a text's bytes
unfoldable pub text : String → List ℕ
text empty = []
text (c then s) = code c ∷ text s

-- a digit as it is printed: 0 to 9, and a to f behind them
unfoldable pub hex_of : ℕ → ℕ
hex_of d = cond (ltb d 10) (0x30 + d) (0x57 + d)

-- the lowest k digits of a number in a base, the highest of them first
unfoldable pub digits : ℕ → ℕ → ℕ → List ℕ
digits base zero n = []
digits base (suc k) n = hex_of (n / base ^ k % base) ∷ digits base k n

-- how many decimal digits a number has: one below 10, else one more than its tenth. Tenths fall, so as many turns as the number says are enough
unfoldable pub width_in : ℕ → ℕ → ℕ
width_in zero n = 1
width_in (suc turns) n = cond (ltb n 10) 1 (suc (width_in turns (n / 10)))

unfoldable pub width : ℕ → ℕ
width n = width_in n n

-- a number as it is printed: its decimal digits, with no zeros before them
unfoldable pub decimal : ℕ → List ℕ
decimal n = digits 10 (width n) n

-- eight hexadecimal digits, in lower case: bit 0, host 0's, is the lowest of the last
unfoldable pub hex8 : ℕ → List ℕ
hex8 n = digits 16 8 n

-- a number and a letter, with a space behind each
unfoldable pub field : ℕ → ℕ → List ℕ
field n letter = decimal n ++ (0x20 ∷ letter ∷ 0x20 ∷ [])

-- the hosts that received, with a space behind them
unfoldable pub marked : ℕ → List ℕ
marked received = hex8 received ++ text " "

-- the number at a line's end
unfoldable pub ending : ℕ → List ℕ
ending n = decimal n ++ text "\n"

-- an event's line: number and letter, refusal number and verdict, the hosts that received, the copies in flight
unfoldable pub line_of : Line → List ℕ
line_of l = field l.number l.letter ++ field l.refusal l.verdict ++ marked l.received ++ ending l.flying

-- what a refused description prints
unfoldable pub refused_line : ℕ → List ℕ
refused_line n = text "refused " ++ ending n

-- what a bad event record prints
unfoldable pub stop_line : List ℕ
stop_line = text "stop 20\n"
