-- What is printed says the number. Each statement is a type; proofs/Laws has its term, under the same name in lower case.
use Rattle.std.specs.Prelude.{ℕ, ◌+◌, ◌-◌, ◌*◌, ◌^◌, ◌<◌, ◌≡◌, ◌≢◌, cond, List, [], ◌∷◌, ltb, get_or}
use Rattle.lines.specs.Lines.{decimal, hex8}

-- the digit that a byte prints: 0 to 9, or a to f
unfoldable pub digit_in : ℕ → ℕ
digit_in byte = cond (ltb byte 0x61) (byte - 0x30) (byte - 0x57)

-- a number, read on through digits that stand behind it
unfoldable pub read_after : ℕ → ℕ → List ℕ → ℕ
read_after base n [] = n
read_after base n (b ∷ bs) = read_after base (n * base + digit_in b) bs

-- the number that digits print in a base, the highest first
unfoldable pub read_in : ℕ → List ℕ → ℕ
read_in base bs = read_after base 0 bs

-- reading a number's decimal digits gives it back
abbrev pub ReadsBack : Type 0
ReadsBack = (n : ℕ) → read_in 10 (decimal n) ≡ n

-- none of them is too many: where the number isn't 0, the first isn't
abbrev pub NoZeroBefore : Type 0
NoZeroBefore = (n : ℕ) → n ≢ 0 → get_or (decimal n) 0 0 ≢ 0x30

-- reading the eight hexadecimal digits of a 32-bit number gives it back
abbrev pub MarksReadBack : Type 0
MarksReadBack = (n : ℕ) → n < 2 ^ 32 → read_in 16 (hex8 n) ≡ n
