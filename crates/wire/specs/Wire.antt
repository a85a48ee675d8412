-- Numbers as bytes, high byte first (document 01: addresses, nonces, salts, lengths, places), and bytes put into a buffer.
-- `number`, `bytes_of`, `part`, `put`, `put_in` and `AreBytes` are the interface; `number_after` serves `number`.
use Rattle.std.specs.Prelude.{ℕ, zero, suc, ◌+◌, ◌*◌, ◌/◌, ◌%◌, ◌^◌, ◌<◌, cond, List, [], ◌∷◌, ◌++◌, leb, length, take, drop}

-- a number, read on through bytes that stand behind it
unfoldable pub number_after : ℕ → List ℕ → ℕ
number_after n [] = n
number_after n (b ∷ bs) = number_after (n * 256 + b) bs

-- the number that bytes write, high byte first
unfoldable pub number : List ℕ → ℕ
number bs = number_after 0 bs

-- the lowest k bytes of a number, high byte first
abbrev pub bytes_of : ℕ → ℕ → List ℕ
bytes_of zero n = []
bytes_of (suc k) n = n / 256 ^ k % 256 ∷ bytes_of k n

-- k bytes of a list, from a place on
abbrev pub part : ℕ → ℕ → List ℕ → List ℕ
part at k l = take k (drop at l)

-- a list with bytes put from a place on
abbrev pub put : List ℕ → ℕ → List ℕ → List ℕ
put l at bs = take at l ++ bs ++ drop (at + length bs) l

-- the same, if they fit
unfoldable pub put_in : List ℕ → ℕ → List ℕ → List ℕ
put_in l at bs = cond (leb (at + length bs) (length l)) (put l at bs) l

-- each number of the list is a byte
abbrev pub AreBytes : List ℕ → Type 0
AreBytes [] = Unit {0}
AreBytes (b ∷ bs) = (b < 256) × AreBytes bs
