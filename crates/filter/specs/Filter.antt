-- The filter of document 01, "The head's switch", over any key and any number of cells: a cell is as wide as the key.
-- `hash`, `cells`, `cell`, `cell_of`, `zeros`, `empty`, `has_cell`, `holds`, `overwrites`, `recorded` and `Names` are the interface; the rest serves them.
use Rattle.std.specs.Prelude.{◌≡◌, ℕ, ◌+◌, ◌*◌, ◌/◌, ◌%◌, ◌^◌, ◌<◌, ◌≤◌, Bool, true, false, cond, not, ◌&&◌, List, [], ◌∷◌, length, take, replicate, ◌==◌, bit_or, bit_xor, nat_lt}
use Rattle.wire.specs.Wire.{part, put}

-- h, of 32 bits, rotated left by 5
abbrev pub rotated : ℕ → ℕ
rotated h = bit_or (h * 2 ^ 5 % 2 ^ 32) (h / 2 ^ 27)

-- one byte of the key: rotate h left by 5, xor the byte into it, add 0x9E3779B9 modulo 2^32
abbrev pub mixed : ℕ → ℕ → ℕ
mixed h b = (bit_xor (rotated h) b + 0x9E3779B9) % 2 ^ 32

-- the hash of a key: h starts as the salt and takes in byte after byte
unfoldable pub hash : ℕ → List ℕ → ℕ
hash h [] = h
hash h (b ∷ bs) = hash (mixed h b) bs

-- how many cells of a width a filter has; of width 0 it has none
abbrev pub cells : ℕ → List ℕ → ℕ
cells width f = length f / width

-- the bytes of cell k
abbrev pub cell : ℕ → ℕ → List ℕ → List ℕ
cell width k f = part (k * width) width f

-- the number of a key's cell: h modulo the number of cells
unfoldable pub cell_of : List ℕ → ℕ → List ℕ → ℕ
cell_of f salt key = hash salt key % cells (length key) f

-- the two lists are the same, byte by byte
unfoldable pub same : List ℕ → List ℕ → Bool
same [] [] = true
same [] (y ∷ ys) = false
same (x ∷ xs) [] = false
same (x ∷ xs) (y ∷ ys) = x == y && same xs ys

-- so many zeros
abbrev pub zeros : ℕ → List ℕ
zeros n = replicate n 0

-- all bytes are zero
unfoldable pub empty : List ℕ → Bool
empty c = same c (zeros (length c))

-- what stands in a key's cell
unfoldable pub standing : List ℕ → ℕ → List ℕ → List ℕ
standing f salt key = cell (length key) (cell_of f salt key) f

-- whether there is a cell for the key: not in a filter shorter than the key, and not for the key of no bytes
unfoldable pub has_cell : List ℕ → List ℕ → Bool
has_cell f key = nat_lt 0 (cells (length key) f)

-- a duplicate: the key's cell holds exactly it; where there is no cell, nothing is one
unfoldable pub holds : List ℕ → ℕ → List ℕ → Bool
holds f salt key = has_cell f key && same (standing f salt key) key

-- recording the key replaces a different one: its cell is not empty, and does not hold it
unfoldable pub overwrites : List ℕ → ℕ → List ℕ → Bool
overwrites f salt key = has_cell f key && not (same (standing f salt key) key) && not (empty (standing f salt key))

-- the filter with the key recorded: its cell is overwritten; where there is no cell, nothing changes
unfoldable pub recorded : List ℕ → ℕ → List ℕ → List ℕ
recorded f salt key = cond (has_cell f key) (put f (cell_of f salt key * length key) key) f

-- at is where the key's cell begins, in a filter that has one
pub record Begins (f : List ℕ) (salt : ℕ) (key : List ℕ) (at : ℕ) : Type 0 where
  pub has : has_cell f key ≡ true
  pub place : at ≡ cell_of f salt key * length key
  pub room : at + length key ≤ length f

-- some cell begins with these bytes: with a source's six it names that source, with a whole key it is that key's record
pub record Names (width : ℕ) (front f : List ℕ) : Type 0 where
  pub number : ℕ
  pub within : number < cells width f
  pub begins : take (length front) (cell width number f) ≡ front
