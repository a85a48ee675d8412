-- What is special to document 01's cells of ten bytes: the triple that is their key, and which filters are well-formed.
-- `triple`, `Triple`, `Count`, `WellFormed` and `well_formed` are the interface.
use Rattle.std.specs.Prelude.{◌≡◌, ℕ, ◌*◌, ◌^◌, ◌<◌, ◌≤◌, Bool, cond, ◌&&◌, ◌||◌, ◌≢◌, ◌⊎◌, List, [], ◌∷◌, ◌++◌, length, ◌==◌, nat_lt, slice_index}
use Rattle.wire.specs.Address.{group_bit}
use Rattle.wire.specs.Below.{all_below}
use Rattle.wire.specs.Wire.{bytes_of, number, part}
use Rattle.filter.specs.Filter.{cells, cell, zeros, empty}

-- how many bytes a cell has
abbrev pub width : ℕ
width = 10

-- a triple's bytes: the source, the nonce high byte first, and L
abbrev pub triple : ℕ → ℕ → ℕ → List ℕ
triple source nonce l = bytes_of 6 source ++ (bytes_of 3 nonce ++ (l ∷ []))

-- the source that ten bytes hold
abbrev pub source_in : List ℕ → ℕ
source_in c = number (part 0 6 c)

-- and their L
abbrev pub l_in : List ℕ → ℕ
l_in c = slice_index c 9

-- ten bytes are a triple: the source is neither zero nor group, and L is 0 or 1
pub record Triple (c : List ℕ) : Type 0 where
  pub nonzero : source_in c ≢ 0
  pub single : group_bit (source_in c) ≡ 0
  pub l : l_in c < 2

-- a cell is all zeros or holds a triple
abbrev pub Cell : List ℕ → Type 0
Cell c = (c ≡ zeros width) ⊎ Triple c

-- a number of cells: a power of two, 16 to 256
pub record Count (n : ℕ) : Type 0 where
  pub exponent : ℕ
  pub power : n ≡ 2 ^ exponent
  pub least : 16 ≤ n
  pub most : n ≤ 256

-- a filter is so many cells, each all zeros or holding a triple
pub record WellFormed (f : List ℕ) : Type 0 where
  pub count : ℕ
  pub lawful : Count count
  pub long : length f ≡ count * width
  pub each : (k : ℕ) → k < count → Cell (cell width k f)

-- the same as tests, from here on. A cell with source zero is all zeros, any other holds a triple
unfoldable pub is_cell : List ℕ → Bool
is_cell c = cond (source_in c == 0) (empty c) (group_bit (source_in c) == 0 && nat_lt (l_in c) 2)

-- a length is that of 16, 32, 64, 128 or 256 cells
unfoldable pub is_length : ℕ → Bool
is_length n = n == 16 * width || n == 32 * width || n == 64 * width || n == 128 * width || n == 256 * width

-- a filter's length is lawful, and every cell fits
unfoldable pub well_formed : List ℕ → Bool
well_formed f = is_length (length f) && all_below (λ k. is_cell (cell width k f)) (cells width f)
