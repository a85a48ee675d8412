-- The laws of the filter: of any key and any number of cells first, then of triples and of well-formed filters.
use Rattle.std.proofs.Common.{◌≡◌, ℕ, ◌*◌, ◌^◌, ◌<◌, ◌≤◌, true, false, ◌≢◌, ◌⊎◌, List, length, take, ⊎_elim}
use lib.Seq.{take-length}
use Rattle.wire.specs.Wire.{bytes_of}
use Rattle.filter.specs.Filter.{cell, zeros, empty, has_cell, cell_of, holds, overwrites, recorded, Names}
use Rattle.wire.specs.Address.{group_bit}
use Rattle.filter.specs.Triple.{width, triple, Triple, Count, WellFormed, well_formed}
use Rattle.filter.proofs.Bytes.{refuted}
use Rattle.filter.proofs.Places as places
use Rattle.filter.proofs.Records as records
use Rattle.filter.proofs.Formed as formed
use Rattle.filter.proofs.Triples as triples

-- a key of one byte or more, no longer than the filter, has a cell
pub has_cell_lem : (f key : List ℕ) → 0 < length key → length key ≤ length f → has_cell f key ≡ true
has_cell_lem f key some fits = places.some_cell f key (places.cells_some some fits)

module _ (f : List ℕ) (salt : ℕ) (key : List ℕ) where
  -- recording keeps the length
  pub recorded_long : length (recorded f salt key) ≡ length f
  recorded_long = records.recorded_long f salt key

  -- after recording a key the filter holds it
  pub recorded_held : has_cell f key ≡ true → holds (recorded f salt key) salt key ≡ true
  recorded_held has = records.stands_held f salt key key has (records.recorded_own f salt key has)

  -- recording a key changes no cell but its own
  pub other_cell : (k : ℕ) → k ≢ cell_of f salt key → cell (length key) k (recorded f salt key) ≡ cell (length key) k f
  other_cell = records.other_cell f salt key

  -- recording a key that is held changes nothing, and overwrites nothing
  pub recorded_again : holds f salt key ≡ true → recorded f salt key ≡ f
  recorded_again = places.recorded_again f salt key

  pub overwrites_again : holds f salt key ≡ true → overwrites f salt key ≡ false
  overwrites_again = places.overwrites_again f salt key

  -- a key that is held stays held when another is recorded, unless that one has the same cell and the report says that it overwrote
  pub stays_held :
      (other : List ℕ) → length key ≡ length other → empty key ≡ false → holds f salt key ≡ true
      → (holds (recorded f salt other) salt key ≡ true) ⊎ ((overwrites f salt other ≡ true) × (cell_of f salt other ≡ cell_of f salt key))
  stays_held other long some held = records.stays f salt key other long held some

  -- a key that is held after another was recorded was held before, or is that one
  pub held_before : (other : List ℕ) → length key ≡ length other → holds (recorded f salt other) salt key ≡ true → (holds f salt key ≡ true) ⊎ (key ≡ other)
  held_before other = records.held_before f salt key other

  -- a key that is held stands in a cell: the filter names it, and all that it begins with
  pub held_names : (front : List ℕ) → take (length front) key ≡ front → holds f salt key ≡ true → Names (length key) front f
  held_names front = records.held_names f salt key front

  -- what a filter names after recording a key it named before, or the key begins with it
  pub names_before : (front : List ℕ) → Names (length key) front (recorded f salt key) → Names (length key) front f ⊎ (take (length front) key ≡ front)
  names_before front = records.names_before f salt key front

-- an empty filter names nothing but zeros, and holds no key that is not all zeros
pub zeros_name_none : (n : ℕ) {wide : ℕ} {front : List ℕ} → empty front ≡ false → Names wide front (zeros n) → ⊥
zeros_name_none = formed.zeros_name_none

pub zeros_hold_none : (n salt : ℕ) (key : List ℕ) → empty key ≡ false → holds (zeros n) salt key ≡ false
zeros_hold_none n salt key some =
    refuted (holds (zeros n) salt key) λ held. zeros_name_none n some (held_names (zeros n) salt key key (take-length key) held)

-- the test of a filter is true exactly where it is well-formed
pub test_sound : (f : List ℕ) → well_formed f ≡ true → WellFormed f
test_sound = formed.test_sound

pub test_complete : (f : List ℕ) → WellFormed f → well_formed f ≡ true
test_complete = formed.test_complete

-- an empty filter of a lawful number of cells is well-formed
pub zeros_well_formed : {n : ℕ} → Count n → WellFormed (zeros (n * width))
zeros_well_formed = formed.zeros_formed

-- a well-formed filter has a cell for every key of ten bytes, and stays well-formed when a triple is recorded
pub well_formed_has_cell : {f : List ℕ} (key : List ℕ) → length key ≡ width → WellFormed f → has_cell f key ≡ true
well_formed_has_cell = formed.formed_has_cell

pub well_formed_kept : {f : List ℕ} (salt : ℕ) (key : List ℕ) → length key ≡ width → Triple key → WellFormed f → WellFormed (recorded f salt key)
well_formed_kept = formed.formed_kept

-- the bytes of a source that is neither zero nor group, any nonce, and an L of 0 or 1 are a triple
pub is_triple : (source nonce l : ℕ) → source < 2 ^ 48 → source ≢ 0 → group_bit source ≡ 0 → l < 2 → Triple (triple source nonce l)
is_triple = triples.is_triple

-- a triple is not all zeros, and neither are its source's bytes
pub triple_some : {key : List ℕ} → length key ≡ width → Triple key → empty key ≡ false
triple_some = triples.triple_some

pub source_some : {source : ℕ} → source < 2 ^ 48 → source ≢ 0 → empty (bytes_of 6 source) ≡ false
source_some = triples.source_some

-- two triples with the same bytes are the same triple
pub triples_apart :
    {a b m n j k : ℕ} → a < 2 ^ 48 → b < 2 ^ 48 → m < 2 ^ 24 → n < 2 ^ 24 → triple a m j ≡ triple b n k → (a ≡ b) × (m ≡ n) × (j ≡ k)
triples_apart = triples.triples_apart

-- recording another source's triple names no source anew
pub names_no_other :
    (f : List ℕ) (salt source nonce l : ℕ) {a : ℕ} → source < 2 ^ 48 → a < 2 ^ 48 → source ≢ a
    → Names width (bytes_of 6 a) (recorded f salt (triple source nonce l)) → Names width (bytes_of 6 a) f
names_no_other f salt source nonce l below below_a differ n =
    ⊎_elim (λ before. before) (λ e. absurd (differ (triples.sources_apart below below_a e)))
    (names_before f salt (triple source nonce l) (bytes_of 6 _) n)
