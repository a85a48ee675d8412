-- Where cells lie: within the filter, and apart from one another; and what stands in one after a key was put into another.
use Rattle.std.proofs.Common.{◌≡◌, ℕ, ◌+◌, ◌-◌, ◌*◌, ◌/◌, ◌%◌, ◌<◌, ◌≤◌, true, false, not, List, ◌++◌, length, take, drop, sym, refl, ap, ◌∙◌, append_assoc, mul-le-mul_right, mod-lt, suc-mul, div-mul-le_self, arith, length-append, length-drop, take-append-drop, length-take, length-take-le, drop-drop, take_at, drop_at, ltb-true, le-ltb, lt-ltb}
use native.Mathlib.Nat.{lt-div-mul-add}
use lib.Seq.{drop-append-le, drop-append-add, take-append-le}
use Rattle.wire.specs.Wire.{part, put, put_in}
use Rattle.wire.proofs.Laws.{put_fits}
use Rattle.filter.proofs.Bytes.{both_true, same_true, same_refl}
use Rattle.filter.specs.Filter.{Begins, hash, cells, cell, cell_of, standing, has_cell, holds, overwrites, recorded, same, empty}

-- cells that come one after the other
pub next : {j k : ℕ} (width : ℕ) → j < k → j * width + width ≤ k * width
next {j} width h = rw suc-mul at (mul-le-mul_right width h)

-- a cell lies within the filter
pub cell_room : (f : List ℕ) (width : ℕ) {k : ℕ} → k < cells width f → k * width + width ≤ length f
cell_room f width h = omega (arith, next width h, div-mul-le_self (length f) width)

-- the cells together are no longer than the filter
pub cells_room : (len width : ℕ) {count : ℕ} → count ≡ len / width → count * width ≤ len
cells_room len width e = rw e (div-mul-le_self len width)

-- a cell begins before the end of the last
pub place_below : (h count width : ℕ) → 0 < count → h % count * width ≤ count * width
place_below h count width some = let below : h % count < count = mod-lt h some in mul-le-mul_right width (omega arith)

-- a key of one byte or more has a cell where it fits once
pub cells_some : {len width : ℕ} → 0 < width → width ≤ len → len / width ≡ 0 → ⊥
cells_some {len} {width} some fits e = let above : len < 0 * width + width = rw e at (lt-div-mul-add {a = len} some) in omega arith

pub some_cell : (f key : List ℕ) → (length f / length key ≡ 0 → ⊥) → has_cell f key ≡ true
unfolding has_cell
some_cell f key h = lt-ltb 0 (length f / length key) (omega arith)

pub no_cell : (f key : List ℕ) → length f / length key ≡ 0 → has_cell f key ≡ false
unfolding has_cell
no_cell f key h = le-ltb 0 (length f / length key) (omega arith)

-- a key's cell is one of the filter's
pub own_cell : (f : List ℕ) (salt : ℕ) (key : List ℕ) → has_cell f key ≡ true → cell_of f salt key < cells (length key) f
unfolding has_cell cell_of
own_cell f salt key h = mod-lt (hash salt key) (ltb-true 0 (length f / length key) h)

-- which is where the code looks, in a filter that has one
pub begins : (f : List ℕ) (salt : ℕ) (key : List ℕ) → 0 < length f / length key → Begins f salt key (hash salt key % (length f / length key) * length key)
unfolding cell_of
begins f salt key some =
    let has : has_cell f key ≡ true = some_cell f key (omega arith) in
    record { has = has; place = refl; room = cell_room f (length key) (own_cell f salt key has) }

-- what the code finds there is what the definitions say
module _ (f : List ℕ) (salt : ℕ) (key : List ℕ) (at : ℕ) (b : Begins f salt key at) where
  pub holds_there : same (part at (length key) f) key ≡ holds f salt key
  unfolding holds standing
  holds_there = rw (b.has, b.place)

  pub overwrites_there : holds f salt key ≡ false → not (empty (part at (length key) f)) ≡ overwrites f salt key
  unfolding holds overwrites standing
  overwrites_there other =
      let differs : same (part (cell_of f salt key * length key) (length key) f) key ≡ false = rw b.has at other in
      rw (b.has, differs, b.place)

  pub recorded_there : put_in f at key ≡ recorded f salt key
  unfolding recorded
  recorded_there = rw (put_fits f at key b.room, b.has, b.place)

-- what is read before the seam
part_front : (xs ys : List ℕ) (at width : ℕ) → at + width ≤ length xs → part at width (xs ++ ys) ≡ part at width xs
part_front xs ys at width h =
    let first : at ≤ length xs = omega arith in
    let second : width ≤ length (drop at xs) = simp length-drop (omega arith) in
    rw (drop-append-le at xs ys first, take-append-le width (drop at xs) ys second)

-- what stands where after bytes were put that fit
module _ (f : List ℕ) (at : ℕ) (bs : List ℕ) (room : at + length bs ≤ length f) where
  head_long : length (take at f ++ bs) ≡ at + length bs
  head_long = simp (length-append, length-take) (omega arith)

  pub put_long : length (put f at bs) ≡ length f
  put_long = simp (length-append, length-take, length-drop) (omega arith)

  pub put_there : part at (length bs) (put f at bs) ≡ bs
  put_there =
      let fits : length (take at f) ≡ at = length-take-le at f (omega arith) in
      rw (append_assoc, drop_at (take at f) (bs ++ drop (at + length bs) f) at fits, take_at bs (drop (at + length bs) f) (length bs) refl)

  pub put_before : (from width : ℕ) → from + width ≤ at → part from width (put f at bs) ≡ part from width f
  put_before from width h =
      let fits : from + width ≤ length (take at f) = simp length-take (omega arith) in
      rw (append_assoc, part_front (take at f) (bs ++ drop (at + length bs) f) from width fits)
      (sym (part_front (take at f) (drop at f) from width fits) ∙ rw take-append-drop)

  pub put_behind : (from width : ℕ) → at + length bs ≤ from → part from width (put f at bs) ≡ part from width f
  put_behind from width h =
      let more : from ≡ length (take at f ++ bs) + (from - (at + length bs)) = omega (arith, head_long) in
      let whole : at + length bs + (from - (at + length bs)) ≡ from = omega arith in
      ap (take width) (ap (λ n. drop n (put f at bs)) more ∙ drop-append-add (take at f ++ bs) (drop (at + length bs) f) (from - (at + length bs)) ∙ rw (drop-drop, whole))

-- putting what stands there changes nothing
put_same : (f : List ℕ) (at : ℕ) (key : List ℕ) → part at (length key) f ≡ key → put f at key ≡ f
put_same f at key e =
    let whole : key ++ drop (at + length key) f ≡ drop at f = rw (← drop-drop) (rw (e) at (take-append-drop (length key) (drop at f))) in
    rw (append_assoc, whole, take-append-drop)

-- a key that is held stands in its cell, and recording it again changes nothing
module _ (f : List ℕ) (salt : ℕ) (key : List ℕ) (held : holds f salt key ≡ true) where
  pub held_cell : has_cell f key ≡ true
  unfolding holds
  held_cell = (both_true (has_cell f key) (same (standing f salt key) key) held).0

  pub held_stands : cell (length key) (cell_of f salt key) f ≡ key
  unfolding holds standing
  held_stands = same_true (standing f salt key) key (both_true (has_cell f key) (same (standing f salt key) key) held).1

  pub recorded_again : recorded f salt key ≡ f
  unfolding recorded
  recorded_again = rw (held_cell, put_same f (cell_of f salt key * length key) key held_stands)

  pub overwrites_again : overwrites f salt key ≡ false
  unfolding overwrites holds
  overwrites_again = rw (held_cell, (both_true (has_cell f key) (same (standing f salt key) key) held).1)

-- a key that stands in its cell is held
pub held_if : (f : List ℕ) (salt : ℕ) (key : List ℕ) → has_cell f key ≡ true → cell (length key) (cell_of f salt key) f ≡ key → holds f salt key ≡ true
unfolding holds standing
held_if f salt key has e = rw (has, e) (same_refl key)

-- where there is no cell, nothing is held, overwritten or recorded
module _ (f : List ℕ) (salt : ℕ) (key : List ℕ) (none : has_cell f key ≡ false) where
  pub holds_none : holds f salt key ≡ false
  unfolding holds
  holds_none = rw none

  pub overwrites_none : overwrites f salt key ≡ false
  unfolding overwrites
  overwrites_none = rw none

  pub recorded_none : recorded f salt key ≡ f
  unfolding recorded
  recorded_none = rw none

-- what a search of the key's cell comes to
pub ruleset of_cell = (holds_there, overwrites_there, recorded_there, overwrites_again, recorded_again, holds_none, overwrites_none, recorded_none)
