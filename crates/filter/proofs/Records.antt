-- What a filter holds after a key was recorded: the key in its own cell, and in every other what stood there before.
use Rattle.std.proofs.Common.{◌≡◌, ℕ, ◌+◌, ◌*◌, ◌<◌, ◌≤◌, true, false, ◌≢◌, ◌⊎◌, List, length, take, sym, ap, ◌∙◌, inl, inr, ⊎_elim, arith}
use mathlib.Core.Bool.{Bool-discrete}
use mathlib.Core.Logic.{by_cases}
use native.Mathlib.Decide.{ℕ_discrete, dec_lt}
use Rattle.wire.specs.Wire.{put}
use Rattle.filter.proofs.Bytes.{refuted}
use Rattle.filter.specs.Filter.{cells, cell, cell_of, standing, has_cell, holds, overwrites, recorded, same, empty, Names}
use Rattle.filter.proofs.Places.{next, cell_room, own_cell, some_cell, put_long, put_there, put_before, put_behind, held_cell, held_stands, held_if, recorded_none, recorded_again}

-- what stands in the cells after a key was recorded
module _ (f : List ℕ) (salt : ℕ) (key : List ℕ) where
  module _ (has : has_cell f key ≡ true) where
    room : cell_of f salt key * length key + length key ≤ length f
    room = cell_room f (length key) (own_cell f salt key has)

    recorded_is : recorded f salt key ≡ put f (cell_of f salt key * length key) key
    unfolding recorded
    recorded_is = rw has

    recorded_length : length (recorded f salt key) ≡ length f
    recorded_length = rw recorded_is (put_long f (cell_of f salt key * length key) key room)

    pub recorded_own : cell (length key) (cell_of f salt key) (recorded f salt key) ≡ key
    recorded_own = rw recorded_is (put_there f (cell_of f salt key * length key) key room)

    recorded_other : (k : ℕ) → k ≢ cell_of f salt key → cell (length key) k (recorded f salt key) ≡ cell (length key) k f
    recorded_other k d =
        by_cases (dec_lt k (cell_of f salt key))
        (λ h. rw recorded_is (put_before f (cell_of f salt key * length key) key room (k * length key) (length key) (next (length key) h)))
        (λ h. rw recorded_is (put_behind f (cell_of f salt key * length key) key room (k * length key) (length key) (next (length key) (omega arith))))

  pub recorded_long : length (recorded f salt key) ≡ length f
  recorded_long =
      by_cases (Bool-discrete (has_cell f key) true) recorded_length
      (λ h. ap length (recorded_none f salt key (refuted (has_cell f key) h)))

  pub other_cell : (k : ℕ) → k ≢ cell_of f salt key → cell (length key) k (recorded f salt key) ≡ cell (length key) k f
  other_cell k d =
      by_cases (Bool-discrete (has_cell f key) true) (λ h. recorded_other h k d)
      (λ h. ap (cell (length key) k) (recorded_none f salt key (refuted (has_cell f key) h)))

-- keys of one length share their cells
alike_has : (f key other : List ℕ) → length key ≡ length other → has_cell f key ≡ has_cell f other
unfolding has_cell
alike_has f key other e = rw e

-- the number of a key's cell, and whether there is one, go by the filter's length alone
module _ (f : List ℕ) (salt : ℕ) (key other : List ℕ) where
  same_cell : cell_of (recorded f salt other) salt key ≡ cell_of f salt key
  unfolding cell_of
  same_cell = rw (recorded_long f salt other)

  same_has : has_cell (recorded f salt other) key ≡ has_cell f key
  unfolding has_cell
  same_has = rw (recorded_long f salt other)

  -- a key whose cell holds it after another was recorded is held then
  pub stands_held : has_cell f key ≡ true → cell (length key) (cell_of f salt key) (recorded f salt other) ≡ key → holds (recorded f salt other) salt key ≡ true
  stands_held has e = held_if (recorded f salt other) salt key (same_has ∙ has) (rw same_cell e)

  -- and a key that is held then was held before, or is the one recorded
  pub held_before : length key ≡ length other → holds (recorded f salt other) salt key ≡ true → (holds f salt key ≡ true) ⊎ (key ≡ other)
  held_before long held =
      let has : has_cell f key ≡ true = sym same_has ∙ held_cell (recorded f salt other) salt key held in
      let here : cell (length key) (cell_of f salt key) (recorded f salt other) ≡ key = rw same_cell at (held_stands (recorded f salt other) salt key held) in
      let there : cell (length other) (cell_of f salt key) (recorded f salt other) ≡ key = rw long at here in
      by_cases (ℕ_discrete (cell_of f salt key) (cell_of f salt other))
      (λ e. inr (sym (rw e at there) ∙ recorded_own f salt other (sym (alike_has f key other long) ∙ has)))
      (λ d.
      let stood : cell (length other) (cell_of f salt key) f ≡ key = sym (other_cell f salt other (cell_of f salt key) d) ∙ there in
      inl (held_if f salt key has (rw long stood)))

-- a different key gives way
gives_way : (f : List ℕ) (salt : ℕ) (key : List ℕ) → has_cell f key ≡ true → holds f salt key ≡ false → empty (cell (length key) (cell_of f salt key) f) ≡ false → overwrites f salt key ≡ true
unfolding holds overwrites standing
gives_way f salt key has other some = let differs : same (cell (length key) (cell_of f salt key) f) key ≡ false = rw has at other in rw (has, differs, some)

-- a key that is held stays, unless the one that is recorded has its cell and overwrites it
module _ (f : List ℕ) (salt : ℕ) (key other : List ℕ) (long : length key ≡ length other) (held : holds f salt key ≡ true) where
  apart : cell_of f salt other ≢ cell_of f salt key → holds (recorded f salt other) salt key ≡ true
  apart d =
      let kept : cell (length key) (cell_of f salt key) (recorded f salt other) ≡ cell (length key) (cell_of f salt key) f = rw long (other_cell f salt other (cell_of f salt key) (λ e. d (sym e))) in
      stands_held f salt key other (held_cell f salt key held) (kept ∙ held_stands f salt key held)

  together : empty key ≡ false → cell_of f salt other ≡ cell_of f salt key → (holds (recorded f salt other) salt key ≡ true) ⊎ (overwrites f salt other ≡ true)
  together some e =
      by_cases (Bool-discrete (holds f salt other) true)
      (λ h. inl (rw (recorded_again f salt other h) held))
      (λ h.
      let here : cell (length other) (cell_of f salt other) f ≡ key = rw (e, ← long) (held_stands f salt key held) in
      inr (gives_way f salt other (sym (alike_has f key other long) ∙ held_cell f salt key held) (refuted (holds f salt other) h) (rw here some)))

  pub stays : empty key ≡ false → (holds (recorded f salt other) salt key ≡ true) ⊎ ((overwrites f salt other ≡ true) × (cell_of f salt other ≡ cell_of f salt key))
  stays some =
      by_cases (ℕ_discrete (cell_of f salt other) (cell_of f salt key))
      (λ e. ⊎_elim inl (λ o. inr (o, e)) (together some e))
      (λ d. inl (apart d))

-- what stands in a cell after a key was recorded stood there before, or is the key
module _ (f : List ℕ) (salt : ℕ) (key front : List ℕ) where
  pub held_names : take (length front) key ≡ front → holds f salt key ≡ true → Names (length key) front f
  held_names e held =
      record {
        number = cell_of f salt key;
        within = own_cell f salt key (held_cell f salt key held);
        begins = rw (held_stands f salt key held) e;
      }

  pub names_before : Names (length key) front (recorded f salt key) → Names (length key) front f ⊎ (take (length front) key ≡ front)
  names_before n =
      let inside : n.number < cells (length key) f = rw (recorded_long f salt key) at n.within in
      let has : has_cell f key ≡ true = some_cell f key (λ e. let none : n.number < 0 = rw e at inside in omega arith) in
      by_cases (ℕ_discrete n.number (cell_of f salt key))
      (λ e. inr (rw (e, recorded_own f salt key has) at n.begins))
      (λ d. inl (record { number = n.number; within = inside; begins = rw (other_cell f salt key n.number d) at n.begins }))
