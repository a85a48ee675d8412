-- Which filters are well-formed: those that pass the test, empty ones, and those in which a triple was recorded.
use Rattle.std.proofs.Common.{◌≡◌, ℕ, zero, suc, ◌*◌, ◌<◌, true, false, eqb, ltb, List, ◌∷◌, length, take, drop, sym, refl, ap, ◌∙◌, inl, inr, arith, ltb-true, lt-ltb, eq-eqb, ne_eqb, eqb-true}
use mathlib.Core.Logic.{by_cases}
use native.Mathlib.Decide.{ℕ_discrete}
use native.Mathlib.Nat.{mul-div_left}
use Rattle.wire.specs.Wire.{number, number_after, part}
use Rattle.wire.specs.Below.{all_below}
use Rattle.wire.proofs.Below.{all_below_lem, each_below}
use Rattle.filter.specs.Filter.{cells, cell, zeros, empty, same, has_cell, cell_of, recorded, Names}
use Rattle.wire.specs.Address.{group_bit}
use Rattle.filter.specs.Triple.{width, source_in, l_in, Triple, Cell, Count, WellFormed, is_cell, is_length, well_formed}
use Rattle.filter.proofs.Bytes.{both_true, true_false, part_long, zeros_long, zeros_empty, empty_true}
use Rattle.filter.proofs.Places.{cell_room, cells_some, some_cell}
use Rattle.filter.proofs.Records.{recorded_long, recorded_own, other_cell}
use Rattle.filter.proofs.Lengths.{Counted, length_true, length_of, count_length, length_count}

-- a cell's test is true exactly where it is all zeros or holds a triple
cell_sound : (c : List ℕ) → length c ≡ width → is_cell c ≡ true → Cell c
unfolding is_cell
cell_sound c long e =
    by_cases (ℕ_discrete (source_in c) 0)
    (λ h. inl (rw long at (empty_true c (rw (h) at e))))
    (λ h.
    let both : (eqb (group_bit (source_in c)) 0 ≡ true) × (ltb (l_in c) 2 ≡ true) = both_true _ _ (rw (ne_eqb (source_in c) 0 h) at e) in
    inr (record { nonzero = h; single = eqb-true (group_bit (source_in c)) 0 both.0; l = ltb-true (l_in c) 2 both.1 }))

cell_complete : (c : List ℕ) → Cell c → is_cell c ≡ true
unfolding is_cell number number_after empty same
cell_complete c (inl e) = rw e
cell_complete c (inr t) = rw (ne_eqb (source_in c) 0 t.nonzero, eq-eqb (group_bit (source_in c)) 0 t.single) (lt-ltb (l_in c) 2 t.l)

-- a filter of so many whole cells has as many
pub count_cells : (f : List ℕ) {n : ℕ} → length f ≡ n * width → cells width f ≡ n
count_cells f {n} e = rw e (mul-div_left n (omega arith))

-- and a filter's exactly where it is well-formed
pub test_sound : (f : List ℕ) → well_formed f ≡ true → WellFormed f
unfolding well_formed
test_sound f e =
    let both : (is_length (length f) ≡ true) × (all_below (λ k. is_cell (cell width k f)) (cells width f) ≡ true) = both_true _ _ e in
    let n : Counted (length f) = length_count (length_of (length f) both.0) in
    record {
      count = n.count;
      lawful = n.lawful;
      long = n.long;
      each = λ k h.
          let inside : k < cells width f = rw (count_cells f n.long) h in
          cell_sound (cell width k f) (part_long f (k * width) width (cell_room f width inside)) (each_below _ (cells width f) both.1 k inside);
    }

pub test_complete : (f : List ℕ) → WellFormed f → well_formed f ≡ true
unfolding well_formed
test_complete f w =
    let fits : is_length (length f) ≡ true = length_true (rw w.long (count_length w.lawful)) in
    rw fits (all_below_lem (λ k. is_cell (cell width k f)) (cells width f) λ k h. cell_complete (cell width k f) (w.each k (rw (count_cells f w.long) at h)))

-- so many zeros, cut anywhere, are zeros
take_zeros : (j n : ℕ) → take j (zeros n) ≡ zeros (length (take j (zeros n)))
take_zeros zero n = refl
take_zeros (suc j) zero = refl
take_zeros (suc j) (suc n) = ap (λ l. 0 ∷ l) (take_zeros j n)

drop_zeros : (j n : ℕ) → drop j (zeros n) ≡ zeros (length (drop j (zeros n)))
drop_zeros zero n = ap zeros (sym (zeros_long n))
drop_zeros (suc j) zero = refl
drop_zeros (suc j) (suc n) = drop_zeros j n

part_zeros : (at k n : ℕ) → part at k (zeros n) ≡ zeros (length (part at k (zeros n)))
part_zeros at k n = rw (drop_zeros at n) (take_zeros k (length (drop at (zeros n))))

-- an empty filter of a lawful number of cells is well-formed
pub zeros_formed : {n : ℕ} → Count n → WellFormed (zeros (n * width))
zeros_formed {n} lawful =
    let long : length (zeros (n * width)) ≡ n * width = zeros_long (n * width) in
    record {
      count = n;
      lawful = lawful;
      long = long;
      each = λ k h.
          let inside : k < cells width (zeros (n * width)) = rw (count_cells (zeros (n * width)) long) h in
          let ten : length (cell width k (zeros (n * width))) ≡ width = part_long (zeros (n * width)) (k * width) width (cell_room (zeros (n * width)) width inside) in
          inl (rw ten at (part_zeros (k * width) width (n * width)));
    }

-- no cell of an empty filter begins with bytes that are not all zero
pub zeros_name_none : (n : ℕ) {wide : ℕ} {front : List ℕ} → empty front ≡ false → Names wide front (zeros n) → ⊥
zeros_name_none n {wide} {front} some r =
    let clear : take (length front) (zeros (length (cell wide r.number (zeros n)))) ≡ front = rw (part_zeros (r.number * wide) wide n) at r.begins in
    let all : front ≡ zeros (length front) = rw clear at (take_zeros (length front) (length (cell wide r.number (zeros n)))) in
    true_false (sym (zeros_empty front all) ∙ some)

-- a well-formed filter has a cell for every key of ten bytes
pub formed_has_cell : {f : List ℕ} (key : List ℕ) → length key ≡ width → WellFormed f → has_cell f key ≡ true
formed_has_cell {f} key long w = some_cell f key (cells_some (omega arith) (omega (arith, w.lawful.least)))

-- a well-formed filter stays so when a triple is recorded
pub formed_kept : {f : List ℕ} (salt : ℕ) (key : List ℕ) → length key ≡ width → Triple key → WellFormed f → WellFormed (recorded f salt key)
formed_kept {f} salt key long t w =
    record {
      count = w.count;
      lawful = w.lawful;
      long = recorded_long f salt key ∙ w.long;
      each = λ k h.
          by_cases (ℕ_discrete k (cell_of f salt key))
          (λ e. let own : cell width k (recorded f salt key) ≡ key = rw (e, ← long) (recorded_own f salt key (formed_has_cell key long w)) in inr (rw own t))
          (λ d. let kept : cell width k (recorded f salt key) ≡ cell width k f = rw long at (other_cell f salt key k d) in rw kept (w.each k h));
    }
