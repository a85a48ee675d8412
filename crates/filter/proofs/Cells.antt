-- Why the test of a cell is right, by the numbers that its bytes write.
use Rattle.std.proofs.Common.{◌≡◌, ℕ, zero, suc, ◌+◌, ◌*◌, ◌%◌, ◌<◌, ◌≤◌, true, false, ◌&&◌, eqb, ltb, List, [], ◌∷◌, length, get_or, drop, refl, sym, ap, ◌∙◌, ◌↔◌, arith, drop-cons, drop-drop, suc-mul, zero-mul, drop_of_length-le, ne_eqb, lt-ltb, le-ltb, eq-eqb, eqb-true, w32}
use mathlib.Core.Bool.{and-eq-true_iff}
use mathlib.Core.Logic.{by_cases}
use native.Mathlib.Decide.{ℕ_discrete}
use native.Mathlib.Numerals.{unary_clauses}
use Rattle.std.specs.Int.{from_be_bytes}
use Rattle.std.specs.Simd.{first_chunks}
use Rattle.wire.specs.Wire.{number, number_after, part}
use Rattle.wire.specs.Below.{all_below}
use Rattle.wire.proofs.Below.{not_below}
use Rattle.wire.specs.Address.{group_bit}
use Rattle.filter.specs.Filter.{cells, cell}
use Rattle.filter.specs.Triple.{width, source_in, is_cell}
use Rattle.filter.proofs.Bytes.{empty_number, true_false}

-- a cell is its ten bytes
ten : (c : List ℕ) → length c ≡ 10
    → c ≡ get_or c 0 0 ∷ get_or c 1 0 ∷ get_or c 2 0 ∷ get_or c 3 0 ∷ get_or c 4 0 ∷ get_or c 5 0 ∷ get_or c 6 0 ∷ get_or c 7 0 ∷ get_or c 8 0 ∷ get_or c 9 0 ∷ []
ten c long =
    let b0 = drop-cons c 0 0 (omega arith) in
    let b1 = drop-cons c 1 0 (omega arith) in
    let b2 = drop-cons c 2 0 (omega arith) in
    let b3 = drop-cons c 3 0 (omega arith) in
    let b4 = drop-cons c 4 0 (omega arith) in
    let b5 = drop-cons c 5 0 (omega arith) in
    let b6 = drop-cons c 6 0 (omega arith) in
    let b7 = drop-cons c 7 0 (omega arith) in
    let b8 = drop-cons c 8 0 (omega arith) in
    let b9 = drop-cons c 9 0 (omega arith) in
    let end : drop 10 c ≡ [] = drop_of_length-le c {i = 10} (omega arith) in
    cc

-- a number that is zero exactly where a and b pass their tests tells whether both do
one_test : (n a l : ℕ) → (n ≡ 0 ↔ (a ≡ 0) × (l < 2)) → eqb n 0 ≡ (eqb a 0 && ltb l 2)
one_test n a l tells =
    by_cases (ℕ_discrete n 0)
    (λ e. rw (e, eq-eqb a 0 (tells.0 e).0, lt-ltb l 2 (tells.0 e).1))
    (λ d. ne_eqb n 0 d ∙ sym (not_both a l (λ both. d (tells.1 both))))
  where
    not_both : (a l : ℕ) → ((a ≡ 0) × (l < 2) → ⊥) → (eqb a 0 && ltb l 2) ≡ false
    not_both a l none =
        by_cases (ℕ_discrete a 0)
        (λ e. let large : l < 2 → ⊥ = λ h. none (e, h) in rw (e, le-ltb l 2 (omega (arith, large))))
        (λ d. rw (ne_eqb a 0 d))

module _ (a b c d e f x y z l : ℕ) where
  source_bytes : source_in (a ∷ b ∷ c ∷ d ∷ e ∷ f ∷ x ∷ y ∷ z ∷ l ∷ []) ≡ a * 1099511627776 + b * 4294967296 + c * 16777216 + d * 65536 + e * 256 + f
  unfolding number number_after
  source_bytes = omega arith

  last_bytes : source_in (a ∷ b ∷ c ∷ d ∷ e ∷ f ∷ x ∷ y ∷ z ∷ l ∷ []) ≡ 0 → from_be_bytes w32 (x ∷ y ∷ z ∷ l ∷ []) ≡ number (a ∷ b ∷ c ∷ d ∷ e ∷ f ∷ x ∷ y ∷ z ∷ l ∷ [])
  unfolding number number_after
  last_bytes none = omega arith

  ten_without_source : source_in (a ∷ b ∷ c ∷ d ∷ e ∷ f ∷ x ∷ y ∷ z ∷ l ∷ []) ≡ 0 → eqb (from_be_bytes w32 (x ∷ y ∷ z ∷ l ∷ [])) 0 ≡ is_cell (a ∷ b ∷ c ∷ d ∷ e ∷ f ∷ x ∷ y ∷ z ∷ l ∷ [])
  unfolding is_cell
  ten_without_source none = sym (rw (none, empty_number (a ∷ b ∷ c ∷ d ∷ e ∷ f ∷ x ∷ y ∷ z ∷ l ∷ []), last_bytes none))

  module _ (small : (i : ℕ) → get_or (a ∷ b ∷ c ∷ d ∷ e ∷ f ∷ x ∷ y ∷ z ∷ l ∷ []) i 0 < 256) where
    group_byte : group_bit (source_in (a ∷ b ∷ c ∷ d ∷ e ∷ f ∷ x ∷ y ∷ z ∷ l ∷ [])) ≡ a % 2
    unfolding number number_after
    group_byte = omega (arith, small 1, small 2, small 3, small 4, small 5)

    ten_with_source : (source_in (a ∷ b ∷ c ∷ d ∷ e ∷ f ∷ x ∷ y ∷ z ∷ l ∷ []) ≡ 0 → ⊥) → (eqb (a % 2) 0 && ltb l 2) ≡ is_cell (a ∷ b ∷ c ∷ d ∷ e ∷ f ∷ x ∷ y ∷ z ∷ l ∷ [])
    unfolding is_cell
    ten_with_source h = sym (rw (ne_eqb (source_in (a ∷ b ∷ c ∷ d ∷ e ∷ f ∷ x ∷ y ∷ z ∷ l ∷ [])) 0 h, group_byte))

module _ (c : List ℕ) (long : length c ≡ 10) (small : (i : ℕ) → get_or c i 0 < 256) where
  source_of : source_in c ≡ get_or c 0 0 * 1099511627776 + get_or c 1 0 * 4294967296 + get_or c 2 0 * 16777216 + get_or c 3 0 * 65536 + get_or c 4 0 * 256 + get_or c 5 0
  source_of = ap source_in (ten c long) ∙ source_bytes _ _ _ _ _ _ (get_or c 6 0) (get_or c 7 0) (get_or c 8 0) (get_or c 9 0)

  -- a number that is zero exactly where six bytes are tells whether there is a source
  pub source_told : (n : ℕ) → (n ≡ 0 ↔ get_or c 0 0 + get_or c 1 0 + get_or c 2 0 + get_or c 3 0 + get_or c 4 0 + get_or c 5 0 ≡ 0) → eqb n 0 ≡ eqb (source_in c) 0
  source_told n tells =
      by_cases (ℕ_discrete n 0)
      (λ e. let clear : source_in c ≡ 0 = omega (arith, source_of, tells.0 e) in rw (e, clear))
      (λ d. let some : source_in c ≡ 0 → ⊥ = λ none. d (tells.1 (omega (arith, source_of, none))) in ne_eqb n 0 d ∙ sym (ne_eqb (source_in c) 0 some))

  pub cell_without_source : eqb (source_in c) 0 ≡ true → eqb (from_be_bytes w32 (get_or c 6 0 ∷ get_or c 7 0 ∷ get_or c 8 0 ∷ get_or c 9 0 ∷ [])) 0 ≡ is_cell c
  cell_without_source none =
      ten_without_source _ _ _ _ _ _ _ _ _ _ (ap source_in (sym (ten c long)) ∙ eqb-true (source_in c) 0 none) ∙ ap is_cell (sym (ten c long))

  pub cell_with_source : eqb (source_in c) 0 ≡ false → (n : ℕ) → (n ≡ 0 ↔ (get_or c 0 0 % 2 ≡ 0) × (get_or c 9 0 < 2)) → eqb n 0 ≡ is_cell c
  cell_with_source some n tells =
      let filled : (eqb (get_or c 0 0 % 2) 0 && ltb (get_or c 9 0) 2) ≡ is_cell c =
      ten_with_source _ _ _ _ _ _ _ _ _ _ (λ i. rw (← ten c long) (small i)) (λ none. true_false (sym (eq-eqb (source_in c) 0 (ap source_in (ten c long) ∙ none)) ∙ some)) ∙ ap is_cell (sym (ten c long)) in
      one_test n (get_or c 0 0 % 2) (get_or c 9 0) tells ∙ filled

-- the chunks of a filter are its cells
chunk_at : (w n : ℕ) (f : List ℕ) (k : ℕ) (d : List ℕ) → k < n → get_or (first_chunks w n f) k d ≡ part (k * w) w f
chunk_at w zero f k d h = absurd (omega arith)
chunk_at w (suc n) f zero d h = rw zero-mul
chunk_at w (suc n) f (suc k) d h = let e : w + k * w ≡ suc k * w = omega (arith, suc-mul k w) in chunk_at w n (drop w f) k d (omega arith) ∙ rw (drop-drop, e)

first_long : (w n : ℕ) (f : List ℕ) → length (first_chunks w n f) ≡ n
first_long w zero f = refl
first_long w (suc n) f = ap suc (first_long w n (drop w f))

-- the cells of a filter as chunks: up to where all were passed, and what the first that does not fit decides
pub pass_start : (f : List ℕ) → all_below (λ j. is_cell (cell width j f)) 0 ≡ true
unfolding all_below
pass_start f = refl

module _ (f : List ℕ) {chunks : List (List ℕ)} (front : chunks ≡ first_chunks width (cells width f) f) where
  chunks_long : length chunks ≡ cells width f
  chunks_long = rw front (first_long width (cells width f) f)

  chunk_is : (k : ℕ) → k < length chunks → get_or chunks k [] ≡ cell width k f
  chunk_is k h = rw front (chunk_at width (cells width f) f k [] (omega (arith, chunks_long, h)))

  pub pass_next : (k : ℕ) → all_below (λ j. is_cell (cell width j f)) k ≡ true → k < length chunks → true ≡ is_cell (get_or chunks k []) → all_below (λ j. is_cell (cell width j f)) (k + 1) ≡ true
  unfolding all_below
  pass_next k before h e =
      let here : is_cell (cell width k f) ≡ true = rw (← chunk_is k h) (sym e) in
      simp unary_clauses ((and-eq-true_iff (all_below (λ j. is_cell (cell width j f)) k) (is_cell (cell width k f))).1 (before, here))

  pub pass_fails : (k : ℕ) → k < length chunks → false ≡ is_cell (get_or chunks k []) → false ≡ all_below (λ j. is_cell (cell width j f)) (cells width f)
  pass_fails k h e = sym (not_below _ (cells width f) k (omega (arith, chunks_long, h)) (rw (← chunk_is k h) (sym e)))

  pub pass_end : (k : ℕ) → all_below (λ j. is_cell (cell width j f)) k ≡ true → length chunks ≤ k → k ≤ length chunks → true ≡ all_below (λ j. is_cell (cell width j f)) (cells width f)
  pass_end k all past within = let e : k ≡ cells width f = omega (arith, chunks_long, past, within) in sym (rw (← e) all)
