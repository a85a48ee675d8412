-- The loops: when the first places are swept, the array is what it shall be in the end, had the list ended there.
use Prim.Native.Nat.{ℕ, zero, suc, ◌+◌, ◌-◌, ◌%◌, ◌<◌, ◌≤◌}
use mathlib.Core.Path.{◌≡◌, refl, sym, ap, ◌∙◌}
use mathlib.Core.Logic.{◌≢◌}
use mathlib.Core.Bool.{Bool, true, false, cond}
use lib.Dec.{eqb}
use mathlib.Core.List.{List, [], ◌∷◌, ◌++◌, append-nil, map, map-append}
use native.Mathlib.Omega.{arith}
use lib.ListN.{length, get_or, take, drop, set, replicate, length-append, length-map, drop_of_length-le}
use lib.Seq.{length-take-le, take-take}
use borrow.Author.Tests.{eq-eqb, ne_eqb}
use Rattle.flight.specs.declared.Copy.{Copy}
use Rattle.flight.specs.Flight.{Cut, Ranged, TakenOut, Worded, copies_in, laid, most, no_copy, no_words, pack, spared_words, unpack, without}
use Rattle.flight.proofs.Laid.{laid_behind, laid_front, laid_joins, laid_padded, laid_same, one_more}
use Rattle.flight.proofs.Laws.{copies_length, copies_next, spared_words_lem, unpack_pack, without_append, without_length}

-- ---- Taking out

-- of the copies as of their words
map_without : {A B : Type 0} (f : A → B) (k : ℕ) (xs : List A) → map f (without k xs) ≡ without k (map f xs)
unfolding without
map_without {A} {B} f k xs = rw (map-append, map_take k xs, map_drop (k + 1) xs)
  where
    map_take : (n : ℕ) (xs : List A) → map f (take n xs) ≡ take n (map f xs)
    map_take zero xs = refl
    map_take (suc n) [] = refl
    map_take (suc n) (x ∷ xs) = ap (λ (l : List B). f x ∷ l) (map_take n xs)

    map_drop : (n : ℕ) (xs : List A) → map f (drop n xs) ≡ drop n (map f xs)
    map_drop zero xs = refl
    map_drop (suc n) [] = refl
    map_drop (suc n) (x ∷ xs) = map_drop n xs

-- the last taken out
without_last : {A : Type 0} (k : ℕ) (a : List A) → k < length a → without k (take (k + 1) a) ≡ take k a
unfolding without
without_last k a h =
    let t : length (take (k + 1) a) ≡ k + 1 = length-take-le (k + 1) a (omega arith) in
    let d : drop (k + 1) (take (k + 1) a) ≡ [] = drop_of_length-le (take (k + 1) a) {i = k + 1} (omega arith) in
    rw (d, take-take k (k + 1) a (omega arith)) (append-nil (take k a))

-- the first i but the one at a place lie in front
pub record Moved (place : ℕ) (a : List (List ℕ)) (i : ℕ) (words : List (List ℕ)) : Type 0 where
  pub behind : place < i
  pub places : words ≡ laid (without place (take i a)) a

pub moved_starts : (place : ℕ) (a : List (List ℕ)) → place < length a → Moved place a (place + 1) a
moved_starts place a l = record { behind = omega arith; places = rw (without_last place a l) (sym (laid_same place a (omega arith))) }

module _ {place : ℕ} {a : List (List ℕ)} {i : ℕ} {words : List (List ℕ)} (v : Moved place a i words) (l : i ≤ length a) where
  its_place : place < length (take i a)
  its_place = omega (arith, length-take-le i a l, v.behind)

  one_fewer : length (without place (take i a)) ≡ i - 1
  one_fewer = omega (arith, without_length place (take i a) its_place, length-take-le i a l)

  pub moved_next : i < length a → Moved place a (i + 1) (set words (i - 1) (get_or words i []))
  moved_next m =
      let w = get_or a i [] in
      let front = without place (take i a) in
      let e : get_or words i [] ≡ w = rw v.places (laid_behind front a i [] (omega (arith, one_fewer)) (omega (arith, one_fewer))) in
      let q : without place (take (i + 1) a) ≡ front ++ (w ∷ []) = rw (one_more a i [] m) (without_append place (take i a) (w ∷ []) its_place) in
      record { behind = omega (arith, v.behind); places = rw (e, q, v.places) (laid_joins front a (i - 1) w one_fewer (omega arith)) }

  pub moved_ends : TakenOut place i a words
  unfolding copies_in
  moved_ends = record { copies = rw (v.places, laid_front (without place (take i a)) a (i - 1) one_fewer) (map_without unpack place (take i a)); words = v.places }

-- ---- Cutting

-- from the two parts of a list
spared_words_append : (link : ℕ) (xs ys : List (List ℕ)) → spared_words link (xs ++ ys) ≡ spared_words link xs ++ spared_words link ys
unfolding spared_words
spared_words_append link [] ys = refl
spared_words_append link (x ∷ xs) ys = go (eqb (unpack x).link link) (spared_words_append link xs ys)
  where
    go : (b : Bool) → spared_words link (xs ++ ys) ≡ spared_words link xs ++ spared_words link ys → cond b (spared_words link (xs ++ ys)) (x ∷ spared_words link (xs ++ ys)) ≡ cond b (spared_words link xs) (x ∷ spared_words link xs) ++ spared_words link ys
    go true e = e
    go false e = ap (λ (l : List (List ℕ)). x ∷ l) e

-- what is left of the first i lies in front, and is so many
pub record Swept (link : ℕ) (a : List (List ℕ)) (i left : ℕ) (words : List (List ℕ)) : Type 0 where
  pub few : left ≤ i
  pub count : length (spared_words link (take i a)) ≡ left
  pub places : words ≡ laid (spared_words link (take i a)) a

pub swept_starts : {link : ℕ} {a : List (List ℕ)} → Swept link a 0 0 a
unfolding laid spared_words
swept_starts = record { few = omega arith; count = refl; places = refl }

module _ {link : ℕ} {a : List (List ℕ)} {i left : ℕ} {words : List (List ℕ)} (v : Swept link a i left words) (l : i < length a) where
  -- the copy next in turn is still where it was
  here : get_or words i [] ≡ get_or a i []
  here = rw v.places (laid_behind (spared_words link (take i a)) a i [] (omega (arith, v.count, v.few)) (omega (arith, v.count, v.few)))

  next : spared_words link (take (i + 1) a) ≡ spared_words link (take i a) ++ spared_words link (get_or words i [] ∷ [])
  next = rw (here, one_more a i [] l) (spared_words_append link (take i a) (get_or a i [] ∷ []))

  pub swept_cut : get_or (get_or words i []) 2 0 % 256 ≡ link → Swept link a (i + 1) left words
  unfolding spared_words unpack
  swept_cut p =
      let q : spared_words link (take (i + 1) a) ≡ spared_words link (take i a) = next ∙ rw (eq-eqb (unpack (get_or words i [])).link link p) (append-nil (spared_words link (take i a))) in
      record { few = omega (arith, v.few); count = rw q v.count; places = rw q v.places }

  pub swept_kept : get_or (get_or words i []) 2 0 % 256 ≢ link → Swept link a (i + 1) (left + 1) (set words left (get_or words i []))
  unfolding spared_words unpack
  swept_kept n =
      let w = get_or words i [] in
      let q : spared_words link (take (i + 1) a) ≡ spared_words link (take i a) ++ (w ∷ []) = next ∙ rw (ne_eqb (unpack w).link link n) in
      record {
        few = omega (arith, v.few);
        count = rw (q, length-append (spared_words link (take i a)) (w ∷ []), v.count);
        places = rw q (ap (λ (r : List (List ℕ)). set r left w) v.places ∙ laid_joins (spared_words link (take i a)) a left w v.count (omega (arith, v.few)));
      }

pub swept_ends : {link : ℕ} {a : List (List ℕ)} {n left : ℕ} {words : List (List ℕ)} → Swept link a n left words → Cut link n a words left
unfolding copies_in
swept_ends {link} {a} {n} {left} v =
    record {
      count = rw (← spared_words_lem link (take n a), length-map (spared_words link (take n a)) unpack) (sym v.count);
      copies = rw (v.places, laid_front (spared_words link (take n a)) a left v.count, spared_words_lem link (take n a));
      words = v.places;
    }

-- ---- Between copies and words

-- the first i copies are packed, and their words carry them
pub record Packed (a : List Copy) (empty : List (List ℕ)) (i : ℕ) (words : List (List ℕ)) : Type 0 where
  pub back : map unpack (map pack (take i a)) ≡ take i a
  pub places : words ≡ laid (map pack (take i a)) empty

pub packed_starts : {a : List Copy} {empty : List (List ℕ)} → Packed a empty 0 empty
unfolding laid
packed_starts = record { back = refl; places = refl }

pub packed_next : {a : List Copy} {empty : List (List ℕ)} {i : ℕ} {words : List (List ℕ)} {w : List ℕ} → Packed a empty i words → i < length a → i < length empty
    → w ≡ pack (get_or a i no_copy) → Ranged (get_or a i no_copy) → Packed a empty (i + 1) (set words i w)
packed_next {a} {empty} {i} {words} v l m e r =
    let c = get_or a i no_copy in
    let t : length (map pack (take i a)) ≡ i = length-map (take i a) pack ∙ length-take-le i a (omega arith) in
    record {
      back = rw (one_more a i no_copy l, map-append, map-append, v.back, unpack_pack r);
      places = rw (e, one_more a i no_copy l, map-append, v.places) (laid_joins (map pack (take i a)) empty i (pack c) t m);
    }

pub packed_ends : {a : List Copy} {n : ℕ} {words : List (List ℕ)} → Packed a (replicate most no_words) n words → n ≤ length a → Worded n a words
unfolding copies_in
packed_ends {a} {n} v h =
    let t : length (map pack (take n a)) ≡ n = length-map (take n a) pack ∙ length-take-le n a h in
    record {
      copies = rw (v.places, laid_front (map pack (take n a)) (replicate most no_words) n t) v.back;
      words = rw v.places (laid_padded (map pack (take n a)) most n no_words t);
    }

-- the first i copies are unpacked
pub record Unpacked (words : List (List ℕ)) (empty : List Copy) (i : ℕ) (copies : List Copy) : Type 0 where
  pub places : copies ≡ laid (copies_in i words) empty

pub unpacked_starts : {words : List (List ℕ)} {empty : List Copy} → Unpacked words empty 0 empty
unfolding copies_in laid
unpacked_starts = record { places = refl }

pub unpacked_next : {words : List (List ℕ)} {empty : List Copy} {i : ℕ} {copies : List Copy} {c : Copy} → Unpacked words empty i copies → i < length words → i < length empty
    → c ≡ unpack (get_or words i []) → Unpacked words empty (i + 1) (set copies i c)
unpacked_next {words} {empty} {i} v l m e =
    record { places = rw (e, copies_next i words l, v.places) (laid_joins (copies_in i words) empty i (unpack (get_or words i [])) (copies_length i words (omega arith)) m) }

pub unpacked_ends : {words : List (List ℕ)} {n : ℕ} {copies : List Copy} (none : Copy) → Unpacked words (replicate most none) n copies → none ≡ no_copy → n ≤ length words
    → copies ≡ copies_in n words ++ replicate (most - n) no_copy
unpacked_ends {words} {n} none v e h = v.places ∙ laid_padded (copies_in n words) most n none (copies_length n words h) ∙ ap (λ (z : Copy). copies_in n words ++ replicate (most - n) z) e
