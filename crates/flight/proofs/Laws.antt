-- Laws of the copies in flight: of a copy in words, of the list, of what joins and leaves it, and of what holds of each copy.
use Prim.Native.Nat.{ℕ, zero, suc, ◌+◌, ◌<◌, ◌≤◌}
use mathlib.Core.Path.{◌≡◌, refl, sym, ap, ◌∙◌}
use mathlib.Core.Logic.{◌⊎◌, ◌≢◌, inl, inr, ⊎_elim}
use mathlib.Core.Bool.{Bool, true, false, cond}
use mathlib.Core.List.Memᴰ
use mathlib.Core.List.{List, [], ◌∷◌, ◌++◌, append_assoc, map, map-append, Memᴰ}
use native.Mathlib.Nat.{le_of_suc-le-suc, not-suc-le-zero}
use native.Mathlib.Numerals.{add-one}
use native.Mathlib.Omega.{arith}
use lib.Dec.{eqb}
use lib.ListN.{length, get_or, take, drop, set, length-append, length-drop, length-map, length-take, get_or-map}
use lib.Seq.{drop-append-le, get_or-take, length-take-le, take-append-le, take-suc-set}
use borrow.Author.Tests.{ne_eqb, eqb-true, eqb-false}
use Rattle.flight.specs.declared.Copy.{Copy}
use Rattle.flight.specs.Flight.{All, Cut, Ranged, copies_in, copy_at, no_copy, pack, spared, spared_words, unpack, without}
use Rattle.flight.proofs.Laid.{one_more}
use Rattle.flight.proofs.Packing.{read_back}

-- ---- A copy in words

-- words carry the copy that they were packed from
pub unpack_pack : {c : Copy} → Ranged c → unpack (pack c) ≡ c
unfolding pack
unpack_pack {c} r = read_back c.link c.header.hc c.header.nonce c.second c.header.l c.header.f r.link r.hc r.nonce c.source c.destination

-- ---- The list

-- it has as many copies as its count says
pub copies_length : (n : ℕ) (words : List (List ℕ)) → n ≤ length words → length (copies_in n words) ≡ n
unfolding copies_in
copies_length n words h = length-map (take n words) unpack ∙ length-take-le n words h

-- the copy at a place is what the words there carry
pub copy_at_is : (n place : ℕ) (words : List (List ℕ)) → place < n → get_or (copies_in n words) place no_copy ≡ copy_at words place
unfolding copies_in unpack
copy_at_is n place words h = get_or-map unpack (take n words) place [] ∙ ap unpack (get_or-take n words place [] h)

-- with the next place it has one more
pub copies_next : (n : ℕ) (words : List (List ℕ)) → n < length words → copies_in (n + 1) words ≡ copies_in n words ++ (copy_at words n ∷ [])
unfolding copies_in
copies_next n words h = rw (one_more words n [] h, map-append)

-- a copy packed into the next place joins it
pub joined : (n : ℕ) (words : List (List ℕ)) {c : Copy} → n < length words → Ranged c → copies_in (n + 1) (set words n (pack c)) ≡ copies_in n words ++ (c ∷ [])
unfolding copies_in
joined n words {c} h r = rw (add-one, take-suc-set words n (pack c) h, map-append, unpack_pack r)

-- ---- One taken out

module _ {A : Type 0} where
  -- one fewer
  pub without_length : (k : ℕ) (xs : List A) → k < length xs → length (without k xs) + 1 ≡ length xs
  unfolding without
  without_length k xs h = simp (length-append, length-take, length-drop) (omega arith)

  -- from the front part of a list
  pub without_append : (k : ℕ) (xs ys : List A) → k < length xs → without k (xs ++ ys) ≡ without k xs ++ ys
  unfolding without
  without_append k xs ys h =
      let l : k ≤ length xs = omega arith in
      let m : k + 1 ≤ length xs = omega arith in
      rw (take-append-le k xs ys l, drop-append-le (k + 1) xs ys m) (sym (append_assoc (take k xs) (drop (k + 1) xs) ys))

  -- the others were there
  pub without_member : {c : A} (k : ℕ) (xs : List A) → Memᴰ c (without k xs) → Memᴰ c xs
  unfolding without
  without_member {c} k xs m = ⊎_elim (λ l. take_member k xs l) (λ r. drop_member (k + 1) xs r) (Memᴰ.append_cases (take k xs) m)
    where
      take_member : (k : ℕ) (xs : List A) → Memᴰ c (take k xs) → Memᴰ c xs
      take_member zero xs m = absurd (Memᴰ.not-nil m)
      take_member (suc k) [] m = m
      take_member (suc k) (x ∷ xs) m = ⊎_elim (λ e. Memᴰ.head e) (λ r. Memᴰ.tail (take_member k xs r)) (Memᴰ.cases_cons m)

      drop_member : (k : ℕ) (xs : List A) → Memᴰ c (drop k xs) → Memᴰ c xs
      drop_member zero xs m = m
      drop_member (suc k) [] m = m
      drop_member (suc k) (x ∷ xs) m = Memᴰ.tail (drop_member k xs m)

-- what stands at a place is a copy of the list
pub at_member : (k : ℕ) (xs : List Copy) → k < length xs → Memᴰ (get_or xs k no_copy) xs
at_member k [] h = absurd (not-suc-le-zero h)
at_member zero (x ∷ xs) h = Memᴰ.head refl
at_member (suc k) (x ∷ xs) h = Memᴰ.tail (at_member k xs (le_of_suc-le-suc h))

-- each copy is the one taken out, or one of the others
pub without_or_at : {c : Copy} (k : ℕ) (xs : List Copy) → Memᴰ c xs → (c ≡ get_or xs k no_copy) ⊎ Memᴰ c (without k xs)
unfolding without
without_or_at {c} k xs m = rw add-one (go k xs m)
  where
    go : (k : ℕ) (xs : List Copy) → Memᴰ c xs → (c ≡ get_or xs k no_copy) ⊎ Memᴰ c (take k xs ++ drop (suc k) xs)
    go k [] m = absurd (Memᴰ.not-nil m)
    go zero (x ∷ xs) m = Memᴰ.cases_cons m
    go (suc k) (x ∷ xs) m = ⊎_elim (λ e. inr (Memᴰ.head e)) (λ r. ⊎_elim (λ e. inl e) (λ n. inr (Memᴰ.tail n)) (go k xs r)) (Memᴰ.cases_cons m)

-- ---- Copies cut

-- of the copies as of their words
pub spared_words_lem : (link : ℕ) (ws : List (List ℕ)) → map unpack (spared_words link ws) ≡ spared link (map unpack ws)
unfolding spared spared_words
spared_words_lem link [] = refl
spared_words_lem link (w ∷ ws) = go (eqb (unpack w).link link) (spared_words_lem link ws)
  where
    go : (b : Bool) → map unpack (spared_words link ws) ≡ spared link (map unpack ws) → map unpack (cond b (spared_words link ws) (w ∷ spared_words link ws)) ≡ cond b (spared link (map unpack ws)) (unpack w ∷ spared link (map unpack ws))
    go true e = e
    go false e = ap (λ (l : List Copy). unpack w ∷ l) e

-- from the two parts of a list
pub spared_append : (link : ℕ) (xs ys : List Copy) → spared link (xs ++ ys) ≡ spared link xs ++ spared link ys
unfolding spared
spared_append link [] ys = refl
spared_append link (x ∷ xs) ys = go (eqb x.link link) (spared_append link xs ys)
  where
    go : (b : Bool) → spared link (xs ++ ys) ≡ spared link xs ++ spared link ys → cond b (spared link (xs ++ ys)) (x ∷ spared link (xs ++ ys)) ≡ cond b (spared link xs) (x ∷ spared link xs) ++ spared link ys
    go true e = e
    go false e = ap (λ (l : List Copy). x ∷ l) e

-- no more than there were
pub spared_length : (link : ℕ) (xs : List Copy) → length (spared link xs) ≤ length xs
unfolding spared
spared_length link [] = omega arith
spared_length link (x ∷ xs) = go (eqb x.link link) (spared_length link xs)
  where
    go : (b : Bool) → length (spared link xs) ≤ length xs → length (cond b (spared link xs) (x ∷ spared link xs)) ≤ suc (length xs)
    go true h = omega arith
    go false h = omega arith

-- so a cut leaves at most as many as it found
pub cut_left : {link n left : ℕ} {before after : List (List ℕ)} → Cut link n before after left → n ≤ length before → left ≤ n
cut_left {link} {n} {left} {before} v h = omega (arith, v.count, spared_length link (copies_in n before), copies_length n before h)

module _ {c : Copy} (link : ℕ) where
  -- a copy left was there, and is on another link
  pub spared_member : (xs : List Copy) → Memᴰ c (spared link xs) → Memᴰ c xs × (c.link ≢ link)
  unfolding spared
  spared_member [] m = absurd (Memᴰ.not-nil m)
  spared_member (x ∷ xs) m = go (eqb x.link link) refl (λ r. spared_member xs r) m
    where
      go : (b : Bool) → eqb x.link link ≡ b → (Memᴰ c (spared link xs) → Memᴰ c xs × (c.link ≢ link)) → Memᴰ c (cond b (spared link xs) (x ∷ spared link xs)) → Memᴰ c (x ∷ xs) × (c.link ≢ link)
      go true e ih m = (Memᴰ.tail (ih m).0, (ih m).1)
      go false e ih m = ⊎_elim (λ q. (Memᴰ.head q, λ p. eqb-false x.link link e (ap (λ (d : Copy). d.link) (sym q) ∙ p))) (λ r. (Memᴰ.tail (ih r).0, (ih r).1)) (Memᴰ.cases_cons m)

  -- a copy on another link is left
  pub spared_keeps : (xs : List Copy) → Memᴰ c xs → c.link ≢ link → Memᴰ c (spared link xs)
  unfolding spared
  spared_keeps [] m n = m
  spared_keeps (x ∷ xs) m n = go (eqb x.link link) refl (λ r. spared_keeps xs r n) (Memᴰ.cases_cons m)
    where
      go : (b : Bool) → eqb x.link link ≡ b → (Memᴰ c xs → Memᴰ c (spared link xs)) → (c ≡ x) ⊎ Memᴰ c xs → Memᴰ c (cond b (spared link xs) (x ∷ spared link xs))
      go true e ih (inl q) = absurd (n (ap (λ (d : Copy). d.link) q ∙ eqb-true x.link link e))
      go true e ih (inr r) = ih r
      go false e ih (inl q) = Memᴰ.head q
      go false e ih (inr r) = Memᴰ.tail (ih r)

-- ---- What holds of each copy

module _ {P : Copy → Type 0} where
  -- of each of none
  pub all_none : All P []
  all_none = record { each = λ c m. absurd (Memᴰ.not-nil m) }

  -- of one
  pub all_one : {c : Copy} → P c → All P (c ∷ [])
  all_one p = record { each = λ b m. rw (Memᴰ.eq_of_singleton m) p }

  -- of two lists
  pub all_append : {xs ys : List Copy} → All P xs → All P ys → All P (xs ++ ys)
  all_append {xs} h k = record { each = λ c m. ⊎_elim (λ l. h.each c l) (λ r. k.each c r) (Memᴰ.append_cases xs m) }

  -- of the one at a place
  pub all_at : {xs : List Copy} → All P xs → (k : ℕ) → k < length xs → P (get_or xs k no_copy)
  all_at {xs} h k l = h.each (get_or xs k no_copy) (at_member k xs l)

  -- of each, where it holds at each place
  pub all_places : (xs : List Copy) → ((k : ℕ) → k < length xs → P (get_or xs k no_copy)) → All P xs
  all_places [] h = all_none
  all_places (x ∷ xs) h = all_append (all_one (h 0 (omega arith))) (all_places xs (λ k l. h (suc k) (omega arith)))

  -- of the others, when one is taken out
  pub all_without : {xs : List Copy} → All P xs → (k : ℕ) → All P (without k xs)
  all_without {xs} h k = record { each = λ c m. h.each c (without_member k xs m) }

  -- of those left, when some are cut
  pub all_spared : {xs : List Copy} → All P xs → (link : ℕ) → All P (spared link xs)
  all_spared {xs} h link = record { each = λ c m. h.each c (spared_member link xs m).0 }

-- the copies left are all on other links
pub spared_off : (link : ℕ) (xs : List Copy) → All (λ c. c.link ≢ link) (spared link xs)
spared_off link xs = record { each = λ c m. (spared_member link xs m).1 }

-- where none is on the link, all are left
pub spared_all : (link : ℕ) {xs : List Copy} → All (λ c. c.link ≢ link) xs → spared link xs ≡ xs
unfolding spared
spared_all link {xs} h = go xs h.each
  where
    go : (xs : List Copy) → ((c : Copy) → Memᴰ c xs → c.link ≢ link) → spared link xs ≡ xs
    go [] h = refl
    go (x ∷ xs) h = rw (ne_eqb x.link link (h x (Memᴰ.head refl))) (ap (λ (l : List Copy). x ∷ l) (go xs (λ c m. h c (Memᴰ.tail m))))
