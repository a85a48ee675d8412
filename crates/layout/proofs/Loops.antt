-- The loops' invariants, each a record over the values at the loop's head, with the laws that start it, carry it on and end it.
use Prim.Native.Nat.{ℕ, zero, suc, ◌+◌, ◌*◌, ◌<◌, ◌≤◌}
use mathlib.Core.Path.{◌≡◌, refl, sym, ap, ◌∙◌}
use mathlib.Core.List.{List, [], ◌∷◌, ◌++◌, map, flat_map, append_assoc, append-nil}
use native.Mathlib.Nat.{mul-suc, mul-zero}
use borrow.Author.Count.{below_more}
use denote.Param.Members.{Mut, Called}
use mathlib.Core.Logic.{by_cases}
use native.Mathlib.Decide.{ℕ_discrete}
use Rattle.std.specs.Array.{IsFromFnResult, IsFromFnResultFrom}
use native.Mathlib.Omega.{arith}
use native.Mathlib.Numerals.{add-one}
use lib.ListN.{get_or, length, take, drop, set, length-append, length-drop, length-take, drop_of_length-le}
use lib.Seq.{append_snoc, paste-zero, set_split, take_all, take-suc}
use Rattle.wire.specs.Wire.{put}
use Rattle.wire.proofs.Laws.{put_put}
use Rattle.seat.specs.declared.Seat.{Seat}
use Rattle.layout.specs.Layout.{listed}
use Rattle.layout.proofs.Laws.{listed_all, listed_same, same_there}

-- what the code reads behind an array of heads: nothing but zeros, and no slot or cell
abbrev pub blank : Seat
blank =
    record {
      switch = record { setup = record { ports = 0; live = 0; host = 0; limit = 0; salt = 0 }; nonce = 0; table = record { addresses = []; ports = []; hops = [] } };
      cells = [];
    }

-- ---- Laying: numbers put into a buffer, one behind the other

pub record Laying (start : List ℕ) (at : ℕ) (ws buffer : List ℕ) : Type 0 where
  pub so_far : buffer ≡ put start at ws
  pub long : length buffer ≡ length start

module _ {start : List ℕ} {at : ℕ} where
  pub laying_starts : Laying start at [] start
  laying_starts = record { so_far = paste-zero start at []; long = refl }

  pub laying_next : {ws buffer after : List ℕ} {next : ℕ} (vs : List ℕ) → Laying start at ws buffer → next ≡ at + length ws → next + length vs ≤ length start
      → after ≡ put buffer next vs → Laying start at (ws ++ vs) after
  laying_next {ws} {buffer} {after} {next} vs r e room q =
      let whole : after ≡ put start at (ws ++ vs) = q ∙ rw (e, r.so_far) (put_put start at ws vs (omega arith)) in
      let joined : length (ws ++ vs) ≡ length ws + length vs = length-append ws vs in
      record { so_far = whole; long = rw whole (simp (length-append, length-take, length-drop) (omega arith)) }

-- one number stored is put
pub set_put : (l : List ℕ) (at v : ℕ) → at < length l → set l at v ≡ put l at (v ∷ [])
set_put l at v h = set_split l at v h ∙ rw add-one (sym (append_snoc (take at l) v (drop (suc at) l)))

-- an array that numbers fill wholly
pub laid_whole : {start ws buffer : List ℕ} → Laying start 0 ws buffer → length ws ≡ length start → buffer ≡ ws
laid_whole {start} {ws} r e =
    let none : drop (0 + length ws) start ≡ [] = drop_of_length-le start {i = 0 + length ws} (omega arith) in
    r.so_far ∙ rw none (append-nil ws)

-- ---- Laying the values of an array, each as w numbers

pub flat_append : {A : Type 0} (f : A → List ℕ) (xs ys : List A) → flat_map f (xs ++ ys) ≡ flat_map f xs ++ flat_map f ys
unfolding flat_map
flat_append f [] ys = refl
flat_append f (x ∷ xs) ys = rw (flat_append f xs ys) (sym (append_assoc (f x) (flat_map f xs) (flat_map f ys)))

pub record Rows {A : Type 0} (f : A → List ℕ) (w : ℕ) (d : A) (xs : List A) (start : List ℕ) (at i : ℕ) (buffer : List ℕ) : Type 0 where
  pub laying : Laying start at (flat_map f (take i xs)) buffer
  pub wide : length (flat_map f (take i xs)) ≡ w * i
  pub even : (k : ℕ) → k < i → length (f (get_or xs k d)) ≡ w

module _ {A : Type 0} {f : A → List ℕ} {w : ℕ} {d : A} {xs : List A} {start : List ℕ} {at : ℕ} where
  pub rows_start : Rows f w d xs start at 0 start
  unfolding flat_map
  rows_start = record { laying = laying_starts; wide = sym (mul-zero w); even = λ k h. absurd (omega arith) }

  -- e is what stands for places that there are not, in the code as in the definition
  pub rows_next : {i next : ℕ} {buffer after : List ℕ} (e : A) (row : List ℕ) → Rows f w d xs start at i buffer → i < length xs → next ≡ at + w * i
      → row ≡ f (get_or xs i e) → length row ≡ w → next + w ≤ length start → after ≡ put buffer next row → Rows f w d xs start at (i + 1) after
  unfolding flat_map
  rows_next {i} {next} {buffer} {after} e row r h place q long room p =
      let same : row ≡ f (get_or xs i d) = q ∙ ap f (same_there xs i e d h) in
      let more : flat_map f (take (i + 1) xs) ≡ flat_map f (take i xs) ++ row =
      rw (add-one, take-suc xs i d h, flat_append f (take i xs) (get_or xs i d ∷ []), ← same, append-nil) in
      record {
        laying = rw more (laying_next {next = next} row r.laying (rw r.wide place) (rw long room) p);
        wide = rw (more, length-append, r.wide, long, add-one) (sym (mul-suc w i));
        even = below_more _ i r.even (sym (ap length same) ∙ long);
      }

  pub rows_end : {i : ℕ} {buffer : List ℕ} → Rows f w d xs start at i buffer → length xs ≤ i → Laying start at (flat_map f xs) buffer
  rows_end {i} {buffer} r h = rw (take_all i xs h) at r.laying

-- ---- The same for one number each

pub flat_map_lem : {A : Type 0} (g : A → ℕ) (xs : List A) → flat_map (λ x. g x ∷ []) xs ≡ map g xs
unfolding flat_map
flat_map_lem g [] = refl
flat_map_lem g (x ∷ xs) = ap (λ l. g x ∷ l) (flat_map_lem g xs)

abbrev pub Column : {A : Type 0} → (A → ℕ) → A → List A → List ℕ → ℕ → ℕ → List ℕ → Type 0
Column g = Rows (λ x. g x ∷ []) 1

module _ {A : Type 0} {g : A → ℕ} {d : A} {xs : List A} {start : List ℕ} {at : ℕ} where
  pub column_next : {i next v : ℕ} {buffer : List ℕ} (e : A) → Rows (λ x. g x ∷ []) 1 d xs start at i buffer → i < length xs → next ≡ at + i
      → v ≡ g (get_or xs i e) → next < length start → Rows (λ x. g x ∷ []) 1 d xs start at (i + 1) (set buffer next v)
  column_next {i} {next} {v} {buffer} e r h place q room =
      let inside : next < length buffer = omega (arith, r.laying.long) in
      rows_next {next = next} e (v ∷ []) r h (omega arith) (ap (λ x. x ∷ []) q) refl (omega arith)
      (set_put buffer next v inside)

  pub column_end : {i : ℕ} {buffer : List ℕ} → Rows (λ x. g x ∷ []) 1 d xs start at i buffer → length xs ≤ i → Laying start at (map g xs) buffer
  column_end r h = rw (flat_map_lem g xs) at (rows_end r h)

-- ---- An array made of what a function without a state gives at each number

module _ {F B : Type 0} (g : Mut F (ℕ × Unit {0}) B) {f : F} (v : ℕ → B) (ys : List B) (d : B) where
  made_from : (n i : ℕ) → IsFromFnResultFrom g f ys i n → ((k : ℕ) (y : B) (q : F) → k < i + n → Called g f (k, tt) y q → (q ≡ f) × (y ≡ v k))
      → (j : ℕ) → i ≤ j → j < i + n → get_or ys j d ≡ v j
  made_from zero i r pure j low high = absurd (omega arith)
  made_from (suc n) i (q, y, at, call, rest) pure j low high =
      let here = pure i y q (omega arith) call in
      by_cases (ℕ_discrete j i) (λ e. rw e (at.1 d ∙ here.1))
      (λ e. made_from n (i + 1) (rw here.0 at rest) (λ k z p h. pure k z p (omega arith)) j (omega arith) (omega arith))

pub made : {F B : Type 0} (g : Mut F (ℕ × Unit {0}) B) {f : F} (v : ℕ → B) {ys : List B} {n : ℕ} → IsFromFnResult g f ys n
    → ((k : ℕ) (y : B) (q : F) → k < n → Called g f (k, tt) y q → (q ≡ f) × (y ≡ v k)) → ys ≡ listed n v
made g v {ys} {n} r pure =
    sym (listed_all ys n (v 0) r.long)
    ∙ listed_same n (λ i. get_or ys i (v 0)) v (λ j h. made_from g v ys (v 0) n 0 r.each (λ k y q l. pure k y q (omega arith)) j (omega arith) (omega arith))
