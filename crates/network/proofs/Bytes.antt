-- One record there and back: what is encoded starts with that record, and what starts with a record is its bytes.
use Prim.Native.Nat.{ℕ, zero, suc, ◌+◌, ◌-◌, ◌^◌, ◌<◌, ◌≤◌}
use mathlib.Core.Path.{◌≡◌, refl, sym, ap, ◌∙◌}
use mathlib.Core.Bool.{Bool, true, false, cond, not, ◌||◌, true≢false}
use mathlib.Core.List.{List, [], ◌∷◌, ◌++◌}
use native.Mathlib.Nat.{mod-eq_of_lt}
use native.Mathlib.Omega.{arith}
use lib.ListN.{length, get_or, take, drop, take-append-drop, length-append, length-take, length-drop}
use lib.Seq.{drop-cons, take-add}
use lib.Dec.{eqb, ltb}
use borrow.Author.Tests.{le-ltb, eq-eqb, ne_eqb, eqb-true, eqb-false, ltb-false, not-false}
use Rattle.wire.specs.Wire.{number, bytes_of, part, AreBytes}
use Rattle.wire.proofs.Laws.{written_back, read_back}
use Rattle.network.specs.declared.Record.{Record}
use Rattle.network.specs.declared.Record.TheVariants.{Switch as OfSwitch, Host as OfHost, Link as OfLink}
use Rattle.std.specs.Prelude.{Ok, Err, Option, Some, None}
use Rattle.refusal.specs.declared.Refusal.{Refusal}
use Rattle.refusal.specs.declared.Refusal.TheVariants.{BadRecord as Bad}
use Rattle.network.specs.Format.{Start, kind_of, length_of, is_event, body_of, encode, record_of, length_in, kind_in, body_in, headless, misfit, start_of}

-- neither of two tests holds
pub neither : (a b : Bool) → a || b ≡ false → (a ≡ false) × (b ≡ false)
neither true b h = absurd (true≢false h)
neither false b h = (refl, h)

-- what holds of each length holds of the length of every kind
each_length : (P : ℕ → Type 0) → P 7 → P 9 → P 5 → P 0 → (kind : ℕ) → P (length_of kind)
unfolding length_of
each_length P seven nine five none kind = by_kind (eqb kind 1) (eqb kind 2) (eqb kind 3)
  where
    by_kind : (a b c : Bool) → P (cond a 7 (cond b 9 (cond c 5 0)))
    by_kind true b c = seven
    by_kind false true c = nine
    by_kind false false true = five
    by_kind false false false = none

length_least : (kind : ℕ) → (length_of kind ≡ 0 → ⊥) → 5 ≤ length_of kind
length_least = each_length (λ long. (long ≡ 0 → ⊥) → 5 ≤ long) (λ h. omega arith) (λ h. omega arith) (λ h. omega arith) (λ h. absurd (h refl))

length_most : (kind : ℕ) → length_of kind ≤ 9
length_most = each_length (λ long. long ≤ 9) (omega arith) (omega arith) (omega arith) (omega arith)

-- the bytes of a record that starts here are all there
pub record Whole (b : List ℕ) : Type 0 where
  pub head : 3 ≤ length b
  pub some : length_in b ≡ 0 → ⊥
  pub sized : length_in b ≡ length_of (kind_in b)
  pub room : length_in b + 2 ≤ length b

pub whole : (b : List ℕ) → headless b ≡ false → misfit b ≡ false → Whole b
unfolding headless misfit
whole b h m =
    let p = neither (ltb (length b) 3) (eqb (length_in b) 0) h in
    let q = neither (not (eqb (length_in b) (length_of (kind_in b)))) (ltb (length b) (length_in b + 2)) m in
    record {
      head = ltb-false _ _ p.0;
      some = eqb-false _ _ p.1;
      sized = eqb-true _ _ (not-false _ q.0);
      room = ltb-false _ _ q.1;
    }

-- what starts with a record
pub record Starts (b : List ℕ) (r : Record) : Type 0 where
  pub whole : Whole b
  pub is : r ≡ record_of (kind_in b) (body_in b)

pub starts : (b : List ℕ) (r : Record) → start_of b ≡ Ok (Some r) → Starts b r
unfolding start_of
starts b r e = by_tests (eqb (length b) 0) (headless b) (is_event (kind_in b)) (misfit b) refl refl e
  where
    other : (x : Start) → x ≡ Ok None → x ≡ Ok (Some r) → ⊥
    other x p q = let z : ◌≡◌ {A = ℕ} 0 1 = cc in omega arith

    worse : (x : Start) → x ≡ Err Bad → x ≡ Ok (Some r) → ⊥
    worse x p q = let z : ◌≡◌ {A = ℕ} 0 1 = cc in omega arith

    same : {x : Record} → ◌≡◌ {A = Start} (Ok (Some x)) (Ok (Some r)) → r ≡ x
    same q = cc

    by_tests : (none head event fit : Bool) → headless b ≡ head → misfit b ≡ fit
        → cond none (Ok None) (cond head (Err Bad) (cond event (Ok None) (cond fit (Err Bad) (Ok (Some (record_of (kind_in b) (body_in b))))))) ≡ Ok (Some r)
        → Starts b r
    by_tests true head event fit h m q = absurd (other (Ok None) refl q)
    by_tests false true event fit h m q = absurd (worse (Err Bad) refl q)
    by_tests false false true fit h m q = absurd (other (Ok None) refl q)
    by_tests false false false true h m q = absurd (worse (Err Bad) refl q)
    by_tests false false false false h m q = record { whole = whole b h m; is = same q }

-- what starts with no record is a bad one
pub none_is : (b : List ℕ) (f : Refusal) → start_of b ≡ Err f → f ≡ Bad
unfolding start_of
none_is b f e = by_tests (eqb (length b) 0) (headless b) (is_event (kind_in b)) (misfit b) e
  where
    none : (x : Option Record) → ◌≡◌ {A = Start} (Ok x) (Err f) → ⊥
    none x q = let z : ◌≡◌ {A = ℕ} 0 1 = cc in omega arith

    same : ◌≡◌ {A = Start} (Err Bad) (Err f) → f ≡ Bad
    same q = cc

    by_tests : (none_left head event fit : Bool)
        → cond none_left (Ok None) (cond head (Err Bad) (cond event (Ok None) (cond fit (Err Bad) (Ok (Some (record_of (kind_in b) (body_in b))))))) ≡ Err f → f ≡ Bad
    by_tests true head event fit q = absurd (none _ q)
    by_tests false true event fit q = same q
    by_tests false false true fit q = absurd (none _ q)
    by_tests false false false true q = same q
    by_tests false false false false q = absurd (none _ q)

pub whole_starts : (b : List ℕ) → Whole b → is_event (kind_in b) ≡ false → start_of b ≡ Ok (Some (record_of (kind_in b) (body_in b)))
unfolding start_of headless misfit
whole_starts b v e =
    rw (
      ne_eqb (length b) 0 (λ z. omega arith),
      le-ltb (length b) 3 v.head,
      ne_eqb (length_in b) 0 v.some,
      e,
      eq-eqb (length_in b) (length_of (kind_in b)) v.sized,
      le-ltb (length b) (length_in b + 2) v.room,
    )

-- a record takes what its length counts, and the length itself
pub encode_long : (r : Record) → length (encode r) ≡ length_of (kind_of r) + 2
unfolding encode body_of kind_of length_of
encode_long (OfSwitch s) = refl
encode_long (OfHost h) = refl
encode_long (OfLink l) = refl

pub encode_least : (r : Record) → 7 ≤ length (encode r)
unfolding encode body_of kind_of length_of
encode_least (OfSwitch s) = omega arith
encode_least (OfHost h) = omega arith
encode_least (OfLink l) = omega arith

-- the kinds that have a length
known : (P : ℕ → Type 0) → P 1 → P 2 → P 3 → (kind : ℕ) → (length_of kind ≡ 0 → ⊥) → P kind
unfolding length_of
known P one two three kind h = by_kind (eqb kind 1) (eqb kind 2) (eqb kind 3) refl refl refl h
  where
    by_kind : (a b c : Bool) → eqb kind 1 ≡ a → eqb kind 2 ≡ b → eqb kind 3 ≡ c → (◌≡◌ {A = ℕ} (cond a 7 (cond b 9 (cond c 5 0))) 0 → ⊥) → P kind
    by_kind true b c p q r h = rw (eqb-true kind 1 p) one
    by_kind false true c p q r h = rw (eqb-true kind 2 q) two
    by_kind false false true p q r h = rw (eqb-true kind 3 r) three
    by_kind false false false p q r h = absurd (h refl)

kind_back : (body : List ℕ) (kind : ℕ) → (length_of kind ≡ 0 → ⊥) → kind_of (record_of kind body) ≡ kind
unfolding record_of kind_of
kind_back body = known (λ kind. kind_of (record_of kind body) ≡ kind) refl refl refl

-- a record that starts here lies within the bytes
pub starts_room : (b : List ℕ) (r : Record) → start_of b ≡ Ok (Some r) → length (encode r) ≤ length b
starts_room b r e =
    let v = starts b r e in
    let kind : kind_of r ≡ kind_in b = ap kind_of v.is ∙ kind_back (body_in b) (kind_in b) (λ z. v.whole.some (v.whole.sized ∙ z)) in
    omega (arith, encode_long r, ap length_of kind, v.whole.sized, v.whole.room)

-- the numbers that take more than a byte fit theirs
abbrev pub Fits : Record → Type 0
Fits (OfSwitch s) = s.salt < 2 ^ 32
Fits (OfHost h) = h.address < 2 ^ 48
Fits (OfLink l) = Unit {0}

small_back : (k n : ℕ) → n < 256 ^ k → number (bytes_of k n) ≡ n
small_back k n h = written_back k n ∙ mod-eq_of_lt h

-- a body reads back as its record, whatever stands behind it
body_there : (r : Record) (t : List ℕ) → Fits r → record_of (kind_of r) (body_of r ++ t) ≡ r
unfolding kind_of body_of record_of
body_there (OfSwitch s) t h = rw (small_back 4 s.salt h)
body_there (OfHost s) t h = rw (small_back 6 s.address h)
body_there (OfLink l) t h = refl

no_event : (r : Record) → is_event (kind_of r) ≡ false
unfolding kind_of is_event
no_event (OfSwitch s) = refl
no_event (OfHost h) = refl
no_event (OfLink l) = refl

encoded : (r : Record) (t : List ℕ) → Whole (encode r ++ t)
unfolding encode
encoded r t =
    let long : length_in (encode r ++ t) ≡ length_of (kind_of r) = small_back 2 (length_of (kind_of r)) (omega (arith, length_most (kind_of r))) in
    let all = length-append (encode r) t in
    record {
      head = omega (arith, encode_least r);
      some = λ z. omega (arith, encode_long r, encode_least r);
      sized = long;
      room = omega (arith, encode_long r);
    }

-- a record's bytes start with that record, whatever stands behind them
pub there : (r : Record) (t : List ℕ) → Fits r → start_of (encode r ++ t) ≡ Ok (Some r)
unfolding encode
there r t h = whole_starts (encode r ++ t) (encoded r t) (no_event r) ∙ ap (λ x. Ok (Some x)) (body_there r t h)

-- parts of bytes are bytes
pub bytes_drop : (k : ℕ) (l : List ℕ) → AreBytes l → AreBytes (drop k l)
bytes_drop zero l h = h
bytes_drop (suc k) [] h = h
bytes_drop (suc k) (x ∷ l) h = bytes_drop k l h.1

bytes_take : (k : ℕ) (l : List ℕ) → AreBytes l → AreBytes (take k l)
bytes_take zero l h = tt
bytes_take (suc k) [] h = tt
bytes_take (suc k) (x ∷ l) h = (h.0, bytes_take k l h.1)

-- a number that was read is written as the bytes that it was read from
part_back : (at k : ℕ) (l : List ℕ) → AreBytes l → at + k ≤ length l → bytes_of k (number (part at k l)) ≡ part at k l
part_back at k l h room =
    let long : length (part at k l) ≡ k = simp (length-take, length-drop) (omega arith) in
    ap (λ m. bytes_of m (number (part at k l))) (sym long) ∙ read_back (part at k l) (bytes_take k (drop at l) (bytes_drop at l h))

next_byte : (at k : ℕ) (l : List ℕ) → at < length l → part at (suc k) l ≡ get_or l at 0 ∷ part (suc at) k l
next_byte at k l h = rw (drop-cons l at 0 h)

-- two bytes and a number
number_behind : (k : ℕ) (body : List ℕ) → AreBytes body → 2 + k ≤ length body → get_or body 0 0 ∷ get_or body 1 0 ∷ bytes_of k (number (part 2 k body)) ≡ take (suc (suc k)) body
number_behind k body h room =
    sym (next_byte 0 (suc k) body (omega arith)
    ∙ ap (λ l. get_or body 0 0 ∷ l) (next_byte 1 k body (omega arith))
    ∙ ap (λ l. get_or body 0 0 ∷ get_or body 1 0 ∷ l) (sym (part_back 2 k body h room)))

four_bytes : (body : List ℕ) → 4 ≤ length body → get_or body 0 0 ∷ get_or body 1 0 ∷ get_or body 2 0 ∷ get_or body 3 0 ∷ [] ≡ take 4 body
four_bytes body room =
    sym (next_byte 0 3 body (omega arith)
    ∙ ap (λ l. get_or body 0 0 ∷ l) (next_byte 1 2 body (omega arith))
    ∙ ap (λ l. get_or body 0 0 ∷ get_or body 1 0 ∷ l) (next_byte 2 1 body (omega arith))
    ∙ ap (λ l. get_or body 0 0 ∷ get_or body 1 0 ∷ get_or body 2 0 ∷ l) (next_byte 3 0 body (omega arith)))

-- a body that was read is written as it was
body_back : (body : List ℕ) → AreBytes body → (kind : ℕ) → (length_of kind ≡ 0 → ⊥) → length_of kind ≤ length body + 1
    → body_of (record_of kind body) ≡ take (length_of kind - 1) body
unfolding record_of body_of length_of
body_back body h =
    known (λ kind. length_of kind ≤ length body + 1 → body_of (record_of kind body) ≡ take (length_of kind - 1) body)
    (λ room. number_behind 4 body h (omega arith))
    (λ room. number_behind 6 body h (omega arith))
    (λ room. four_bytes body (omega arith))

-- what starts with a record is that record's bytes
pub back : (b : List ℕ) (r : Record) → AreBytes b → start_of b ≡ Ok (Some r) → encode r ++ drop (length (encode r)) b ≡ b
unfolding encode
back b r h e =
    let v = starts b r e in
    let k = kind_in b in
    let some : length_of k ≡ 0 → ⊥ = λ z. v.whole.some (v.whole.sized ∙ z) in
    let kind : kind_of r ≡ k = ap kind_of v.is ∙ kind_back (body_in b) k some in
    let m = length_of k - 1 in
    let body : body_of r ≡ take m (drop 3 b) =
    ap body_of v.is ∙ body_back (drop 3 b) (bytes_drop 3 b h) k some (omega (arith, v.whole.room, v.whole.sized, length-drop 3 b)) in
    let long : length (encode r) ≡ 2 + suc m = omega (arith, encode_long r, ap length_of kind, length_least k some) in
    let front : bytes_of 2 (length_of (kind_of r)) ≡ take 2 b =
    ap (λ x. bytes_of 2 (length_of x)) kind ∙ ap (bytes_of 2) (sym v.whole.sized) ∙ part_back 0 2 b h (omega (arith, v.whole.head)) in
    let same : encode r ≡ take (2 + suc m) b =
    ap (λ l. l ++ (kind_of r ∷ body_of r)) front
    ∙ ap (λ l. take 2 b ++ l) (ap (λ x. x ∷ body_of r) kind ∙ ap (λ l. k ∷ l) body ∙ sym (next_byte 2 m b (omega (arith, v.whole.head))))
    ∙ sym (take-add 2 (suc m) b) in
    ap (λ l. l ++ drop (length (encode r)) b) same ∙ ap (λ k. take (2 + suc m) b ++ drop k b) long ∙ take-append-drop (2 + suc m) b
