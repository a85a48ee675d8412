-- Laws of numbers as bytes, and of bytes put into a buffer.
use Prim.Native.Nat.{ℕ, zero, suc, ◌+◌, ◌*◌, ◌/◌, ◌%◌, ◌^◌, ◌≤◌, ◌<◌}
use mathlib.Core.Path.{◌≡◌, refl, ap, ◌∙◌}
use mathlib.Core.List.{List, [], ◌∷◌, ◌++◌, append_assoc}
use Rattle.std.proofs.lemmas.List.{take_more}
use native.Mathlib.Numerals.{add-one}
use native.Mathlib.Nat.{pow-suc, pow-le-pow_right, one-le-pow, mul_assoc, mul_comm, add-mul, add_assoc, zero-add}
use native.Mathlib.Omega.{arith}
use lib.ListN.{length, get_or, take, drop, length-append, length-take, length-drop}
use lib.Seq.{take_at, drop_at, drop-drop}
use mathlib.Core.Bool.{true, not, ◌&&◌, and-eq-true_iff}
use mathlib.Core.Logic.{◌↔◌}
use lib.Dec.{eqb, ltb}
use borrow.Author.Tests.{le-leb, lt-leb, lt-ltb, eq-eqb, ne_eqb, ltb-true, eqb-true, eqb-false, not-true}
use lib.Arith.{digits_lt, digits_div, mod-mul}
use Rattle.wire.specs.Address.{group_bit, Source, is_source}
use Rattle.wire.specs.Wire.{number, number_after, bytes_of, part, put, put_in, AreBytes}

pub bytes_long : (k n : ℕ) → length (bytes_of k n) ≡ k
bytes_long zero n = refl
bytes_long (suc k) n = ap suc (bytes_long k n)

pow_above : (k : ℕ) → 0 < 256 ^ k
pow_above k = one-le-pow k 256 (omega arith)

regroup : (a b p : ℕ) → (a * 256 + b) * p ≡ a * (p * 256) + b * p
regroup a b p = add-mul (a * 256) b p ∙ ap (λ x. x + b * p) (mul_assoc a 256 p ∙ ap (λ x. a * x) (mul_comm 256 p))

-- a number in front counts 256 times for each byte behind it
after_is : (a : ℕ) (bs : List ℕ) → number_after a bs ≡ a * 256 ^ length bs + number_after 0 bs
unfolding number_after
after_is a [] = omega arith
after_is a (b ∷ bs) =
    after_is (a * 256 + b) bs
    ∙ rw (pow-suc, after_is (0 + b) bs, regroup, zero-add) (omega arith)

-- so many bytes write a number so small
pub number_small : (bs : List ℕ) → AreBytes bs → number bs < 256 ^ length bs
unfolding number number_after
number_small [] h = omega arith
number_small (b ∷ bs) h = rw (after_is (0 + b) bs, zero-add, pow-suc, mul_comm (256 ^ length bs) 256) (digits_lt h.0 (number_small bs h.1))

after_written : (a k n : ℕ) → number_after a (bytes_of k n) ≡ a * 256 ^ k + n % 256 ^ k
unfolding number_after
after_written a zero n = omega arith
after_written a (suc k) n =
    after_written (a * 256 + n / 256 ^ k % 256) k n
    ∙ rw (pow-suc, regroup, mul_comm (256 ^ k) 256, mod-mul n {m = 256} (omega arith) (pow_above k)) (omega arith)

-- reading back what was written
pub written_back : (k n : ℕ) → number (bytes_of k n) ≡ n % 256 ^ k
unfolding number
written_back k n = after_written 0 k n ∙ omega arith

read_behind : (a : ℕ) (bs : List ℕ) → AreBytes bs → bytes_of (length bs) (number_after a bs) ≡ bs
unfolding number_after number
read_behind a [] h = refl
read_behind a (b ∷ bs) h =
    let small : number_after 0 bs < 256 ^ length bs = number_small bs h.1 in
    let top : number_after (a * 256 + b) bs / 256 ^ length bs ≡ a * 256 + b = rw (after_is (a * 256 + b) bs) (digits_div (a * 256 + b) small) in
    let low : (a * 256 + b) % 256 ≡ b = omega arith in
    rw (top, low, read_behind (a * 256 + b) bs h.1)

-- writing again what was read
pub read_back : (bs : List ℕ) → AreBytes bs → bytes_of (length bs) (number bs) ≡ bs
unfolding number
read_back bs h = read_behind 0 bs h

-- a number is read on where the bytes go on
pub after_append : (m : ℕ) (a b : List ℕ) → number_after m (a ++ b) ≡ number_after (number_after m a) b
unfolding number_after
after_append m [] b = refl
after_append m (x ∷ xs) b = after_append (m * 256 + x) xs b

-- one byte more
pub number_next : (l : List ℕ) (i : ℕ) → i < length l → number (take (i + 1) l) ≡ number (take i l) * 256 + get_or l i 0
unfolding number number_after
number_next l i h = rw (take_more l i 0 h, after_append)

-- a number with one byte more is so small, and eight bytes fit a word
pub next_small : (n i b : ℕ) → n < 256 ^ i → b < 256 → n * 256 + b < 256 ^ (i + 1)
next_small n i b h small = rw (add-one, pow-suc) (digits_lt h small)

pub next_fits : (n i b : ℕ) → n < 256 ^ i → i < 8 → b < 256 → n * 256 + b < 2 ^ 64
next_fits n i b h few small =
    let most : 256 ^ (i + 1) ≤ 256 ^ 8 = pow-le-pow_right {n = 256} (omega arith) {i = i + 1} {j = 8} (omega arith) in
    omega (arith, next_small n i b h small)

-- one byte's number is the byte
pub number_one : (l : List ℕ) (at : ℕ) → number (part at 1 l) ≡ get_or l at 0
unfolding number number_after
number_one [] zero = refl
number_one [] (suc at) = refl
number_one (b ∷ l) zero = omega arith
number_one (b ∷ l) (suc at) = number_one l at

-- bytes put one behind the other are put at once
pub put_put : (l : List ℕ) (at : ℕ) (a b : List ℕ) → at + (length a + length b) ≤ length l → put (put l at a) (at + length a) b ≡ put l at (a ++ b)
put_put l at a b room =
    let head : length (take at l ++ a) ≡ at + length a = simp (length-append, length-take) (omega arith) in
    rw (
      take_at (take at l ++ a) (drop (at + length a) l) (at + length a) head,
      ← drop-drop (length b) (at + length a) (put l at a),
      drop_at (take at l ++ a) (drop (at + length a) l) (at + length a) head,
      drop-drop,
      length-append,
      ← append_assoc (take at l) a b,
      add_assoc,
    )

-- bytes that fit are put
pub put_fits : (l : List ℕ) (at : ℕ) (bs : List ℕ) → at + length bs ≤ length l → put_in l at bs ≡ put l at bs
unfolding put_in
put_fits l at bs room = rw (le-leb (at + length bs) (length l) room)

-- and those that don't are not
pub put_not : (l : List ℕ) (at : ℕ) (bs : List ℕ) → length l < at + length bs → l ≡ put_in l at bs
unfolding put_in
put_not l at bs over = rw (lt-leb (at + length bs) (length l) over)

-- bytes put behind others that were put are put with them
pub put_next : (l : List ℕ) (at next : ℕ) (a b : List ℕ) → next ≡ at + length a → next + length b ≤ length l → put_in (put_in l at a) next b ≡ put_in l at (a ++ b)
put_next l at next a b e room =
    let joined : length (a ++ b) ≡ length a + length b = length-append a b in
    let first : put_in l at a ≡ put l at a = put_fits l at a (omega arith) in
    let long : length (put l at a) ≡ length l = simp (length-append, length-take, length-drop) (omega arith) in
    let second : put_in (put l at a) next b ≡ put (put l at a) next b = put_fits (put l at a) next b (omega arith) in
    rw (first, second, e, put_put l at a b (omega arith), put_fits l at (a ++ b) (omega arith))

-- a place of a list of bytes holds a byte
pub byte_at : (l : List ℕ) → AreBytes l → (at : ℕ) → get_or l at 0 < 256
byte_at [] h zero = omega arith
byte_at [] h (suc at) = omega arith
byte_at (b ∷ l) h zero = h.0
byte_at (b ∷ l) h (suc at) = byte_at l h.1 at

-- the test of an address is true exactly where it can be a source
pub source_iff : (x : ℕ) → (is_source x ≡ true) ↔ Source x
unfolding is_source
source_iff x = (tested, λ s. rw (ne_eqb x 0 s.nonzero, lt-ltb x (2 ^ 48) s.below, eq-eqb (group_bit x) 0 s.single))
  where
    tested : (not (eqb x 0) && ltb x (2 ^ 48) && eqb (group_bit x) 0) ≡ true → Source x
    tested e =
        let (a, group) = (and-eq-true_iff (not (eqb x 0) && ltb x (2 ^ 48)) (eqb (group_bit x) 0)).0 e in
        let (some, size) = (and-eq-true_iff (not (eqb x 0)) (ltb x (2 ^ 48))).0 a in
        record { nonzero = eqb-false x 0 (not-true (eqb x 0) some); below = ltb-true x (2 ^ 48) size; single = eqb-true (group_bit x) 0 group }
