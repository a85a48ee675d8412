-- How many digits a number has, and that they are put from the back.
use Prim.Native.Nat.{ℕ, zero, suc, ◌+◌, ◌-◌, ◌*◌, ◌/◌, ◌%◌, ◌^◌, ◌≤◌, ◌<◌}
use mathlib.Core.Path.{◌≡◌, refl, sym, ap, ◌∙◌}
use mathlib.Core.Logic.{by_cases}
use mathlib.Core.List.{List, ◌∷◌, ◌++◌, append_assoc, append-nil}
use native.Mathlib.Nat.{add-zero, pow-zero, pow-suc, div-one, div-div-eq-div-mul}
use native.Mathlib.Numerals.{add-one}
use native.Mathlib.Decide.{dec_lt}
use native.Mathlib.Omega.{arith}
use lib.ListN.{length, get_or, set, take, drop, take-append-drop, length-set}
use lib.Seq.{take-suc, append_snoc, set_at, length-take-le}
use borrow.Author.Tests.{lt-ltb, le-ltb}
use Rattle.wire.specs.Wire.{put}
use Rattle.lines.specs.Lines.{hex_of, digits, width_in, width, decimal}

pub digits_long : (base k n : ℕ) → length (digits base k n) ≡ k
unfolding digits
digits_long base zero n = refl
digits_long base (suc k) n = ap suc (digits_long base k n)

pub decimal_long : (n : ℕ) → length (decimal n) ≡ width n
unfolding decimal
decimal_long n = digits_long 10 (width n) n

-- a number below 10 has one digit, another one more than its tenth
width_one : (turns n : ℕ) → n < 10 → width_in turns n ≡ 1
unfolding width_in
width_one zero n h = refl
width_one (suc turns) n h = rw (lt-ltb n 10 h)

width_next : (turns n : ℕ) → 10 ≤ n → width_in (suc turns) n ≡ suc (width_in turns (n / 10))
unfolding width_in
width_next turns n h = rw (le-ltb n 10 h)

-- more turns than enough change nothing
enough : (t u n : ℕ) → n ≤ t → n ≤ u → width_in t n ≡ width_in u n
enough zero u n p q = width_one zero n (omega arith) ∙ sym (width_one u n (omega arith))
enough (suc t) zero n p q = width_one (suc t) n (omega arith) ∙ sym (width_one zero n (omega arith))
enough (suc t) (suc u) n p q =
    by_cases (dec_lt n 10)
    (λ h. width_one (suc t) n h ∙ sym (width_one (suc u) n h))
    (λ h. width_next t n (omega arith) ∙ ap suc (enough t u (n / 10) (omega arith) (omega arith)) ∙ sym (width_next u n (omega arith)))

pub width_small : (n : ℕ) → n < 10 → width n ≡ 1
unfolding width
width_small n h = width_one n n h

pub width_more : (n : ℕ) → 10 ≤ n → width n ≡ suc (width (n / 10))
unfolding width
width_more n h = enough n (suc n) n (omega arith) (omega arith) ∙ width_next n n h ∙ ap suc (enough n (n / 10) (n / 10) (omega arith) (omega arith))

-- what holds below 10, and of a number where it holds of its tenth, holds of each
pub by_tenths : (P : ℕ → Type 0) → ((n : ℕ) → n < 10 → P n) → ((n : ℕ) → 10 ≤ n → P (n / 10) → P n) → (n : ℕ) → P n
by_tenths P small more n = go n n (omega arith)
  where
    go : (turns n : ℕ) → n ≤ turns → P n
    go zero n h = small n (omega arith)
    go (suc turns) n h = by_cases (dec_lt n 10) (small n) (λ k. more n (omega arith) (go turns (n / 10) (omega arith)))

pub width_least : (n : ℕ) → 1 ≤ width n
width_least = by_tenths (λ n. 1 ≤ width n) (λ n h. omega (arith, width_small n h)) (λ n h p. omega (arith, width_more n h))

-- a number of at most so many digits
pub width_most : (k n : ℕ) → n < 10 ^ suc k → width n ≤ suc k
width_most zero n h = omega (arith, width_small n (omega arith))
width_most (suc k) n h =
    by_cases (dec_lt n 10)
    (λ small. omega (arith, width_small n small))
    (λ large.
    let tens : 10 ^ suc (suc k) ≡ 10 ^ suc k * 10 = pow-suc 10 (suc k) in
    omega (arith, width_more n (omega arith), width_most k (n / 10) (omega arith)))

-- a number from a power of ten on, and below ten times it
pub width_is : (n k : ℕ) → 10 ^ k ≤ n → n < 10 * 10 ^ k → width n ≡ k + 1
width_is n zero least most = width_small n (omega arith)
width_is n (suc k) least most =
    let tens : 10 ^ suc k ≡ 10 ^ k * 10 = pow-suc 10 k in
    omega (arith, width_more n (omega arith), width_is (n / 10) k (omega arith) (omega arith))

-- a byte put right before others that were put is put with them
set_before : (l : List ℕ) (j : ℕ) (x : ℕ) (bs : List ℕ) → j < length l → set (put l (suc j) bs) j x ≡ put l j (x ∷ bs)
set_before l j x bs h =
    let same : j + suc (length bs) ≡ suc j + length bs = omega arith in
    let rest = drop (suc j + length bs) l in
    rw (
      take-suc l j 0 h,
      append_snoc (take j l) (get_or l j 0) bs,
      append_assoc (take j l) (get_or l j 0 ∷ bs) rest,
      set_at (take j l) (get_or l j 0) (bs ++ rest) x j (length-take-le j l (omega arith)),
      same,
      append_assoc (take j l) (x ∷ bs) rest,
    )

-- while digits are put: so many are, and the others are still to be
pub record Putting (start out : List ℕ) (at n base count left done : ℕ) : Type 0 where
  pub within : done ≤ count
  pub rest : left ≡ n / base ^ done
  pub so_far : out ≡ put start (at + (count - done)) (digits base done n)
  pub long : length out ≡ length start

pub putting_starts : (start : List ℕ) (at n base count : ℕ) → Putting start start at n base count n 0
unfolding digits
putting_starts start at n base count = record { within = omega arith; rest = rw (pow-zero, div-one); so_far = rw (append-nil, add-zero, take-append-drop); long = refl }

module _ {start out : List ℕ} {at n base count left done : ℕ} (p : Putting start out at n base count left done) (room : at + count ≤ length start) where
  pub putting_next : done < count → {x : ℕ} → x ≡ hex_of (left % base) → Putting start (set out (at + (count - done - 1)) x) at n base count (left / base) (done + 1)
  unfolding digits
  putting_next h {x} e =
      let j = at + (count - done - 1) in
      let ds = digits base done n in
      let before : at + (count - done) ≡ suc j = omega arith in
      let here : at + (count - (done + 1)) ≡ j = omega arith in
      let digit : x ≡ hex_of (n / base ^ done % base) = e ∙ ap (λ m. hex_of (m % base)) p.rest in
      record {
        within = omega arith;
        rest = rw add-one (ap (λ m. m / base) p.rest ∙ div-div-eq-div-mul n (base ^ done) base ∙ ap (λ m. n / m) (sym (pow-suc base done)));
        so_far =
            ap (λ l. set l j x) (p.so_far ∙ ap (λ k. put start k ds) before)
            ∙ set_before start j x ds (omega arith)
            ∙ rw (here, add-one) (ap (λ d. put start j (d ∷ ds)) digit);
        long = length-set out j x ∙ p.long;
      }

  pub putting_ends : count ≤ done → out ≡ put start at (digits base count n)
  putting_ends h =
      let first : at + (count - done) ≡ at = omega arith in
      let every : done ≡ count = omega arith in
      p.so_far ∙ ap (λ k. put start k (digits base done n)) first ∙ ap (λ k. put start at (digits base k n)) every
