-- Laws of the arrays' lengths, of lists of values by number, and of blocks of numbers.
use Prim.Native.Nat.{ℕ, zero, suc, ◌+◌, ◌*◌, ◌<◌, ◌≤◌}
use mathlib.Core.Path.{◌≡◌, refl, sym, ap, ◌∙◌}
use mathlib.Core.List.{List, [], ◌∷◌, flat_map}
use native.Mathlib.Nat.{add_assoc, add_comm, add-zero, mul-suc, mul-zero}
use native.Mathlib.Omega.{arith}
use native.Mathlib.Numerals.{add-one}
use lib.ListN.{get_or, length, take, drop, length-append}
use lib.Seq.{take_all, take-suc, get_or-take, get_or-drop}
use Rattle.network.specs.declared.Port.{Port}
use Rattle.network.specs.Format.{port_in}
use mathlib.Core.Bool.{true, ◌&&◌, and-eq-true_iff}
use lib.Dec.{eqb}
use borrow.Author.Tests.{eqb-true}
use Rattle.table.specs.Table.{slots, table_of}
use Rattle.rules.specs.declared.Setup.{Setup}
use Rattle.head.specs.Step.{switch_of}
use Rattle.seat.specs.Seat.{cell_bytes, seat_of}
use Rattle.layout.specs.Layout.{HoldsBench, HoldsNetwork, bench_fits, block, cells_at, host_in, hosts_at, in_block, link_in, links_at, listed, network_fits, nonces_at, seat_in, setup_in, slot_hops_at, slot_ports_at, switch_in, switches_at}

-- ---- Lengths

-- lengths that pass the test are those of arrays that can hold the value
pub network_holds : (b s a : List ℕ) → network_fits (length b) (length s) (length a) ≡ true → HoldsNetwork b s a
network_holds b s a e =
    let (front, last) = (and-eq-true_iff (eqb (length b) 355 && eqb (length s) 16) (eqb (length a) 32)).0 e in
    let (one, two) = (and-eq-true_iff (eqb (length b) 355) (eqb (length s) 16)).0 front in
    record { bytes = eqb-true (length b) 355 one; salts = eqb-true (length s) 16 two; addresses = eqb-true (length a) 32 last }

pub bench_holds : (b m w v : List ℕ) → bench_fits (length b) (length m) (length w) (length v) ≡ true → HoldsBench b m w v
bench_holds b m w v e =
    let (front, last) = (and-eq-true_iff (eqb (length b) 12384 && eqb (length m) 32 && eqb (length w) 32) (eqb (length v) 2561)).0 e in
    let (two, three) = (and-eq-true_iff (eqb (length b) 12384 && eqb (length m) 32) (eqb (length w) 32)).0 front in
    let (one, second) = (and-eq-true_iff (eqb (length b) 12384) (eqb (length m) 32)).0 two in
    record { bytes = eqb-true (length b) 12384 one; masks = eqb-true (length m) 32 second; words = eqb-true (length w) 32 three; wides = eqb-true (length v) 2561 last }

-- ---- Lists of values by number

module _ {A : Type 0} where
  pub listed_length : (k : ℕ) (f : ℕ → A) → length (listed k f) ≡ k
  unfolding listed
  listed_length zero f = refl
  listed_length (suc k) f = length-append (listed k f) (f k ∷ []) ∙ rw (listed_length k f) (add-one k)

  -- the same values, the same list
  pub listed_same : (k : ℕ) (f g : ℕ → A) → ((i : ℕ) → i < k → f i ≡ g i) → listed k f ≡ listed k g
  unfolding listed
  listed_same zero f g h = refl
  listed_same (suc k) f g h = rw (listed_same k f g (λ i l. h i (omega arith)), h k (omega arith))

  -- the values of an array, one by one
  pub listed_all : (xs : List A) (k : ℕ) (d : A) → length xs ≡ k → listed k (λ i. get_or xs i d) ≡ xs
  unfolding listed
  listed_all xs k d e = first k (omega arith) ∙ take_all k xs (omega arith)
    where
      first : (k : ℕ) → k ≤ length xs → listed k (λ i. get_or xs i d) ≡ take k xs
      first zero h = refl
      first (suc k) h = rw (first k (omega arith)) (sym (take-suc xs k d h))

  -- what stands at a place that there is doesn't hang on what stands for the others
  pub same_there : (xs : List A) (k : ℕ) (d e : A) → k < length xs → get_or xs k d ≡ get_or xs k e
  same_there [] k d e h = absurd (omega arith)
  same_there (x ∷ xs) zero d e h = refl
  same_there (x ∷ xs) (suc k) d e h = same_there xs k d e (omega arith)

-- ---- Blocks

-- a number of a block stands in the array
pub in_block_lem : (at w i j : ℕ) (l : List ℕ) → j < w → get_or l (at + w * i + j) 0 ≡ in_block at w i j l
in_block_lem at w i j l h = sym (get_or-take w (drop (at + w * i) l) j 0 h ∙ get_or-drop (at + w * i) l j 0)

pub block_first : (at w i : ℕ) (l : List ℕ) → 0 < w → get_or l (at + w * i) 0 ≡ in_block at w i 0 l
block_first at w i l h = ap (λ k. get_or l k 0) (sym (add-zero (at + w * i))) ∙ in_block_lem at w i 0 l h

-- and so does a port's pair
pub port_in_block : (at w i j : ℕ) (l : List ℕ) → j + 1 < w → port_in (at + w * i + j) l ≡ port_in j (block at w i l)
port_in_block at w i j l h =
    rw (in_block_lem at w i j l (omega arith), add_assoc (at + w * i) j 1, in_block_lem at w i (j + 1) l h)

pub port_first : (at w i : ℕ) (l : List ℕ) → 1 < w → port_in (at + w * i) l ≡ port_in 0 (block at w i l)
port_first at w i l h = ap (λ k. port_in k l) (sym (add-zero (at + w * i))) ∙ port_in_block at w i 0 l h

-- ---- Values as numbers, one behind the other

-- so many of a width
pub flat_length : {A : Type 0} (f : A → List ℕ) (w : ℕ) (d : A) (xs : List A) → ((k : ℕ) → k < length xs → length (f (get_or xs k d)) ≡ w)
    → length (flat_map f xs) ≡ w * length xs
unfolding flat_map
flat_length f w d [] h = sym (mul-zero w)
flat_length f w d (x ∷ xs) h =
    length-append (f x) (flat_map f xs) ∙ rw (h 0 (omega arith), flat_length f w d xs (λ k l. h (suc k) (omega arith)), mul-suc) (add_comm w (w * length xs))

-- ---- A network's parts

module _ (bytes others : List ℕ) (i : ℕ) where
  pub switch_is : record { ports = get_or bytes (switches_at + 2 * i) 0; limit = get_or bytes (switches_at + 2 * i + 1) 0; salt = get_or others i 0 } ≡ switch_in bytes others i
  unfolding switch_in
  switch_is = rw (block_first switches_at 2 i bytes (omega arith), in_block_lem switches_at 2 i 1 bytes (omega arith))

  pub host_is : {p : Port} → p ≡ port_in (hosts_at + 2 * i) bytes → record { port = p; address = get_or others i 0 } ≡ host_in bytes others i
  unfolding host_in
  host_is e = rw (e, port_first hosts_at 2 i bytes (omega arith))

pub link_is : (bytes : List ℕ) (i : ℕ) {p q : Port} → p ≡ port_in (links_at + 4 * i) bytes → q ≡ port_in (links_at + 4 * i + 2) bytes → record { first = p; second = q } ≡ link_in bytes i
unfolding link_in
link_is bytes i e f = rw (e, f, port_first links_at 4 i bytes (omega arith), port_in_block links_at 4 i 2 bytes (omega arith))

-- ---- A bench's parts

pub seat_is : (bytes masks words wides : List ℕ) (k : ℕ) {setup : Setup} {addresses ports hops cells : List ℕ} → setup ≡ setup_in bytes masks words k
    → addresses ≡ take slots (drop (slots * k) wides) → ports ≡ block slot_ports_at slots k bytes → hops ≡ block slot_hops_at slots k bytes → cells ≡ block cells_at cell_bytes k bytes
    → seat_of (switch_of setup (get_or words (nonces_at + k) 0) (table_of addresses ports hops)) cells ≡ seat_in bytes masks words wides k
unfolding seat_in
seat_is bytes masks words wides k e a p h c =
    let first : 0 + slots * k ≡ slots * k = omega arith in
    rw (e, a, p, h, c, first)
