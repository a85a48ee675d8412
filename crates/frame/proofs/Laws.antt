-- Laws of tagging and stripping that callers cite.
use mathlib.Core.Path.{◌≡◌, refl}
use mathlib.Core.Bool.{Bool, true, false}
use mathlib.Core.List.{List}
use Prim.Native.Nat.{ℕ, ◌+◌, ◌-◌, ◌≤◌, ◌<◌, ◌^◌}
use native.Mathlib.Omega.{arith}
use lib.Dec.{eqb, ltb, leb}
use lib.ListN.{length, take, drop, length-take}
use lib.Seq.{take_at, drop_at}
use mir.Val.{bool_byte}
use Rattle.frame.specs.Header.{bit, header_of}
use borrow.Author.Tests.{le-leb, le-ltb, lt-leb, eq-eqb, ne_eqb, ltb-false, leb-false, eqb-true, eqb-false, not-false}
use Rattle.refusal.specs.Exact.{Numbered}
use Rattle.refusal.proofs.Laws.{none_holds, inside, not_outside, neither}
use Rattle.frame.specs.declared.Header.{Header}
use Rattle.frame.specs.Frame.{our_type, at_start, has_room, tag_before, tag_into, tagged, stripped, type_of, old_type_of, header_in, tag_causes, strip_causes, tag_refusal, strip_refusal}

-- where there is room the frame with its tag is written
pub into_room : (from : ℕ) (frame : List ℕ) (h : Header) (out : List ℕ) → 12 ≤ from → from ≤ length frame → 18 + (length frame - from) ≤ length out
    → tag_into from frame h out ≡ at_start (tag_before from frame h) out
unfolding has_room
into_room from frame h out a b c = rw (le-leb 12 from a, le-leb from (length frame) b, le-leb (18 + (length frame - from)) (length out) c)

-- a frame that has a tag gets another header
pub new_header : (frame : List ℕ) (h : Header) → 18 ≤ length frame → tag_before 18 frame h ≡ tagged (stripped frame) h
unfolding tagged stripped
new_header frame h long =
    let head : length (take 12 frame) ≡ 12 = simp length-take (omega arith) in
    rw (take_at (take 12 frame) (drop 18 frame) 12 head, drop_at (take 12 frame) (drop 18 frame) 12 head)

-- a flag's byte is its bit
pub flag_bit : (b : Bool) → bool_byte b ≡ bit b
flag_bit true = refl
flag_bit false = refl

pub bit_small : (b : Bool) → bit b ≤ 1
bit_small true = omega arith
bit_small false = omega arith

pub flag_small : (b : Bool) → bool_byte b ≤ 1
flag_small b = rw (flag_bit b) (bit_small b)

-- a hop count that was read has six bits
pub hc_small : (bs : List ℕ) → (header_of bs).hc < 64
unfolding header_of
hc_small bs = omega arith

-- what an accepted tagging knows of its arguments
pub record Taggable (frame : List ℕ) (h : Header) (room : ℕ) : Type 0 where
  pub long_enough : 60 ≤ length frame
  pub short_enough : length frame ≤ 1514
  pub not_ours : type_of frame ≡ our_type → ⊥
  pub hc_some : h.hc ≡ 0 → ⊥
  pub hc_fits : h.hc ≤ 63
  pub nonce_fits : h.nonce < 2 ^ 24
  pub fits : length frame + 6 ≤ room

-- what an accepted stripping knows of its arguments
pub record Strippable (frame : List ℕ) (room : ℕ) : Type 0 where
  pub long_enough : 66 ≤ length frame
  pub short_enough : length frame ≤ 1520
  pub ours : type_of frame ≡ our_type
  pub once : old_type_of frame ≡ our_type → ⊥
  pub hc_some : (header_in frame).hc ≡ 0 → ⊥
  pub fits : length frame - 6 ≤ room

module _ (frame : List ℕ) (h : Header) (room : ℕ) where
  tag_numbered : Numbered (tag_causes frame h room)
  tag_numbered = omega arith

  pub taggable : tag_refusal frame h room ≡ 0 → Taggable frame h room
  unfolding tag_refusal
  taggable e =
      let none = none_holds (tag_causes frame h room) tag_numbered e in
      let sized = inside 60 1514 (length frame) none.0 in
      let small = neither (ltb 63 h.hc) (leb (2 ^ 24) h.nonce) none.1.1.1.0 in
      record {
        long_enough = sized.0;
        short_enough = sized.1;
        not_ours = eqb-false _ _ none.1.0;
        hc_some = eqb-false _ _ none.1.1.0;
        hc_fits = ltb-false 63 h.hc small.0;
        nonce_fits = leb-false (2 ^ 24) h.nonce small.1;
        fits = ltb-false room (length frame + 6) none.1.1.1.1.0;
      }

  pub tag_accepts : Taggable frame h room → tag_refusal frame h room ≡ 0
  unfolding tag_refusal
  tag_accepts ok =
      rw (
        not_outside ok.long_enough ok.short_enough,
        ne_eqb _ _ ok.not_ours,
        ne_eqb _ _ ok.hc_some,
        le-ltb _ _ ok.hc_fits,
        lt-leb _ _ ok.nonce_fits,
        le-ltb _ _ ok.fits,
      )

module _ (frame : List ℕ) (room : ℕ) where
  strip_numbered : Numbered (strip_causes frame room)
  strip_numbered = omega arith

  pub strippable : strip_refusal frame room ≡ 0 → Strippable frame room
  unfolding strip_refusal
  strippable e =
      let none = none_holds (strip_causes frame room) strip_numbered e in
      let sized = inside 66 1520 (length frame) none.0 in
      let ours : eqb (type_of frame) our_type ≡ true = not-false (eqb (type_of frame) our_type) none.1.1.0 in
      record {
        long_enough = sized.0;
        short_enough = sized.1;
        ours = eqb-true _ _ ours;
        once = eqb-false _ _ (rw ours at none.1.0);
        hc_some = eqb-false _ _ none.1.1.1.0;
        fits = ltb-false room (length frame - 6) none.1.1.1.1.0;
      }

  pub strip_accepts : Strippable frame room → strip_refusal frame room ≡ 0
  unfolding strip_refusal
  strip_accepts ok =
      rw (
        not_outside ok.long_enough ok.short_enough,
        eq-eqb _ _ ok.ours,
        ne_eqb _ _ ok.once,
        ne_eqb _ _ ok.hc_some,
        le-ltb _ _ ok.fits,
      )
