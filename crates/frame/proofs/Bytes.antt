-- What the functions' proofs need of bytes: header byte 0 by shifts and masks, and parts put one behind the other.
use mathlib.Core.Path.{◌≡◌, refl, ◌∙◌}
use mathlib.Core.Bool.{Bool, true, false, ◌&&◌, false≢true}
use mathlib.Core.List.{List, ◌++◌, append_assoc}
use Prim.Native.Nat.{ℕ, ◌+◌, ◌-◌, ◌*◌, ◌/◌, ◌%◌, ◌^◌, ◌<◌, ◌≤◌}
use native.Mathlib.Omega.{arith}
use native.Mathlib.Nat.{zero-add}
use lib.Bits.{bit_or, bit_and, or_shifted, and_mask}
use borrow.Author.Tests.{leb-true}
use lib.Dec.{eqb, leb}
use lib.ListN.{length, get_or, take, drop, length-append, length-drop, length-take}
use lib.Seq.{take_all}
use mir.Val.{bool_byte}
use Rattle.wire.specs.Wire.{number, part, put_in, bytes_of}
use Rattle.wire.proofs.Laws.{put_fits, put_next}
use Rattle.frame.specs.Header.{bit, header_of, header_bytes}
use Rattle.frame.specs.Frame.{our_type, at_start, has_room, tag_into, stripped}
use Rattle.frame.specs.declared.Header.{Header}

-- the shifted flags and the masked hop count stand side by side
pub packed : (l f : Bool) (hc : ℕ) → bit_or (bit_or (bool_byte l * 128 % 256) (bool_byte f * 64 % 256)) (bit_and hc 63) ≡ bit l * 2 ^ 7 + bit f * 2 ^ 6 + hc % 2 ^ 6
packed l f hc = rw (and_mask hc 6) (by_flags l f (hc % 2 ^ 6) (omega arith))
  where
    by_flags : (l f : Bool) (n : ℕ) → n < 2 ^ 6 → bit_or (bit_or (bool_byte l * 128 % 256) (bool_byte f * 64 % 256)) n ≡ bit l * 2 ^ 7 + bit f * 2 ^ 6 + n
    by_flags true true n h = or_shifted 3 6 n h
    by_flags true false n h = or_shifted 2 6 n h
    by_flags false true n h = or_shifted 1 6 n h
    by_flags false false n h = or_shifted 0 6 n h

-- the flags and the hop count that a byte carries, by shifts and masks
pub unpacked : (bs : List ℕ) (b nonce : ℕ) → b ≡ get_or bs 0 0 → nonce ≡ number (part 1 3 bs)
    → ◌≡◌ {A = Header} (record { l = eqb (bit_and (b / 128) 1) 1; f = eqb (bit_and (b / 64) 1) 1; hc = bit_and b 63; nonce = nonce }) (header_of bs)
unfolding header_of
unpacked bs b nonce e n = rw (and_mask (b / 128) 1, and_mask (b / 64) 1, and_mask b 6, e, n)

-- all behind a place
behind : (l : List ℕ) (at : ℕ) → take (length l - at) (drop at l) ≡ drop at l
behind l at = take_all (length l - at) (drop at l) (rw (length-drop at l) (omega arith))

-- what is put at place 0 stands at the start
at_start_lem : (out bs : List ℕ) → length bs ≤ length out → put_in out 0 bs ≡ at_start bs out
at_start_lem out bs h = put_fits out 0 bs (omega arith) ∙ rw zero-add

-- a part put behind another, the two at the start
two_put : (out a b : List ℕ) (next : ℕ) → next ≡ length a → length a + length b ≤ length out → put_in (put_in out 0 a) next b ≡ at_start (a ++ b) out
two_put out a b next e h = put_next out 0 next a b (omega arith) (omega arith) ∙ at_start_lem out (a ++ b) (rw (length-append a b) h)

-- four parts, one behind the other
four_put : (out a b c d : List ℕ) → length a ≡ 12 → length b ≡ 2 → length c ≡ 4 → 18 + length d ≤ length out
    → put_in (put_in (put_in (put_in out 0 a) 12 b) 14 c) 18 d ≡ at_start (a ++ (b ++ c) ++ d) out
four_put out a b c d ea eb ec h =
    let ab : length (a ++ b) ≡ 14 = length-append a b ∙ omega arith in
    let abc : length (a ++ b ++ c) ≡ 18 = length-append (a ++ b) c ∙ omega arith in
    rw (
      put_next out 0 12 a b (omega arith) (omega arith),
      put_next out 0 14 (a ++ b) c (omega arith) (omega arith),
      two_put out (a ++ b ++ c) d 18 (omega arith) (omega arith),
      append_assoc a b c,
    )

both : (a b : Bool) → (a && b) ≡ true → (a ≡ true) × (b ≡ true)
both true b h = (refl, h)
both false b h = absurd (false≢true h)

-- what having room says in numbers
pub room_told : (from : ℕ) (frame : List ℕ) (room : ℕ) → has_room from frame room ≡ true → (12 ≤ from) × (from ≤ length frame) × (18 + (length frame - from) ≤ room)
unfolding has_room
room_told from frame room e =
    let p = both (leb 12 from && leb from (length frame)) (leb (18 + (length frame - from)) room) e in
    let q = both (leb 12 from) (leb from (length frame)) p.0 in
    (leb-true 12 from q.0, leb-true from (length frame) q.1, leb-true (18 + (length frame - from)) room p.1)

-- the four parts of a frame with its tag, put one behind the other
pub tag_put : (from : ℕ) (frame : List ℕ) (h : Header) (out : List ℕ) → has_room from frame (length out) ≡ true
    → put_in (put_in (put_in (put_in out 0 (take 12 frame)) 12 (bytes_of 2 our_type)) 14 (header_bytes h)) 18 (take (length frame - from) (drop from frame)) ≡ tag_into from frame h out
tag_put from frame h out has =
    let ok = room_told from frame (length out) has in
    let head : length (take 12 frame) ≡ 12 = simp length-take (omega arith) in
    let tail : length (drop from frame) ≡ length frame - from = length-drop from frame in
    rw (has, behind frame from) (four_put out (take 12 frame) (bytes_of 2 our_type) (header_bytes h) (drop from frame) head refl refl (omega arith))

-- the two parts of a host frame, put so
pub host_put : (frame out : List ℕ) → 18 ≤ length frame → length frame ≤ length out + 6
    → put_in (put_in out 0 (take 12 frame)) 12 (take (length frame - 18) (drop 18 frame)) ≡ at_start (stripped frame) out
unfolding stripped
host_put frame out long room =
    let head : length (take 12 frame) ≡ 12 = simp length-take (omega arith) in
    let tail : length (drop 18 frame) ≡ length frame - 18 = length-drop 18 frame in
    rw (behind frame 18) (two_put out (take 12 frame) (drop 18 frame) 12 (omega arith) (omega arith))
