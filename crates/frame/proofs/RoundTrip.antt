-- Tagging and stripping undo each other: six bytes are put in and taken out at one place, and the header's packing loses nothing that fits.
use mathlib.Core.Path.{◌≡◌, refl, sym, ap, ap₂, ◌∙◌}
use mathlib.Core.Bool.{Bool, true, false}
use mathlib.Core.List.{List, [], ◌∷◌, ◌++◌, append_assoc}
use Prim.Native.Nat.{ℕ, zero, suc, ◌+◌, ◌*◌, ◌/◌, ◌%◌, ◌^◌, ◌<◌, ◌≤◌}
use native.Mathlib.Omega.{arith}
use native.Mathlib.Nat.{mod-eq_of_lt, mod-mod}
use lib.Dec.{eqb}
use lib.ListN.{length, get_or, take, drop, take-append-drop, length-append, length-take, length-drop}
use lib.Pow.{shr-shr, mod-pow-add, recompose}
use lib.Seq.{drop-cons, drop-drop, take_at, drop_at}
use Rattle.wire.specs.Wire.{number, bytes_of, part, AreBytes}
use Rattle.wire.proofs.Laws.{written_back, read_back, number_small, byte_at}
use Rattle.frame.specs.declared.Header.{Header}
use Rattle.frame.specs.Header.{bit, byte0, header_bytes, header_of}
use Rattle.frame.specs.Frame.{our_type, type_of, old_type_of, header_in, tagged, stripped}
use Rattle.frame.specs.RoundTrip.{StripsWhatWasTagged, TagsWhatWasStripped}
use Rattle.frame.proofs.Laws.{taggable, tag_accepts, strippable, strip_accepts}

bit_small : (b : Bool) → bit b < 2
bit_small true = omega arith
bit_small false = omega arith

pub bit_back : (b : Bool) → eqb (bit b) 1 ≡ b
bit_back true = refl
bit_back false = refl

-- what was packed is unpacked, whatever stands behind it
pub unpack_pack : (h : Header) (rest : List ℕ) → h.hc < 2 ^ 6 → h.nonce < 2 ^ 24 → header_of (header_bytes h ++ rest) ≡ h
unfolding header_of byte0
unpack_pack h rest hc nonce =
    let x = bit_small h.l in
    let y = bit_small h.f in
    let l : byte0 h / 2 ^ 7 % 2 ≡ bit h.l = omega arith in
    let f : byte0 h / 2 ^ 6 % 2 ≡ bit h.f = omega arith in
    let c : byte0 h % 2 ^ 6 ≡ h.hc = omega arith in
    let n : number (bytes_of 3 h.nonce) ≡ h.nonce = written_back 3 h.nonce ∙ mod-eq_of_lt nonce in
    rw (l, f, c, n, bit_back h.l, bit_back h.f)

bit_of : (n : ℕ) → n < 2 → bit (eqb n 1) ≡ n
bit_of zero h = refl
bit_of (suc zero) h = refl
bit_of (suc (suc n)) h = absurd (omega arith)

regrouped : (x y r q a : ℕ) → q * 2 ^ 6 + r ≡ a → q ≡ x * 2 + y → x * 2 ^ 7 + y * 2 ^ 6 + r ≡ a
regrouped x y r q a e f = omega arith

-- a byte is its two upper bits and the six below
byte_parts : (a : ℕ) → a < 256 → a / 2 ^ 7 % 2 * 2 ^ 7 + a / 2 ^ 6 % 2 * 2 ^ 6 + a % 2 ^ 6 % 2 ^ 6 ≡ a
byte_parts a h =
    let two : a / 2 ^ 6 % 2 ^ 2 ≡ a / 2 ^ 7 % 2 * 2 + a / 2 ^ 6 % 2 = mod-pow-add (a / 2 ^ 6) 1 1 ∙ rw (shr-shr a 6 1) in
    rw (mod-mod a (2 ^ 6)) (regrouped (a / 2 ^ 7 % 2) (a / 2 ^ 6 % 2) (a % 2 ^ 6) (a / 2 ^ 6 % 2 ^ 2) a (recompose 2 6 h) two)

-- what was unpacked is packed
pub pack_unpack : (a b c d : ℕ) (rest : List ℕ) → AreBytes (a ∷ b ∷ c ∷ d ∷ []) → header_bytes (header_of (a ∷ b ∷ c ∷ d ∷ rest)) ≡ a ∷ b ∷ c ∷ d ∷ []
unfolding header_of byte0
pack_unpack a b c d rest h =
    rw (bit_of (a / 2 ^ 7 % 2) (omega arith), bit_of (a / 2 ^ 6 % 2) (omega arith), byte_parts a h.0, read_back (b ∷ c ∷ d ∷ []) h.1)

module _ (frame : List ℕ) (h : Header) (long : 12 ≤ length frame) where
  addresses_long : length (take 12 frame) ≡ 12
  addresses_long = simp length-take (omega arith)

  tagged_is : tagged frame h ≡ take 12 frame ++ (bytes_of 2 our_type ++ header_bytes h ++ drop 12 frame)
  unfolding tagged
  tagged_is = append_assoc (take 12 frame) (bytes_of 2 our_type ++ header_bytes h) (drop 12 frame)

  -- the tag and what was behind the addresses, behind the addresses
  pub behind_addresses : drop 12 (tagged frame h) ≡ bytes_of 2 our_type ++ header_bytes h ++ drop 12 frame
  behind_addresses = rw tagged_is (drop_at (take 12 frame) (bytes_of 2 our_type ++ header_bytes h ++ drop 12 frame) 12 addresses_long)

  -- so a place behind them is a place of that
  behind_more : (k : ℕ) → drop (12 + k) (tagged frame h) ≡ drop k (bytes_of 2 our_type ++ header_bytes h ++ drop 12 frame)
  behind_more k = sym (drop-drop k 12 (tagged frame h)) ∙ ap (drop k) behind_addresses

  pub tagged_long : length (tagged frame h) ≡ length frame + 6
  tagged_long = rw tagged_is (simp (length-append, addresses_long, length-drop) (omega arith))

  pub strips : stripped (tagged frame h) ≡ frame
  unfolding stripped
  strips =
      rw (behind_more 6, tagged_is, take_at (take 12 frame) (bytes_of 2 our_type ++ header_bytes h ++ drop 12 frame) 12 addresses_long)
      (take-append-drop 12 frame)

  pub type_is_ours : type_of (tagged frame h) ≡ our_type
  type_is_ours = rw behind_addresses (written_back 2 our_type)

  pub old_type_is : old_type_of (tagged frame h) ≡ type_of frame
  old_type_is = rw (behind_more 6)

  pub header_is : h.hc < 2 ^ 6 → h.nonce < 2 ^ 24 → header_in (tagged frame h) ≡ h
  header_is hc nonce = rw (behind_more 2) (unpack_pack h (drop 12 frame) hc nonce)

pub strips_what_was_tagged : StripsWhatWasTagged
unfolding StripsWhatWasTagged
strips_what_was_tagged frame h room e =
    let ok = taggable frame h room e in
    let long : 12 ≤ length frame = omega arith in
    let size = tagged_long frame h long in
    let header = header_is frame h long (omega arith) ok.nonce_fits in
    record {
      accepted = λ space enough. strip_accepts (tagged frame h) space (record {
        long_enough = omega arith;
        short_enough = omega arith;
        ours = type_is_ours frame h long;
        once = rw (old_type_is frame h long) ok.not_ours;
        hc_some = rw header ok.hc_some;
        fits = omega arith;
      });
      frame_back = strips frame h long;
      header_back = header;
    }

module _ (t : List ℕ) (bytes : AreBytes t) (long : 18 ≤ length t) where
  -- the tag's six bytes, one by one
  tag_bytes : drop 12 t ≡ get_or t 12 0 ∷ get_or t 13 0 ∷ get_or t 14 0 ∷ get_or t 15 0 ∷ get_or t 16 0 ∷ get_or t 17 0 ∷ drop 18 t
  tag_bytes =
      let at : (k : ℕ) → k < 18 → drop k t ≡ get_or t k 0 ∷ drop (suc k) t = λ k h. drop-cons t k 0 (omega arith) in
      rw (at 12 (omega arith), at 13 (omega arith), at 14 (omega arith), at 15 (omega arith), at 16 (omega arith), at 17 (omega arith))

  behind_type : drop 14 t ≡ get_or t 14 0 ∷ get_or t 15 0 ∷ get_or t 16 0 ∷ get_or t 17 0 ∷ drop 18 t
  behind_type = sym (drop-drop 2 12 t) ∙ ap (drop 2) tag_bytes

  header_fits : ((header_in t).hc ≤ 63) × ((header_in t).nonce < 2 ^ 24)
  unfolding header_of
  header_fits = (
    omega arith,
    rw behind_type (number_small (get_or t 15 0 ∷ get_or t 16 0 ∷ get_or t 17 0 ∷ []) (byte_at t bytes 15, (byte_at t bytes 16, (byte_at t bytes 17, tt)))),
  )

  header_bytes_lem : header_bytes (header_in t) ≡ get_or t 14 0 ∷ get_or t 15 0 ∷ get_or t 16 0 ∷ get_or t 17 0 ∷ []
  header_bytes_lem =
      rw behind_type (pack_unpack (get_or t 14 0) (get_or t 15 0) (get_or t 16 0) (get_or t 17 0) (drop 18 t) (byte_at t bytes 14, (byte_at t bytes 15, (byte_at t bytes 16, (byte_at t bytes 17, tt)))))

  type_bytes : type_of t ≡ our_type → bytes_of 2 our_type ≡ get_or t 12 0 ∷ get_or t 13 0 ∷ []
  type_bytes e =
      let pair : part 12 2 t ≡ get_or t 12 0 ∷ get_or t 13 0 ∷ [] = ap (take 2) tag_bytes in
      ap (λ n. bytes_of 2 n) (sym e ∙ ap number pair) ∙ read_back (get_or t 12 0 ∷ get_or t 13 0 ∷ []) (byte_at t bytes 12, (byte_at t bytes 13, tt))

  head_long : length (take 12 t) ≡ 12
  head_long = simp length-take (omega arith)

  head_same : take 12 (stripped t) ≡ take 12 t
  unfolding stripped
  head_same = take_at (take 12 t) (drop 18 t) 12 head_long

  tail_same : drop 12 (stripped t) ≡ drop 18 t
  unfolding stripped
  tail_same = drop_at (take 12 t) (drop 18 t) 12 head_long

  pub stripped_long : length (stripped t) + 6 ≡ length t
  unfolding stripped
  stripped_long = simp (length-append, head_long, length-drop) (omega arith)

  pub tags : type_of t ≡ our_type → tagged (stripped t) (header_in t) ≡ t
  unfolding tagged
  tags e =
      let six : List ℕ = get_or t 12 0 ∷ get_or t 13 0 ∷ get_or t 14 0 ∷ get_or t 15 0 ∷ get_or t 16 0 ∷ get_or t 17 0 ∷ [] in
      let tag : bytes_of 2 our_type ++ header_bytes (header_in t) ≡ six = ap₂ (λ a b. a ++ b) (type_bytes e) header_bytes_lem in
      rw (head_same, tail_same)
      (ap (λ l. take 12 t ++ l ++ drop 18 t) tag ∙ append_assoc (take 12 t) six (drop 18 t) ∙ ap (λ l. take 12 t ++ l) (sym tag_bytes) ∙ take-append-drop 12 t)

pub tags_what_was_stripped : TagsWhatWasStripped
unfolding TagsWhatWasStripped
tags_what_was_stripped t room bytes e =
    let ok = strippable t room e in
    let long : 18 ≤ length t = omega arith in
    let size = stripped_long t bytes long in
    record {
      accepted = λ space enough. tag_accepts (stripped t) (header_in t) space (record {
        long_enough = omega arith;
        short_enough = omega arith;
        not_ours = rw (tail_same t bytes long) ok.once;
        hc_some = ok.hc_some;
        hc_fits = (header_fits t bytes long).0;
        nonce_fits = (header_fits t bytes long).1;
        fits = omega arith;
      });
      tagged_back = tags t bytes long ok.ours;
    }
