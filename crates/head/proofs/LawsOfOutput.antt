-- What a sending verdict writes can be stripped: the frame was taggable but for its header, and the outgoing header fits.
use mathlib.Core.Path.{◌≡◌}
use mathlib.Core.Bool.{Bool, true, false, cond}
use mathlib.Core.List.{List}
use Prim.Native.Nat.{ℕ, ◌+◌, ◌^◌, ◌≤◌, ◌<◌}
use native.Mathlib.Omega.{arith}
use lib.Dec.{eqb}
use lib.ListN.{length}
use borrow.Author.Tests.{eqb-true, eqb-false, not-false}
use Rattle.refusal.proofs.Laws.{inside}
use Rattle.wire.specs.Wire.{AreBytes}
use Rattle.frame.specs.declared.Header.{Header}
use Rattle.frame.specs.Frame.{header_in, our_type, stripped, tagged, type_of}
use Rattle.frame.specs.RoundTrip.{GivesBack, StripsWhatWasTagged, TagsWhatWasStripped}
use Rattle.frame.proofs.Laws.{Taggable, strip_accepts, tag_accepts, taggable}
use Rattle.frame.proofs.RoundTrip.{strips_what_was_tagged, tags_what_was_stripped}
use Rattle.head.specs.Step.{bad_length, lacks_tag, no_hops, outgoing, refusal_but1, tag_inside}
use Rattle.rules.specs.Rules.{on_host_port, rule1}
use Rattle.rules.specs.declared.Setup.{Setup}
use Rattle.head.specs.declared.Switch.{Switch}
use Rattle.rules.proofs.Ways.{by_test}
use Rattle.head.proofs.Refusals.{passed}

-- the host frame that came in: on a switch port it has a tag
abbrev pub host_frame : Bool → List ℕ → List ℕ
host_frame host frame = cond host frame (stripped frame)

-- a header that tagging takes
pub record Fits (h : Header) : Type 0 where
  pub some : 1 ≤ h.hc
  pub low : h.hc ≤ 63
  pub nonce : h.nonce < 2 ^ 24

gives_back : {frame : List ℕ} {g : Header} {room : ℕ} → Taggable frame g room → (h : Header) → Fits h → GivesBack (tagged frame h) frame h
unfolding StripsWhatWasTagged
gives_back {frame} {g} {room} ok h fits =
    strips_what_was_tagged frame h room (tag_accepts frame h room (record {
      long_enough = ok.long_enough;
      short_enough = ok.short_enough;
      not_ours = ok.not_ours;
      hc_some = λ z. omega arith;
      hc_fits = fits.low;
      nonce_fits = fits.nonce;
      fits = ok.fits;
    }))

-- a frame that refusals 4 and 6 to 8 let pass can be tagged once its tag is taken away
module _ (frame : List ℕ) where
  pub tagged_before : AreBytes frame → bad_length false (length frame) ≡ false → tag_inside false frame ≡ false → lacks_tag false frame ≡ false → no_hops false frame ≡ false
      → Taggable (stripped frame) (header_in frame) (length frame)
  unfolding TagsWhatWasStripped
  tagged_before bytes long inside_it lacks none =
      let size = inside 66 1520 (length frame) long in
      let ours : eqb (type_of frame) our_type ≡ true = not-false (eqb (type_of frame) our_type) lacks in
      let back = tags_what_was_stripped frame (length frame) bytes (strip_accepts frame (length frame) (record {
        long_enough = size.0;
        short_enough = size.1;
        ours = eqb-true _ _ ours;
        once = eqb-false _ _ (rw ours at inside_it);
        hc_some = eqb-false _ _ none;
        fits = omega arith;
      })) in
      taggable (stripped frame) (header_in frame) (length frame) (back.accepted (length frame) (omega arith))

  pub strips_again : (host : Bool) → AreBytes frame → bad_length host (length frame) ≡ false → tag_inside host frame ≡ false → lacks_tag host frame ≡ false → no_hops host frame ≡ false
      → (h : Header) → Fits h → GivesBack (outgoing host frame h) (host_frame host frame) h
  strips_again false bytes long inside_it lacks none h fits = gives_back (tagged_before bytes long inside_it lacks none) h fits
  strips_again true bytes long inside_it lacks none h fits =
      let size = inside 60 1514 (length frame) long in
      let ok : Taggable frame h (length frame + 6) = record {
        long_enough = size.0;
        short_enough = size.1;
        not_ours = eqb-false _ _ inside_it;
        hc_some = λ z. omega arith;
        hc_fits = fits.low;
        nonce_fits = fits.nonce;
        fits = omega arith;
      } in gives_back ok h fits

-- an accepted frame has a nonce of 24 bits, on a host port from the switch
module _ (s : Setup) (port : ℕ) (frame : List ℕ) (room : ℕ) (none : refusal_but1 s port frame room ≡ 0) (bytes : AreBytes frame) where
  pub received_nonce : on_host_port s port ≡ false → (header_in frame).nonce < 2 ^ 24
  received_nonce e =
      let ok = passed s port frame room none in
      (tagged_before frame bytes (rw e at ok.1.1.0) (rw e at ok.1.1.1.1.0) (rw e at ok.1.1.1.1.1.0) (rw e at ok.1.1.1.1.1.1.0)).nonce_fits

  pub accepted_strips : (h : Header) → Fits h → GivesBack (outgoing (on_host_port s port) frame h) (host_frame (on_host_port s port) frame) h
  accepted_strips =
      let ok = passed s port frame room none in
      strips_again frame (on_host_port s port) bytes ok.1.1.0 ok.1.1.1.1.0 ok.1.1.1.1.1.0 ok.1.1.1.1.1.1.0

pub arrival_nonce :
    (sw : Switch) (port : ℕ) (frame : List ℕ) (room : ℕ) → sw.nonce < 2 ^ 24 → refusal_but1 sw.setup port frame room ≡ 0 → AreBytes frame
    → (rule1 sw.setup sw.nonce sw.table port frame).header.nonce < 2 ^ 24
unfolding rule1
arrival_nonce sw port frame room below none bytes =
    by_test (λ (h : Header). h.nonce < 2 ^ 24) (on_host_port sw.setup port) (λ _. below) (received_nonce sw.setup port frame room none bytes)
