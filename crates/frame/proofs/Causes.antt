-- Tagging and stripping take the first of their causes, and each cause is a test that says what its words say.
use Prim.Native.Nat.{◌+◌, ◌-◌, ◌^◌}
use mathlib.Core.Path.{refl}
use lib.ListN.{length}
use Rattle.refusal.proofs.Laws.{for_its_cause_only}
use Rattle.refusal.proofs.Words.{at_most, beyond, both, either, equal, is_not, less}
use Rattle.frame.specs.Frame.{our_type, type_of, old_type_of, header_in, tag_causes, strip_causes, tag_refusal, strip_refusal}
use Rattle.frame.specs.Causes.{StripCausesInWords, StripsForItsCauseOnly, TagCausesInWords, TagsForItsCauseOnly}

pub tags_for_its_cause_only : TagsForItsCauseOnly
unfolding tag_refusal
tags_for_its_cause_only frame h room = for_its_cause_only (tag_causes frame h room)

pub strips_for_its_cause_only : StripsForItsCauseOnly
unfolding strip_refusal
strips_for_its_cause_only frame room = for_its_cause_only (strip_causes frame room)

pub tag_causes_in_words : TagCausesInWords
tag_causes_in_words frame h room = (
  refl,
  beyond 60 1514 (length frame),
  (
    refl,
    equal (type_of frame) our_type,
    (
      refl,
      equal h.hc 0,
      (
        refl,
        either (less 63 h.hc) (at_most (2 ^ 24) h.nonce),
        (refl, less room (length frame + 6), tt),
      ),
    ),
  ),
)

pub strip_causes_in_words : StripCausesInWords
strip_causes_in_words frame room = (
  refl,
  beyond 66 1520 (length frame),
  (
    refl,
    both (equal (type_of frame) our_type) (equal (old_type_of frame) our_type),
    (
      refl,
      is_not (equal (type_of frame) our_type),
      (
        refl,
        equal (header_in frame).hc 0,
        (refl, less room (length frame - 6), tt),
      ),
    ),
  ),
)
