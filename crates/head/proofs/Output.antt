-- What a sending verdict writes.
use mathlib.Core.Path.{◌≡◌, ap, ◌∙◌}
use mathlib.Core.Bool.{Bool, true, false}
use mathlib.Core.List.{List}
use Prim.Native.Nat.{ℕ}
use native.Mathlib.Omega.{arith}
use lib.ListN.{length}
use Rattle.frame.specs.declared.Header.{Header}
use Rattle.frame.specs.Frame.{tagged, at_start, tag_into}
use Rattle.frame.proofs.Laws.{into_room, new_header}
use Rattle.head.specs.Step.{HasRoom, behind_tag, outgoing}

pub goes_out : (host : Bool) (frame : List ℕ) (h : Header) (out : List ℕ) → HasRoom host (length frame) (length out)
    → tag_into (behind_tag host) frame h out ≡ at_start (outgoing host frame h) out
unfolding tagged
goes_out true frame h out r = into_room 12 frame h out (omega arith) r.long_enough r.fits
goes_out false frame h out r = into_room 18 frame h out (omega arith) r.long_enough r.fits ∙ ap (λ l. at_start l out) (new_header frame h r.long_enough)
