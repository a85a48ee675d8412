-- What a step knows that its refusals let pass.
use mathlib.Core.Path.{◌≡◌, sym}
use mathlib.Core.Bool.{Bool, true, false}
use mathlib.Core.List.{List}
use Prim.Native.Nat.{ℕ, ◌+◌, ◌≤◌, ◌<◌, ◌^◌}
use native.Mathlib.Nat.{lt_of_lt_of_le}
use native.Mathlib.Omega.{arith}
use lib.Dec.{leb}
use lib.ListN.{length}
use lib.Pow.{pow_mono}
use borrow.Author.Tests.{lt-leb, ltb-false, leb-false, not-false}
use Rattle.std.specs.Prelude.{Err, Ok, OnOk, Result}
use Rattle.refusal.specs.Number.{number_of}
use Rattle.refusal.specs.Refusal.{first}
use Rattle.refusal.specs.declared.Refusal.{Refusal}
use Rattle.refusal.proofs.Told.{some}
use Rattle.refusal.specs.Exact.{Numbered, NoneHolds}
use Rattle.refusal.proofs.Laws.{none_holds, inside, first_front, first_behind_none}
use Rattle.wire.specs.Address.{is_source}
use Rattle.frame.specs.Frame.{source_of}
use Rattle.head.specs.Switch.{switch_causes}
use Rattle.rules.specs.Rules.{on_host_port}
use Rattle.head.specs.Step.{bad_length, too_short, HasRoom, frame_causes, refusal, refusal_but1}
use Rattle.rules.specs.declared.Setup.{Setup}
use Rattle.head.specs.declared.Switch.{Switch}

module _ (s : Switch) (f : List ℕ) where
  pub switch_numbered : Numbered (switch_causes s f)
  switch_numbered = omega arith

module _ (s : Setup) (port : ℕ) (frame : List ℕ) (room : ℕ) where
  pub frame_numbered : Numbered (frame_causes s port frame room)
  frame_numbered = omega arith

-- a mask of sixteen bits names no port from 16 on
pub beyond_none : (ports mask : ℕ) → mask < 2 ^ 16 → 16 ≤ ports → leb (2 ^ ports) mask ≡ false
beyond_none ports mask h l = lt-leb (2 ^ ports) mask (lt_of_lt_of_le h (pow_mono l))

room_on : (host : Bool) (n room : ℕ) → bad_length host n ≡ false → too_short host n room ≡ false → HasRoom host n room
room_on true n room e q = let p = inside 60 1514 n e in let r = ltb-false room (n + 6) q in record { long_enough = omega arith; fits = omega arith }
room_on false n room e q = let p = inside 66 1520 n e in let r = ltb-false room n q in record { long_enough = omega arith; fits = omega arith }

-- what a step that passed 2 to 9 knows
module _ (s : Setup) (port : ℕ) (frame : List ℕ) (room : ℕ) (none : refusal_but1 s port frame room ≡ 0) where
  pub passed : NoneHolds (frame_causes s port frame room)
  unfolding refusal_but1
  passed = none_holds (frame_causes s port frame room) (frame_numbered s port frame room) none

  pub passed_port : port < s.ports
  passed_port = leb-false s.ports port passed.0

  pub passed_source : is_source (source_of frame) ≡ true
  passed_source = not-false (is_source (source_of frame)) passed.1.1.1.0

  pub passed_room : HasRoom (on_host_port s port) (length frame) room
  passed_room = room_on (on_host_port s port) (length frame) room passed.1.1.0 passed.1.1.1.1.1.1.1.0

-- refusal 1, and then the others
module _ (s : Switch) (f : List ℕ) (port : ℕ) (frame : List ℕ) (room : ℕ) where
  pub refused_1 : (r : Refusal) → number_of r ≡ first (switch_causes s f) → refusal s f port frame room ≡ number_of r
  unfolding refusal
  refused_1 r e = first_front (number_of r) (switch_causes s f) (frame_causes s.setup port frame room) (sym e) (some r)

  pub passed_1 : 0 ≡ first (switch_causes s f) → refusal s f port frame room ≡ refusal_but1 s.setup port frame room
  unfolding refusal refusal_but1
  passed_1 e = first_behind_none (switch_causes s f) (frame_causes s.setup port frame room) (none_holds (switch_causes s f) (switch_numbered s f) (sym e))

-- what holds anyway holds of an accepted call
pub on_ok : {A E : Type 0} (r : Result A E) {P : Type 0} → P → OnOk r P
on_ok (Ok a) p = p
on_ok (Err e) p = tt
