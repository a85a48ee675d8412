-- The writer refuses what has no room, so what it wrote had room.
use Prim.Native.Nat.{ℕ, zero, suc, ◌≤◌}
use mathlib.Core.Path.{◌≡◌, refl, sym, ap}
use mathlib.Core.Bool.{Bool, true, false, cond}
use mathlib.Core.List.{List, [], ◌∷◌}
use native.Mathlib.Omega.{arith}
use borrow.Author.Tests.{ltb-false, ne_eqb}
use lib.Dec.{ltb}
use lib.ListN.{length}
use Rattle.std.specs.Prelude.{Result, Ok, Err, IfOk}
use Rattle.refusal.specs.declared.Refusal.{Refusal}
use Rattle.refusal.specs.Refusal.{Told, answered, first, when}
use Rattle.refusal.specs.Number.{told}
use Rattle.network.specs.declared.Network.{Network}
use Rattle.network.specs.Checks.{checked, network_fault}
use Rattle.network.specs.Describe.{end_values, image, write_fault}
use Rattle.describe.proofs.answer.Goals as goal

-- of the causes of a network that is written, the room's is the last
room_for : (f room long : ℕ) → first (checked f ∷ when 27 (ltb room long) ∷ []) ≡ 0 → long ≤ room
room_for zero room long e = by_test (ltb room long) refl e
  where
    by_test : (b : Bool) → ltb room long ≡ b → ◌≡◌ {A = ℕ} (cond b 27 0) 0 → long ≤ room
    by_test true h q = absurd (omega arith)
    by_test false h q = ltb-false room long h
room_for (suc f) room long e = let some : ◌≡◌ {A = ℕ} (suc f) 0 = rw (ne_eqb (suc f) 0 (λ z. omega arith)) at e in absurd (omega arith)

told_fits : (n : Network) (room long f : ℕ) → f ≡ write_fault n room → record { number = 0; values = end_values long } ≡ answered f (length (image n) ∷ []) → long ≤ room
unfolding write_fault
told_fits n room long zero is e =
    let values : end_values long ≡ length (image n) ∷ [] = ap (λ (t : Told). t.values) e in
    let same : long ≡ length (image n) = cc in
    omega (arith, room_for (network_fault n) room (length (image n)) (sym is))
told_fits n room long (suc f) is e = let none : ◌≡◌ {A = ℕ} 0 (suc f) = ap (λ (t : Told). t.number) e in absurd (omega arith)

fits : (n : Network) (room : ℕ) (r : Result ℕ Refusal) → told end_values r ≡ answered (write_fault n room) (length (image n) ∷ []) → IfOk r (λ long. long ≤ room)
fits n room (Ok long) e = told_fits n room long (write_fault n room) refl e
fits n room (Err r) e = tt

pub returns : goal.returns
returns c = rw c.write.auto.out (fits c.in_ok-d.d.network _ c.write.result c.write.ensures.answer)
