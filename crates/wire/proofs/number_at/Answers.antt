use Rattle.std.proofs.Common.{◌≤◌, ℕ, min, arith, refl, length-take, rules}
use native.Mathlib.Nat.{pow-le-pow_right}
use Rattle.wire.specs.Wire.{number, number_after}
use Rattle.wire.proofs.Laws.{number_next, next_small, next_fits}
use Rattle.wire.proofs.number_at.Goals as goal

pub loop-b-init : goal.loop-b-init
unfolding number number_after
loop-b-init c = (refl, omega arith)

pub overflow_mul-n : goal.overflow_mul-n
overflow_mul-n c = record { fits = omega (arith, next_fits c.loop-b.n c.loop-b.b-index 0 c.loop-b.invariant.1 (omega (arith, length-take {A = ℕ})) (omega arith)) }

pub overflow_add-n : goal.overflow_add-n
overflow_add-n c = record { fits = next_fits _ _ _ c.loop-b.invariant.1 (omega (arith, length-take {A = ℕ})) (rw c.from.ensures (search rules)) }

pub loop-b-preserved : goal.loop-b-preserved
loop-b-preserved c = (rw (number_next _ _ c.loop-b-test.true, ← c.loop-b.invariant.0, c.from.ensures) refl, next_small _ _ _ c.loop-b.invariant.1 (rw c.from.ensures (search rules)))

pub returns-clause-bound : goal.returns-clause-bound
returns-clause-bound c =
    let few : c.loop-b.b-index ≤ min c.args.width 8 = omega (arith, length-take {A = ℕ}) in
    omega (arith, pow-le-pow_right {n = 256} (omega arith) few)
