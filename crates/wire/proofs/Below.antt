-- Laws of a test of every number below m: it passes exactly if it does at each.
use Prim.Native.Nat.{ℕ, zero, suc, ◌<◌}
use mathlib.Core.Path.{◌≡◌, refl, sym, ◌∙◌}
use mathlib.Core.Bool.{Bool, true, false, and-eq-true_iff, false≢true}
use mathlib.Core.Logic.{by_cases}
use native.Mathlib.Decide.{ℕ_discrete}
use native.Mathlib.Omega.{arith}
use Rattle.wire.specs.Below.{all_below}

module _ (test : ℕ → Bool) where
  pub all_below_lem : (m : ℕ) → ((k : ℕ) → k < m → test k ≡ true) → all_below test m ≡ true
  unfolding all_below
  all_below_lem zero h = refl
  all_below_lem (suc m) h = (and-eq-true_iff (all_below test m) (test m)).1 (all_below_lem m (λ k l. h k (omega arith)), h m (omega arith))

  pub each_below : (m : ℕ) → all_below test m ≡ true → (k : ℕ) → k < m → test k ≡ true
  unfolding all_below
  each_below zero e k h = absurd (omega arith)
  each_below (suc m) e k h =
      let (before, last) = (and-eq-true_iff (all_below test m) (test m)).0 e in
      by_cases (ℕ_discrete k m) (λ d. rw d last) (λ d. each_below m before k (omega arith))

  pub not_below : (m k : ℕ) → k < m → test k ≡ false → all_below test m ≡ false
  not_below m k h e = refuted (all_below test m) (λ all. false≢true (sym e ∙ each_below m all k h))
    where
      refuted : (b : Bool) → (b ≡ true → ⊥) → b ≡ false
      refuted true n = absurd (n refl)
      refuted false n = refl
