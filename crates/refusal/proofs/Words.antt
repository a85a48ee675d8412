-- A test finds exactly what its words say: one law for each way in which tests are made.
use Prim.Native.Nat.{ℕ, ◌≤◌, ◌<◌}
use mathlib.Core.Path.{◌≡◌, refl}
use mathlib.Core.Bool.{Bool, true, false, not, ◌&&◌, ◌||◌, false≢true}
use mathlib.Core.Logic.{◌↔◌, ◌⊎◌, inl, inr}
use lib.Dec.{eqb, ltb, leb}
use borrow.Author.Tests.{ltb-true, lt-ltb, leb-true, le-leb, eqb-true, eq-eqb}
use Rattle.refusal.specs.Refusal.{outside}
use Rattle.refusal.specs.Exact.{Outside}

pub less : (a b : ℕ) → (ltb a b ≡ true) ↔ (a < b)
less a b = (ltb-true a b, lt-ltb a b)

pub at_most : (a b : ℕ) → (leb a b ≡ true) ↔ (a ≤ b)
at_most a b = (leb-true a b, le-leb a b)

pub equal : (a b : ℕ) → (eqb a b ≡ true) ↔ (a ≡ b)
equal a b = (eqb-true a b, eq-eqb a b)

module _ {a : Bool} {A : Type 0} (p : (a ≡ true) ↔ A) where
  pub is_not : (not a ≡ true) ↔ (A → ⊥)
  is_not = (λ e x. no a e (p.1 x), λ n. yes a (λ e. n (p.0 e)))
    where
      no : (t : Bool) → not t ≡ true → t ≡ true → ⊥
      no true e q = false≢true e
      no false e q = false≢true q

      yes : (t : Bool) → (t ≡ true → ⊥) → not t ≡ true
      yes true n = absurd (n refl)
      yes false n = refl

  module _ {b : Bool} {B : Type 0} (q : (b ≡ true) ↔ B) where
    pub either : ((a || b) ≡ true) ↔ (A ⊎ B)
    either = (λ e. fst a b e p.0 q.0, λ s. snd a b s p.1 q.1)
      where
        fst : (t u : Bool) → (t || u) ≡ true → (t ≡ true → A) → (u ≡ true → B) → A ⊎ B
        fst true u e f g = inl (f refl)
        fst false u e f g = inr (g e)

        snd : (t u : Bool) → A ⊎ B → (A → t ≡ true) → (B → u ≡ true) → (t || u) ≡ true
        snd true u s f g = refl
        snd false u (inl x) f g = absurd (false≢true (f x))
        snd false u (inr y) f g = g y

    pub both : ((a && b) ≡ true) ↔ (A × B)
    both = (λ e. fst a b e p.0 q.0, λ s. snd a b (p.1 s.0) (q.1 s.1))
      where
        fst : (t u : Bool) → (t && u) ≡ true → (t ≡ true → A) → (u ≡ true → B) → A × B
        fst true u e f g = (f refl, g e)
        fst false u e f g = absurd (false≢true e)

        snd : (t u : Bool) → t ≡ true → u ≡ true → (t && u) ≡ true
        snd true u e f = f
        snd false u e f = e

pub beyond : (lo hi n : ℕ) → (outside lo hi n ≡ true) ↔ Outside lo hi n
beyond lo hi n = either (less n lo) (less hi n)
