-- Different numbers that all stand in a list are no more than it has places.
use mathlib.Core.Path.{◌≡◌, sym, ap, ◌∙◌}
use mathlib.Core.Logic.{◌≢◌, ⊎_elim, by_cases, ite, if_pos, if_neg}
use mathlib.Core.List.{List, [], ◌∷◌, Memᴰ}
use Prim.Native.Nat.{ℕ, zero, suc, ◌≤◌, ◌<◌}
use native.Mathlib.Omega.{arith}
use native.Mathlib.Decide.{ℕ_discrete}
use lib.ListN.{length}

-- the list without its first a
strike : ℕ → List ℕ → List ℕ
strike a [] = []
strike a (b ∷ m) = ite (ℕ_discrete a b) m (b ∷ strike a m)

strike_length : (a : ℕ) (m : List ℕ) → Memᴰ a m → suc (length (strike a m)) ≡ length m
unfolding strike
strike_length a [] k = absurd (mathlib.Core.List.Memᴰ.not-nil k)
strike_length a (b ∷ m) k = by_cases (ℕ_discrete a b)
    (λ e. rw (if_pos (ℕ_discrete a b) e m (b ∷ strike a m)))
    (λ d. rw (if_neg (ℕ_discrete a b) d m (b ∷ strike a m)) (ap suc (⊎_elim (λ e. absurd (d e)) (λ r. strike_length a m r) (mathlib.Core.List.Memᴰ.cases_cons k))))

strike_keeps : (a : ℕ) (m : List ℕ) {x : ℕ} → Memᴰ x m → x ≢ a → Memᴰ x (strike a m)
unfolding strike
strike_keeps a [] k n = absurd (mathlib.Core.List.Memᴰ.not-nil k)
strike_keeps a (b ∷ m) k n = by_cases (ℕ_discrete a b)
    (λ e. rw (if_pos (ℕ_discrete a b) e m (b ∷ strike a m)) (⊎_elim (λ q. absurd (n (q ∙ sym e))) (λ r. r) (mathlib.Core.List.Memᴰ.cases_cons k)))
    (λ d. rw (if_neg (ℕ_discrete a b) d m (b ∷ strike a m)) (⊎_elim (λ q. mathlib.Core.List.Memᴰ.head q) (λ r. mathlib.Core.List.Memᴰ.tail (strike_keeps a m r n)) (mathlib.Core.List.Memᴰ.cases_cons k)))

pub pigeonhole : (f : ℕ → ℕ) (n : ℕ) (m : List ℕ) → ((i j : ℕ) → i < n → j < n → f i ≡ f j → i ≡ j) → ((i : ℕ) → i < n → Memᴰ (f i) m) → n ≤ length m
pigeonhole f zero m once stands = omega arith
pigeonhole f (suc n) m once stands =
    let last : Memᴰ (f n) m = stands n (omega arith) in
    let rest : n ≤ length (strike (f n) m) = pigeonhole f n (strike (f n) m) (λ i j hi hj. once i j (omega arith) (omega arith))
    (λ i h. strike_keeps (f n) m (stands i (omega arith)) (λ e. let q : i ≡ n = once i n (omega arith) (omega arith) e in omega arith)) in
    omega (arith, strike_length (f n) m last)
