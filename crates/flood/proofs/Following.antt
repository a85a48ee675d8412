-- Each cable that is followed leads to fewer hops; so no path comes back, and every path ends, at home.
use Prim.Native.Nat.{ℕ, zero, suc, ◌<◌}
use mathlib.Core.Path.{◌≡◌, sym}
use mathlib.Core.Logic.{inl, inr, ⊎_elim}
use native.Mathlib.Nat.{lt_irrefl}
use native.Mathlib.Omega.{arith}
use Rattle.flood.specs.Mesh.{Mesh}
use Rattle.flood.specs.Records.{Records, Has, Follows, Path, once, more, EndsAt, ends, Down, LeadsDown, VisitsNoSwitchTwice, EndsAtHome}

module _ {M : Mesh} {r : Records M} {home : M.End} (outside : (f : M.End) → M.Cable home f → ⊥) (down : LeadsDown r home) where
  falls : {s t : ℕ} → Follows r s t → Has r t × (r.hops t < r.hops s)
  falls {s} {t} w = ⊎_elim (λ d. absurd (outside w.across.far (rw d at w.across.cable))) by_cable (down w.across.near w.named)
    where
      by_cable : Down r w.across.near → Has r t × (r.hops t < r.hops s)
      by_cable d =
          let same : d.far ≡ w.across.far = M.one w.across.near d.far w.across.far d.cable w.across.cable in
          rw (sym w.across.arrives, sym same, sym w.across.leaves) (d.recorded, d.fewer)

  path_falls : {s t : ℕ} → Path r s t → r.hops t < r.hops s
  path_falls (once w) = (falls w).1
  path_falls (more p w) = omega (arith, path_falls p, (falls w).1)

  pub no_switch_twice : VisitsNoSwitchTwice r
  no_switch_twice s p = lt_irrefl (r.hops s) (path_falls p)

  -- n: more than the hops that are left
  ends_in : (n : ℕ) (s : ℕ) → r.hops s < n → Has r s → EndsAt r home s
  ends_in zero s h a = absurd (omega arith)
  ends_in (suc n) s h a = ends a (λ e d w. ⊎_elim inl (λ v. inr (v.far, v.cable)) (down e w))
      (λ t w. ends_in n t (omega (arith, (falls w).1)) (falls w).0)

  pub ends_at_home : EndsAtHome r home
  ends_at_home s a = ends_in (suc (r.hops s)) s (omega arith) a
