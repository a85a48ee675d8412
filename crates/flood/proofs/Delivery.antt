-- The invariant of a flood, and that each step keeps it.
--
-- A copy comes from a switch that has seen the frame, and says fewer hops than the start's plus the number of switches that have seen it: so a copy for
-- a switch that hasn't is young enough. Each cable out of a switch that has seen the frame leads to one that has, or has a copy on it: so when no copy
-- is in flight, the frame has come over every cable. The filters tell who has seen it as long as it matters, while a copy is in flight.
use Prim.Native.Nat.{ℕ, ◌+◌, ◌≤◌, ◌<◌}
use mathlib.Core.Path.{◌≡◌, refl, sym, ◌∙◌}
use mathlib.Core.Logic.{◌≢◌, ◌⊎◌, inl, inr, ⊎_elim, by_cases}
use mathlib.Core.Bool.{Bool, true, false, ◌||◌}
use native.Mathlib.Decide.{ℕ_discrete}
use native.Mathlib.Omega.{arith}
use lib.Dec.{eqb}
use borrow.Author.Tests.{both_ways, eq-eqb, ne_eqb}
use Rattle.std.proofs.lemmas.Bool.{cases_Bool, true_from_ne_false}
use Rattle.flood.specs.Mesh.{Mesh, Joined, here, over}
use Rattle.flood.specs.Delivery.{Moment, Quiet, Start, SendsOn, Begins, Passes, Flooding, begun, first, passed, seen, LimitsSuffice, Delivers}
use Rattle.flood.proofs.Count.{count, count_more, count_lt}

-- those that a test names, and s: s is among them, and any other as before
added : (on : ℕ → Bool) (s : ℕ) → (eqb s s || on s) ≡ true
added on s = rw (eq-eqb s s refl)

beside : (on : ℕ → Bool) (s t : ℕ) → t ≢ s → (eqb t s || on t) ≡ on t
beside on s t d = rw (ne_eqb t s d)

-- ---- The invariant; on: the switches that have seen the frame

module _ {M : Mesh} (S : Start M) (on : ℕ → Bool) (x : Moment M) where
  pub record Spread : Type 0 where
    pub linked : (e : M.End) (k : ℕ) → x.flies e k → (t : ℕ) → x.holds t ≡ on t
    pub wired : (e : M.End) (k : ℕ) → x.flies e k → (f : M.End) × M.Cable e f × (on (M.at f) ≡ true)
    pub young : (e : M.End) (k : ℕ) → x.flies e k → k < S.hops + count on M.size
    pub once : (e : M.End) → x.sent e ≤ 1
    pub fresh : (e : M.End) → on (M.at e) ≡ false → x.sent e ≡ 0
    pub given : (e : M.End) → on (M.at e) ≡ true → S.Due e → x.sent e ≡ 1

  -- this part needs the limits
  abbrev pub Onward : Type 0
  Onward = (e f : M.End) → on (M.at e) ≡ true → M.Cable e f → (on (M.at f) ≡ true) ⊎ ((k : ℕ) × x.flies f k)

-- ---- Each step keeps it

module _ {M : Mesh} {S : Start M} {on : ℕ → Bool} {x : Moment M} (i : Spread S on x) where
  old_only_on : LimitsSuffice S → (e : M.End) (k : ℕ) → x.flies e k → M.limit (M.at e) ≤ k → on (M.at e) ≡ true
  old_only_on enough e k w old = true_from_ne_false _ too_young
    where
      inside : M.at e < M.size
      inside = M.inside e (i.wired e k w).0 (i.wired e k w).1

      too_young : on (M.at e) ≡ false → ⊥
      too_young h = omega (arith, i.young e k w, count_lt on M.size (M.at e) inside h, enough (M.at e) inside)

  module _ {y : Moment M} (p : Passes x y) where
    passes_keeps : Spread S on y
    passes_keeps = record {
      linked = λ e k w t. link (p.only e k w) t (cases_Bool (on t));
      wired = λ e k w. i.wired e k (p.only e k w);
      young = λ e k w. i.young e k (p.only e k w);
      once = λ e. rw (p.silent e) (i.once e);
      fresh = λ e h. p.silent e ∙ i.fresh e h;
      given = λ e h d. p.silent e ∙ i.given e h d;
    }
      where
        link : {e : M.End} {k : ℕ} → x.flies e k → (t : ℕ) → (on t ≡ true) ⊎ (on t ≡ false) → y.holds t ≡ on t
        link w t (inl h) = p.kept _ _ w t (i.linked _ _ w t ∙ h) ∙ sym h
        link w t (inr h) = p.unmade t (i.linked _ _ w t ∙ h) ∙ sym h

    passes_onward : LimitsSuffice S → Onward S on x → Onward S on y
    passes_onward enough o e f h c = ⊎_elim inl (λ v. ⊎_elim (λ g. inr (v.0, g)) (λ g. inl (was_on v.0 v.1 g)) (p.gone f v.0 v.1)) (o e f h c)
      where
        was_on : (k : ℕ) → x.flies f k → (x.holds (M.at f) ≡ true) ⊎ (M.limit (M.at f) ≤ k) → on (M.at f) ≡ true
        was_on k w (inl held) = sym (i.linked f k w (M.at f)) ∙ held
        was_on k w (inr old) = old_only_on enough f k w old

  -- s sends the frame on; now: the switches that have seen it then, which are s and those before
  module _ {s k : ℕ} {Spared : M.End → Type 0} {y : Moment M} (f : SendsOn S s k Spared x y) {now : ℕ → Bool} (own : now s ≡ true) (same : (t : ℕ) → t ≢ s → now t ≡ on t) where
    stays : (t : ℕ) → on t ≡ true → now t ≡ true
    stays t h = by_cases (ℕ_discrete t s) (λ d. rw d own) (λ d. same t d ∙ h)

    sends_keeps : ((t : ℕ) → x.holds t ≡ on t) → on s ≡ false → s < M.size → k ≤ S.hops + count on M.size → Spread S now y
    sends_keeps link new inside young = record {
      linked = λ e j w t. by_cases (ℕ_discrete t s) (λ d. rw d (f.noted ∙ sym own)) (λ d. f.others t d ∙ link t ∙ sym (same t d));
      wired = λ e j w. ⊎_elim
          (λ v. let (g, c, h) = i.wired e j v in (g, c, stays (M.at g) h))
          (λ v. (v.0.from, M.both v.0.from e v.0.cable, rw v.0.own own))
          (f.only e j w);
      young = λ e j w. ⊎_elim (λ v. omega (arith, i.young e j v, grows)) (λ v. omega (arith, v.1, young, grows)) (f.only e j w);
      once = λ e. by_cases (ℕ_discrete (M.at e) s) (λ d. omega (arith, f.at_most e d, unsent e d)) (λ d. rw (f.silent e d) (i.once e));
      fresh = λ e h. by_cases (ℕ_discrete (M.at e) s)
          (λ d. absurd (both_ways _ (rw d at h) own))
          (λ d. f.silent e d ∙ i.fresh e (sym (same (M.at e) d) ∙ h));
      given = λ e h due. by_cases (ℕ_discrete (M.at e) s)
          (λ d. omega (arith, f.due e d due, unsent e d))
          (λ d. f.silent e d ∙ i.given e (sym (same (M.at e) d) ∙ h) due);
    }
      where
        grows : count on M.size < count now M.size
        grows = count_more on now M.size s inside new own stays

        unsent : (e : M.End) → M.at e ≡ s → x.sent e ≡ 0
        unsent e d = i.fresh e (rw d new)

    sends_onward : ((e g : M.End) → Spared e → M.Cable e g → on (M.at g) ≡ true) → Onward S on x → Onward S now y
    sends_onward spared o e g h c = by_cases (ℕ_discrete (M.at e) s)
        (λ d. ⊎_elim (λ v. inl (stays (M.at g) (spared e g v c))) (λ v. inr (k, v)) (f.placed e g d c))
        (λ d. ⊎_elim
        (λ v. inl (stays (M.at g) v))
        (λ v. ⊎_elim (λ w. inr (v.0, w)) (λ w. inl (rw w own)) (f.gone g v.0 v.1))
        (o e g (sym (same (M.at e) d) ∙ h) c))

-- ---- So it holds at every moment

module _ {M : Mesh} {S : Start M} where
  -- before the flood no switch has seen the frame
  before : {x y : Moment M} → Begins S x y → Spread S (λ t. false) x
  before b = record {
    linked = λ e k w. absurd (b.quiet e k w);
    wired = λ e k w. absurd (b.quiet e k w);
    young = λ e k w. absurd (b.quiet e k w);
    once = λ e. omega (arith, b.unsent e);
    fresh = λ e h. b.unsent e;
    given = λ e h d. absurd (both_ways _ refl h);
  }

  pub spread : {x : Moment M} (v : Flooding S x) → Spread S (seen v) x
  unfolding seen
  spread (begun b) = sends_keeps (before b) b.sends (eq-eqb S.switch S.switch refl) (λ t d. ne_eqb t S.switch d) b.unheard refl b.in_mesh (omega arith)
  spread (first {e} {k} v f) =
      let i = spread v in
      let link = i.linked e k f.taken in
      let (g, c, h) = i.wired e k f.taken in
      sends_keeps i f.sends (added (seen v) (M.at e)) (beside (seen v) (M.at e)) link (sym (link (M.at e)) ∙ f.new) (M.inside e g c) (omega (arith, i.young e k f.taken))
  spread (passed v p) = passes_keeps (spread v) p

  onward : {x : Moment M} → LimitsSuffice S → (v : Flooding S x) → Onward S (seen v) x
  unfolding seen
  onward enough (begun b) = sends_onward (before b) b.sends (eq-eqb S.switch S.switch refl) (λ t d. ne_eqb t S.switch d) (λ e g n c. absurd n) (λ e g h c. absurd (both_ways _ refl h))
  onward enough (first {e} {k} v f) = sends_onward (spread v) f.sends (added (seen v) (M.at e)) (beside (seen v) (M.at e)) came_from (onward enough v)
    where
      -- over the cable that is spared the copy came
      came_from : (d g : M.End) → d ≡ e → M.Cable d g → seen v (M.at g) ≡ true
      came_from d g n c =
          let (g', c', h) = (spread v).wired e k f.taken in
          rw (M.one e g g' (rw n at c) c') h
  onward enough (passed v p) = passes_onward (spread v) p enough (onward enough v)

  first_seen : {x : Moment M} (v : Flooding S x) → seen v S.switch ≡ true
  unfolding seen
  first_seen (begun b) = eq-eqb S.switch S.switch refl
  first_seen (first {e} v f) = by_cases (ℕ_discrete S.switch (M.at e))
      (λ d. rw (eq-eqb S.switch (M.at e) d))
      (λ d. beside (seen v) (M.at e) S.switch d ∙ first_seen v)
  first_seen (passed v p) = first_seen v

  all_seen : {x : Moment M} → LimitsSuffice S → (v : Flooding S x) → Quiet x → {t : ℕ} → Joined M S.switch t → seen v t ≡ true
  all_seen enough v quiet here = first_seen v
  all_seen enough v quiet (over j a) = ⊎_elim
      (λ h. rw a.arrives at h)
      (λ n. absurd (quiet a.far n.0 n.1))
      (onward enough v a.near a.far (rw a.leaves (all_seen enough v quiet j)) a.cable)

  pub delivers : {x : Moment M} (v : Flooding S x) → Delivers v
  delivers v = record {
    once = (spread v).once;
    old = λ enough. old_only_on (spread v) enough;
    sees = λ enough quiet t j. all_seen enough v quiet j;
    receives = λ enough quiet e j due. (spread v).given e (all_seen enough v quiet j) due;
  }
