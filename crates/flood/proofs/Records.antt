-- The invariant of the records, and that each step keeps it.
--
-- Each end that is named leads to a switch with fewer hops. A copy in flight says at least the hops of the switch that it came from: so an end that is
-- named for it, with one hop more, leads to fewer hops as well. No copy says fewer hops than the start's: so the first switch's record never moves.
use Prim.Native.Nat.{ℕ, suc, ◌≤◌}
use mathlib.Core.Path.{◌≡◌, refl, sym, ◌∙◌}
use mathlib.Core.Logic.{◌≢◌, ◌⊎◌, inl, inr, ⊎_elim, by_cases}
use mathlib.Core.Bool.{true, true≢false}
use native.Mathlib.Decide.{ℕ_discrete}
use native.Mathlib.Omega.{arith}
use borrow.Author.Tests.{eqb-true, ne_eqb}
use Rattle.flood.specs.Mesh.{Mesh}
use Rattle.flood.specs.Delivery.{Moment, Start, Reaches, Begins, First, Passes, Flooding, begun, first, passed, seen}
use Rattle.flood.specs.Records.{Records, Has, Home, Root, Relearns, Learns, Recording, rooted, learned, relearned, Down, LeadsDown}

-- ---- The invariant

-- the cable at end e leads to a switch that has a record, with k hops or fewer
pub record Behind {M : Mesh} (r : Records M) (e : M.End) (k : ℕ) : Type 0 where
  pub far : M.End
  pub cable : M.Cable e far
  pub recorded : Has r (M.at far)
  pub most : r.hops (M.at far) ≤ k

pub record Trail {M : Mesh} (S : Start M) (home : M.End) (x : Moment M) (r : Records M) : Type 0 where
  pub root : Has r S.switch
  pub top : r.hops S.switch ≡ S.hops
  pub stay : (e : M.End) → r.names e → M.at e ≡ S.switch → e ≡ home
  pub down : (e : M.End) → r.names e → M.at e ≢ S.switch → Down r e
  pub least : (e : M.End) (k : ℕ) → x.flies e k → S.hops ≤ k
  pub behind : (e : M.End) (k : ℕ) → x.flies e k → Behind r e k
  pub noted : (e : M.End) (k : ℕ) → x.flies e k → (t : ℕ) → Has r t → x.holds t ≡ true

-- ---- Each step keeps it

module _ {M : Mesh} {S : Start M} {home : M.End} {x y : Moment M} {r q : Records M} (i : Trail S home x r) where
  module _ (l : (s : ℕ) → Relearns x y r q s) where
    not_first : (e : M.End) (k : ℕ) → x.flies e k → q.hops S.switch ≡ suc k → ⊥
    not_first e k w h = omega (arith, h, (l S.switch).lower i.root, i.top, i.least e k w)

    relearns_keeps : ((e : M.End) (k : ℕ) → y.flies e k → x.flies e k ⊎ ((S.hops ≤ k) × Behind q e k))
        → ((e : M.End) (k : ℕ) → y.flies e k → (t : ℕ) → Has r t → y.holds t ≡ true) → Trail S home y q
    relearns_keeps new held = record {
      root = still;
      top = ⊎_elim (λ o. o.1 ∙ i.top) (λ n. absurd (not_first _ n.0 n.1 n.2)) ((l S.switch).from still.end still.own still.named);
      stay = λ e a d. ⊎_elim (λ o. i.stay e o.0 d) (λ n. absurd (not_first e n.0 n.1 n.2)) ((l S.switch).from e d a);
      down = λ e a d. ⊎_elim
          (λ o. let w = i.down e o.0 d in
          record { far = w.far; cable = w.cable; recorded = (l _).kept w.recorded; fewer = omega (arith, o.1, w.fewer, (l _).lower w.recorded) })
          (λ n. let w = i.behind e n.0 n.1 in
          record { far = w.far; cable = w.cable; recorded = (l _).kept w.recorded; fewer = omega (arith, n.2, w.most, (l _).lower w.recorded) })
          ((l (M.at e)).from e refl a);
      least = λ e k w. ⊎_elim (λ o. i.least e k o) (λ n. n.0) (new e k w);
      behind = λ e k w. ⊎_elim
          (λ o. let b = i.behind e k o in
          record { far = b.far; cable = b.cable; recorded = (l _).kept b.recorded; most = omega (arith, b.most, (l _).lower b.recorded) })
          (λ n. n.1)
          (new e k w);
      noted = λ e k w t h. ⊎_elim (λ o. held e k w t o) (λ n. n) ((l t).noted h);
    }
      where
        still : Has q S.switch
        still = (l S.switch).kept i.root

  passes_keeps : Passes x y → ((s : ℕ) → Relearns x y r q s) → Trail S home y q
  passes_keeps p l = relearns_keeps l
      (λ e k w. inl (p.only e k w))
      (λ e k w t h. p.kept e k (p.only e k w) t (i.noted e k (p.only e k w) t h))

  first_keeps : {e : M.End} {k : ℕ} → First S e k x y → Learns e k x y r q → Trail S home y q
  first_keeps {e} {k} f l = relearns_keeps
      (λ s. by_cases (ℕ_discrete s (M.at e)) (λ d. rw d own) (l.others s))
      (λ d j w. ⊎_elim inl (λ n. inr (omega (arith, n.1, i.least e k f.taken), from_here d j n)) (f.sends.only d j w))
      (λ d j w t h. stays t (i.noted e k f.taken t h))
    where
      has : Has q (M.at e)
      has = record { end = e; own = refl; named = l.own.named }

      -- its filter hadn't the frame, so it had no record
      own : Relearns x y r q (M.at e)
      own = record {
        kept = λ h. has;
        lower = λ h. absurd (true≢false (sym (i.noted e k f.taken (M.at e) h) ∙ f.new));
        noted = λ h. inr f.sends.noted;
        from = λ g d n. inr (k, rw (l.own.only g d n) f.taken, l.own.hops);
      }

      from_here : (d : M.End) (j : ℕ) → Reaches M (M.at e) d × (j ≡ suc k) → Behind q d j
      from_here d j n = record {
        far = n.0.from;
        cable = M.both n.0.from d n.0.cable;
        recorded = rw n.0.own has;
        most = rw n.0.own (omega (arith, n.1, l.own.hops));
      }

      stays : (t : ℕ) → x.holds t ≡ true → y.holds t ≡ true
      stays t h = by_cases (ℕ_discrete t (M.at e)) (λ d. rw d f.sends.noted) (λ d. f.sends.others t d ∙ h)

module _ {M : Mesh} {S : Start M} {home : M.End} where
  begins_holds : {x y : Moment M} {q : Records M} → Home S home → Begins S x y → Root S home q → Trail S home y q
  begins_holds {y} {q} h b o = record {
    root = has;
    top = o.hops;
    stay = λ e n d. o.only e n;
    down = λ e n d. absurd (d (rw (o.only e n) h.own));
    least = λ e k w. omega (arith, (new e k w).1);
    behind = λ e k w. from_first e k (new e k w);
    noted = λ e k w t a. rw (sym a.own, o.only a.end a.named, h.own) b.sends.noted;
  }
    where
      has : Has q S.switch
      has = record { end = home; own = h.own; named = o.named }

      new : (e : M.End) (k : ℕ) → y.flies e k → Reaches M S.switch e × (k ≡ S.hops)
      new e k w = ⊎_elim (λ n. absurd (b.quiet e k n)) (λ n. n) (b.sends.only e k w)

      from_first : (e : M.End) (k : ℕ) → Reaches M S.switch e × (k ≡ S.hops) → Behind q e k
      from_first e k n = record {
        far = n.0.from;
        cable = M.both n.0.from e n.0.cable;
        recorded = rw n.0.own has;
        most = rw n.0.own (omega (arith, o.hops, n.1));
      }

  -- ---- So it holds at every moment

  pub trail : {x : Moment M} {r : Records M} → Recording S home x r → Trail S home x r
  trail (rooted h b o) = begins_holds h b o
  trail (learned v f l) = first_keeps (trail v) f l
  trail (relearned v p l) = passes_keeps (trail v) p l

  pub leads_down : {x : Moment M} {r : Records M} → Recording S home x r → LeadsDown r home
  leads_down v e n = by_cases (ℕ_discrete (M.at e) S.switch) (λ d. inl ((trail v).stay e n d)) (λ d. inr ((trail v).down e n d))

  pub home_is : {x : Moment M} {r : Records M} → Recording S home x r → Home S home
  home_is (rooted h b o) = h
  home_is (learned v f l) = home_is v
  home_is (relearned v p l) = home_is v

  -- a flood with its records is a flood
  unfoldable pub flooding : {x : Moment M} {r : Records M} → Recording S home x r → Flooding S x
  flooding (rooted h b o) = begun b
  flooding (learned v f l) = first (flooding v) f
  flooding (relearned v p l) = passed (flooding v) p

  -- who has seen the frame has a record
  pub seen_has : {x : Moment M} {r : Records M} (v : Recording S home x r) (t : ℕ) → seen (flooding v) t ≡ true → Has r t
  unfolding flooding seen
  seen_has (rooted h b o) t s = record { end = home; own = h.own ∙ sym (eqb-true t S.switch s); named = o.named }
  seen_has (learned {e} v f l) t s = by_cases (ℕ_discrete t (M.at e))
      (λ d. record { end = e; own = sym d; named = l.own.named })
      (λ d. (l.others t d).kept (seen_has v t (rw (ne_eqb t (M.at e) d) at s)))
  seen_has (relearned v p l) t s = (l t).kept (seen_has v t s)
