-- What an instance cites: the theorem, what is known of a moment when the next step comes, and what may come of a record in a step.
use Prim.Native.Nat.{ℕ, suc, ◌≤◌}
use mathlib.Core.Path.{◌≡◌, refl, sym, ◌∙◌}
use mathlib.Core.Logic.{◌↔◌, ◌⊎◌, inl, inr, ⊎_elim}
use mathlib.Core.Bool.{true}
use native.Mathlib.Omega.{arith}
use Rattle.flood.specs.Mesh.{Mesh}
use Rattle.flood.specs.Delivery.{Moment, Start, Flooding, seen, LimitsSuffice, FloodDelivers}
use Rattle.flood.specs.Records.{Records, Has, NamesAlone, Relearns, Recording, RecordsLeadHome}
use Rattle.flood.proofs.Delivery.{spread, delivers}
use Rattle.flood.proofs.Records.{trail, home_is, seen_has, leads_down}
use Rattle.flood.proofs.Following.{no_switch_twice, ends_at_home}
pub use Rattle.flood.proofs.Records.{flooding}

-- ---- The theorem

pub flood_delivers : FloodDelivers
flood_delivers M S x v = delivers v

pub records_lead_home : RecordsLeadHome
records_lead_home M S home x r v = record {
  down = leads_down v;
  none_twice = no_switch_twice (home_is v).outside (leads_down v);
  ends = ends_at_home (home_is v).outside (leads_down v);
  all = λ enough quiet t j. seen_has v t ((delivers (flooding v)).sees enough quiet t j);
}

-- ---- While a copy is in flight

module _ {M : Mesh} {S : Start M} {x : Moment M} where
  -- it is on a live cable
  pub on_cable : Flooding S x → (e : M.End) (k : ℕ) → x.flies e k → (f : M.End) × M.Cable e f
  on_cable v e k w = let c = (spread v).wired e k w in (c.0, c.1)

  -- the filters hold the frame exactly where it has been seen
  pub filters_tell : (v : Flooding S x) (e : M.End) (k : ℕ) → x.flies e k → (t : ℕ) → x.holds t ≡ seen v t
  filters_tell v e k w = (spread v).linked e k w

  -- if it has reached the limit of its switch, the filter there holds the frame
  pub old_only_where_held : Flooding S x → LimitsSuffice S → (e : M.End) (k : ℕ) → x.flies e k → M.limit (M.at e) ≤ k → x.holds (M.at e) ≡ true
  old_only_where_held v enough e k w old = filters_tell v e k w (M.at e) ∙ (delivers v).old enough e k w old

  -- a switch has a record exactly if its filter holds the frame
  pub held_recorded : {home : M.End} {r : Records M} → Recording S home x r → (e : M.End) (k : ℕ) → x.flies e k → (t : ℕ) → x.holds t ≡ true ↔ Has r t
  held_recorded v e k w t = ((λ h. seen_has v t (sym (filters_tell (flooding v) e k w t) ∙ h)), (λ h. (trail v).noted e k w t h))

-- ---- What may come of a record

-- the record of switch s is the same after the step as before
pub record Same {M : Mesh} (r q : Records M) (s : ℕ) : Type 0 where
  pub names : (e : M.End) → M.at e ≡ s → q.names e ↔ r.names e
  pub hops : q.hops s ≡ r.hops s

-- the switch of end e names e, else only what it named before; its hop count is h, as before
pub record Gained {M : Mesh} (e : M.End) (h : ℕ) (r q : Records M) : Type 0 where
  pub named : q.names e
  pub only : (f : M.End) → M.at f ≡ M.at e → q.names f → r.names f ⊎ (f ≡ e)
  pub hops : q.hops (M.at e) ≡ h
  pub before : r.hops (M.at e) ≡ h

module _ {M : Mesh} {x y : Moment M} {r q : Records M} where
  -- it stays
  pub stays : {s : ℕ} → Same r q s → Relearns x y r q s
  stays z = record {
    kept = λ h. record { end = h.end; own = h.own; named = (z.names h.end h.own).1 h.named };
    lower = λ h. omega (arith, z.hops);
    noted = λ h. inl (record { end = h.end; own = h.own; named = (z.names h.end h.own).0 h.named });
    from = λ e d n. inl ((z.names e d).0 n, z.hops);
  }

  -- a later copy, at end e, where it says k hops, comes to a switch whose filter holds the frame
  module _ (e : M.End) (k : ℕ) (w : x.flies e k) (held : y.holds (M.at e) ≡ true) where
    -- the record moves to e, with one hop more than k, if it had as many or more
    pub moves : NamesAlone e (suc k) q → (Has r (M.at e) → suc k ≤ r.hops (M.at e)) → Relearns x y r q (M.at e)
    moves a less = record {
      kept = λ h. record { end = e; own = refl; named = a.named };
      lower = λ h. omega (arith, a.hops, less h);
      noted = λ h. inr held;
      from = λ f d n. inr (k, rw (a.only f d n) w, a.hops);
    }

    -- it gains e, if it has one hop more than k
    pub gains : Gained e (suc k) r q → Relearns x y r q (M.at e)
    gains a = record {
      kept = λ h. record { end = e; own = refl; named = a.named };
      lower = λ h. omega (arith, a.hops, a.before);
      noted = λ h. inr held;
      from = λ f d n. ⊎_elim (λ o. inl (o, a.hops ∙ sym a.before)) (λ o. inr (k, rw o w, a.hops)) (a.only f d n);
    }
