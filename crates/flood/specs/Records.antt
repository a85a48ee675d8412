-- The second half of the flood theorem: what the switches record of the frame's sender leads back to it.
--
-- A switch records the end at which it took its first copy, with one hop more than the copy said. A later copy may move the record to its own end, or
-- add that end to it, as long as the hop count doesn't grow. So a switch may name several ends, and the claims hold for every choice among them.
use Rattle.std.specs.Prelude.{ℕ, suc, ◌≤◌, ◌<◌, ◌≡◌, ◌≢◌, ◌⊎◌, true}
use Rattle.flood.specs.Mesh.{Mesh, Across, Joined}
use Rattle.flood.specs.Delivery.{Moment, Quiet, Start, Begins, First, Passes, LimitsSuffice}

-- ---- The records of a moment

-- the ends that are named, each by the switch that it is at, and the hop count that a switch has beside them
pub record Records (M : Mesh) : Type 1 where
  pub names : M.End → Type 0
  pub hops : ℕ → ℕ

-- switch s has a record: it names an end
pub record Has {M : Mesh} (r : Records M) (s : ℕ) : Type 0 where
  pub end : M.End
  pub own : M.at end ≡ s
  pub named : r.names end

-- the switch of end e names e alone, with h hops
pub record NamesAlone {M : Mesh} (e : M.End) (h : ℕ) (r : Records M) : Type 0 where
  pub named : r.names e
  pub only : (f : M.End) → M.at f ≡ M.at e → r.names f → f ≡ e
  pub hops : r.hops (M.at e) ≡ h

-- ---- The steps: x and r are before, y and q after

-- home is the sender's end: it is at the first switch, and has no cable to another
pub record Home {M : Mesh} (S : Start M) (home : M.End) : Type 0 where
  pub own : M.at home ≡ S.switch
  pub outside : (f : M.End) → M.Cable home f → ⊥

-- the flood has begun: home is named, with the hop count that the copies say, and nothing else is
pub record Root {M : Mesh} (S : Start M) (home : M.End) (q : Records M) : Type 0 where
  pub named : q.names home
  pub only : (e : M.End) → q.names e → e ≡ home
  pub hops : q.hops S.switch ≡ S.hops

-- what a step may do to the record of switch s, if s doesn't take its first copy
pub record Relearns {M : Mesh} (x y : Moment M) (r q : Records M) (s : ℕ) : Type 0 where
  -- a record stays, and its hop count doesn't grow
  pub kept : Has r s → Has q s
  pub lower : Has r s → q.hops s ≤ r.hops s
  -- a new one is there only if the filter of s holds the frame
  pub noted : Has q s → Has r s ⊎ (y.holds s ≡ true)
  -- an end that s names it named before, with the same hop count; or a copy was in flight to it that said one hop less
  pub from : (e : M.End) → M.at e ≡ s → q.names e → (r.names e × (q.hops s ≡ r.hops s)) ⊎ ((k : ℕ) × x.flies e k × (q.hops s ≡ suc k))

-- a first copy was taken at end e, where it said k hops
pub record Learns {M : Mesh} (e : M.End) (k : ℕ) (x y : Moment M) (r q : Records M) : Type 0 where
  pub own : NamesAlone e (suc k) q
  pub others : (s : ℕ) → s ≢ M.at e → Relearns x y r q s

-- the moments of a flood, each with its records
pub data Recording {M : Mesh} (S : Start M) (home : M.End) : Moment M → Records M → Type 1 where
  rooted : {x y : Moment M} {q : Records M} → Home S home → Begins S x y → Root S home q → Recording S home y q
  learned : {x y : Moment M} {r q : Records M} {e : M.End} {k : ℕ} → Recording S home x r → First S e k x y → Learns e k x y r q → Recording S home y q
  relearned : {x y : Moment M} {r q : Records M} → Recording S home x r → Passes x y → ((s : ℕ) → Relearns x y r q s) → Recording S home y q

-- ---- Following them

-- end e is home, or its cable leads on
abbrev pub LeadsOn : (M : Mesh) → M.End → M.End → Type 0
LeadsOn M home e = (e ≡ home) ⊎ ((f : M.End) × M.Cable e f)

module _ {M : Mesh} (r : Records M) where
  -- from switch s to switch t, over a cable at an end that s names
  pub record Follows (s t : ℕ) : Type 0 where
    pub across : Across M s t
    pub named : r.names across.near

  -- from switch s to switch t, over one such cable or more, with any choice among the ends named
  pub data Path (s : ℕ) : ℕ → Type 0 where
    once : {t : ℕ} → Follows s t → Path s t
    more : {t u : ℕ} → Path s t → Follows t u → Path s u

  -- from switch s, whatever is chosen: s names an end, each that it names is home or leads on, and so from each switch to which it leads. It is
  -- finite, as all that is built by `ends` is, so every choice comes to home
  pub data EndsAt (home : M.End) : ℕ → Type 0 where
    ends : {s : ℕ} → Has r s → ((e : M.End) → M.at e ≡ s → r.names e → LeadsOn M home e) → ((t : ℕ) → Follows s t → EndsAt home t) → EndsAt home s

  -- the cable at end e leads to a switch that has a record, with fewer hops
  pub record Down (e : M.End) : Type 0 where
    pub far : M.End
    pub cable : M.Cable e far
    pub recorded : Has r (M.at far)
    pub fewer : r.hops (M.at far) < r.hops (M.at e)

  -- ---- What is claimed of the records of a moment

  -- each end named is home, or leads to a switch with fewer hops
  abbrev pub LeadsDown : M.End → Type 0
  LeadsDown home = (e : M.End) → r.names e → (e ≡ home) ⊎ Down e

  -- following the records visits no switch twice: no path comes back to where it was
  abbrev pub VisitsNoSwitchTwice : Type 0
  VisitsNoSwitchTwice = (s : ℕ) → Path s s → ⊥

  -- from each switch that has a record, following them ends at home
  abbrev pub EndsAtHome : M.End → Type 0
  EndsAtHome home = (s : ℕ) → Has r s → EndsAt home s

  -- all switches joined to switch s by live cables have a record
  abbrev pub EverySwitchHasRecord : ℕ → Type 0
  EverySwitchHasRecord s = (t : ℕ) → Joined M s t → Has r t

-- ---- The second half of the theorem. Its term is `records_lead_home` of proofs/Laws

-- at a moment of a flood
pub record LeadsHome {M : Mesh} (S : Start M) (home : M.End) (x : Moment M) (r : Records M) : Type 0 where
  pub down : LeadsDown r home
  pub none_twice : VisitsNoSwitchTwice r
  pub ends : EndsAtHome r home
  pub all : LimitsSuffice S → Quiet x → EverySwitchHasRecord r S.switch

-- of every flood, at every moment
abbrev pub RecordsLeadHome : Type 1
RecordsLeadHome = (M : Mesh) (S : Start M) (home : M.End) (x : Moment M) (r : Records M) → Recording S home x r → LeadsHome S home x r
