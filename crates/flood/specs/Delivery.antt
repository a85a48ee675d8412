-- The first half of the flood theorem: one frame, flooded over a mesh, reaches everything that is joined.
--
-- A switch that takes its first copy of the frame notes it in its filter and sends it on from its other ends; it drops the copies that come later.
-- Copies are taken in any order, other traffic goes on meanwhile, and no cable changes. What follows asks of each step what the theorem needs, no more.
use Rattle.std.specs.Prelude.{ℕ, suc, ◌+◌, ◌≤◌, ◌<◌, ◌≡◌, ◌≢◌, ◌⊎◌, Bool, true, false, ◌||◌, eqb}
use Rattle.flood.specs.Mesh.{Mesh, Joined}

-- ---- A moment

-- what there is of the frame at one moment. Where the copies in flight are a list, `flies e k` says that such a copy stands in it: whether it stands
-- there twice doesn't matter. Where each step gives a report, `sent e` counts the reports by which e sends the frame.
pub record Moment (M : Mesh) : Type 1 where
  -- the filter of a switch holds the frame
  pub holds : ℕ → Bool
  -- a copy that says k hops is in flight to end e
  pub flies : M.End → ℕ → Type 0
  -- how often an end has sent the frame
  pub sent : M.End → ℕ

-- no copy of it is in flight
abbrev pub Quiet : {M : Mesh} → Moment M → Type 0
Quiet {M} x = (e : M.End) (k : ℕ) → x.flies e k → ⊥

-- where a flood begins: the first switch, the hop count that its copies say, and the ends with a host that is to receive the frame
pub record Start (M : Mesh) : Type 1 where
  pub switch : ℕ
  pub hops : ℕ
  pub Due : M.End → Type 0

-- ---- The steps: x is the moment before, y the moment after

-- an end of switch s has a cable to end f
pub record Reaches (M : Mesh) (s : ℕ) (f : M.End) : Type 0 where
  pub from : M.End
  pub own : M.at from ≡ s
  pub cable : M.Cable from f

-- switch s notes the frame and sends it on; the copies say k hops, and go over all of its cables but those spared
pub record SendsOn {M : Mesh} (S : Start M) (s k : ℕ) (Spared : M.End → Type 0) (x y : Moment M) : Type 0 where
  -- its filter holds the frame then, and no other filter changes
  pub noted : y.holds s ≡ true
  pub others : (t : ℕ) → t ≢ s → y.holds t ≡ x.holds t
  -- no copy is lost for want of room, and no other is new
  pub placed : (e f : M.End) → M.at e ≡ s → M.Cable e f → Spared e ⊎ y.flies f k
  pub only : (f : M.End) (j : ℕ) → y.flies f j → x.flies f j ⊎ (Reaches M s f × (j ≡ k))
  -- a copy that is gone was for s
  pub gone : (f : M.End) (j : ℕ) → x.flies f j → y.flies f j ⊎ (M.at f ≡ s)
  -- an end of s sends the frame at most once, and once if it is due there; no other end sends it
  pub at_most : (e : M.End) → M.at e ≡ s → y.sent e ≤ suc (x.sent e)
  pub due : (e : M.End) → M.at e ≡ s → S.Due e → y.sent e ≡ suc (x.sent e)
  pub silent : (e : M.End) → M.at e ≢ s → y.sent e ≡ x.sent e

-- the flood begins: there was nothing of the frame, and the first switch sends it over all its cables
pub record Begins {M : Mesh} (S : Start M) (x y : Moment M) : Type 0 where
  pub in_mesh : S.switch < M.size
  pub unheard : (t : ℕ) → x.holds t ≡ false
  pub quiet : Quiet x
  pub unsent : (e : M.End) → x.sent e ≡ 0
  pub sends : SendsOn S S.switch S.hops (λ e. ⊥) x y

-- a switch takes its first copy, at end e, where it says k hops: it sends the frame on over all its other cables
pub record First {M : Mesh} (S : Start M) (e : M.End) (k : ℕ) (x y : Moment M) : Type 0 where
  pub taken : x.flies e k
  pub new : x.holds (M.at e) ≡ false
  pub sends : SendsOn S (M.at e) (suc k) (λ f. f ≡ e) x y

-- anything else happens, and the frame isn't sent
pub record Passes {M : Mesh} (x y : Moment M) : Type 0 where
  -- a copy that is gone was for a switch whose filter held the frame, or whose limit it had reached; no copy is new
  pub gone : (e : M.End) (k : ℕ) → x.flies e k → y.flies e k ⊎ (x.holds (M.at e) ≡ true) ⊎ (M.limit (M.at e) ≤ k)
  pub only : (e : M.End) (k : ℕ) → y.flies e k → x.flies e k
  -- no filter record of it is overwritten while a copy is in flight, and none is made
  pub kept : (e : M.End) (k : ℕ) → x.flies e k → (t : ℕ) → x.holds t ≡ true → y.holds t ≡ true
  pub unmade : (t : ℕ) → x.holds t ≡ false → y.holds t ≡ false
  pub silent : (e : M.End) → y.sent e ≡ x.sent e

-- the moments of a flood
pub data Flooding {M : Mesh} (S : Start M) : Moment M → Type 1 where
  begun : {x y : Moment M} → Begins S x y → Flooding S y
  first : {x y : Moment M} {e : M.End} {k : ℕ} → Flooding S x → First S e k x y → Flooding S y
  passed : {x y : Moment M} → Flooding S x → Passes x y → Flooding S y

-- the switches that have seen the frame: the first, and each that took a first copy. A filter may forget it later; this doesn't
unfoldable pub seen : {M : Mesh} {S : Start M} {x : Moment M} → Flooding S x → ℕ → Bool
seen {S} (begun b) t = eqb t S.switch
seen {M} (first {e} v f) t = eqb t (M.at e) || seen v t
seen (passed v p) t = seen v t

-- ---- What is claimed of a moment

-- each end has sent the frame at most once
abbrev pub SentAtMostOnce : {M : Mesh} → Moment M → Type 0
SentAtMostOnce {M} x = (e : M.End) → x.sent e ≤ 1

-- a copy that has reached the limit of its switch is for one that has seen the frame
abbrev pub OldOnlyWhereSeen : {M : Mesh} {S : Start M} {x : Moment M} → Flooding S x → Type 0
OldOnlyWhereSeen {M} {x} v = (e : M.End) (k : ℕ) → x.flies e k → M.limit (M.at e) ≤ k → seen v (M.at e) ≡ true

-- all switches joined to the first by live cables have seen the frame
abbrev pub EverySwitchHasSeen : {M : Mesh} {S : Start M} {x : Moment M} → Flooding S x → Type 0
EverySwitchHasSeen {M} {S} v = (t : ℕ) → Joined M S.switch t → seen v t ≡ true

-- all hosts on them that are to receive it have received exactly one copy
abbrev pub EveryHostHasOne : {M : Mesh} → Start M → Moment M → Type 0
EveryHostHasOne {M} S x = (e : M.End) → Joined M S.switch (M.at e) → S.Due e → x.sent e ≡ 1

-- ---- The first half of the theorem. Its term is `flood_delivers` of proofs/Laws

-- the hop count at the start plus the number of switches less 1 is at most every hop limit
abbrev pub LimitsSuffice : {M : Mesh} → Start M → Type 0
LimitsSuffice {M} S = (s : ℕ) → s < M.size → S.hops + M.size ≤ M.limit s + 1

-- at a moment of a flood
pub record Delivers {M : Mesh} {S : Start M} {x : Moment M} (v : Flooding S x) : Type 0 where
  pub once : SentAtMostOnce x
  pub old : LimitsSuffice S → OldOnlyWhereSeen v
  pub sees : LimitsSuffice S → Quiet x → EverySwitchHasSeen v
  pub receives : LimitsSuffice S → Quiet x → EveryHostHasOne S x

-- of every flood, at every moment
abbrev pub FloodDelivers : Type 1
FloodDelivers = (M : Mesh) (S : Start M) (x : Moment M) (v : Flooding S x) → Delivers v
