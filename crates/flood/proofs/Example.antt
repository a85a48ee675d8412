-- Two switches, a cable between them, and a host on each. With limits of 2, the number of switches, there is a flood, and it ends as the theorem says.
-- With limits of 1 its one copy is too old for the second switch, and the host there gets nothing: what is asked of the limits is not idle.
use Prim.Native.Nat.{ℕ, suc, ◌≤◌, ◌<◌}
use mathlib.Core.Path.{◌≡◌, refl, sym}
use mathlib.Core.Logic.{◌≢◌, inl, inr}
use mathlib.Core.Bool.{false, ◌||◌}
use native.Mathlib.Omega.{arith}
use lib.Dec.{eqb}
use borrow.Author.Tests.{eq-eqb, ne_eqb}
use Rattle.flood.specs.Mesh.{Mesh, Across, here, over}
use Rattle.flood.specs.Delivery.{Reaches, Moment, Quiet, Start, Begins, First, Passes, Flooding, begun, passed, LimitsSuffice, EveryHostHasOne}
use Rattle.flood.specs.Records.{Records, Home, Root, NamesAlone, Recording, rooted, learned, EverySwitchHasRecord}
use Rattle.flood.proofs.Laws.{flooding, flood_delivers, records_lead_home, Same, stays}

-- ---- The mesh: at each switch the cable's end and a host's

data End : Type 0 where
  left sender right receiver : End

abbrev switch_of : End → ℕ
switch_of = elim [ left ↦ 0 | sender ↦ 0 | right ↦ 1 | receiver ↦ 1 ]

data Cable : End → End → Type 0 where
  there : Cable left right
  back : Cable right left

turned : {e f : End} → Cable e f → Cable f e
turned there = back
turned back = there

one : {e f g : End} → Cable e f → Cable e g → f ≡ g
one there there = refl
one back back = refl

inside : {e f : End} → Cable e f → switch_of e < 2
inside there = omega arith
inside back = omega arith

abbrev two : ℕ → Mesh
two n = record {
  size = 2;
  limit = λ s. n;
  End = End;
  at = switch_of;
  Cable = Cable;
  both = λ e f. turned;
  one = λ e f g. one;
  inside = λ e f. inside;
}

abbrev start : (n : ℕ) → Start (two n)
start n = record { switch = 0; hops = 1; Due = elim [ left ↦ ⊥ | sender ↦ ⊥ | right ↦ ⊥ | receiver ↦ Unit {0} ] }

-- ---- The moments: before, with the copy on the cable, and after it has been taken or dropped

data Flight : End → ℕ → Type 0 where
  copy : Flight right 1

-- how often the ends left and receiver have sent the frame; the others haven't
abbrev sent_by : ℕ → ℕ → End → ℕ
sent_by l r = elim [ left ↦ l | sender ↦ 0 | right ↦ 0 | receiver ↦ r ]

module _ (n : ℕ) where
  abbrev before : Moment (two n)
  before = record { holds = λ t. false; flies = λ e k. ⊥; sent = sent_by 0 0 }

  abbrev flying : Moment (two n)
  flying = record { holds = λ t. eqb t 0; flies = Flight; sent = sent_by 1 0 }

  abbrev taken : Moment (two n)
  taken = record { holds = λ t. eqb t 1 || eqb t 0; flies = λ e k. ⊥; sent = sent_by 1 1 }

  abbrev dropped : Moment (two n)
  dropped = record { holds = λ t. eqb t 0; flies = λ e k. ⊥; sent = sent_by 1 0 }

  begins : Begins (start n) before flying
  begins = record {
    in_mesh = omega arith;
    unheard = λ t. refl;
    quiet = λ e k w. w;
    unsent = elim [ left ↦ refl | sender ↦ refl | right ↦ refl | receiver ↦ refl ];
    sends = record {
      noted = eq-eqb 0 0 refl;
      others = λ t d. ne_eqb t 0 d;
      placed = λ e f d c. inr (placed c d);
      only = λ f j w. inr (sent w);
      gone = λ f j w. absurd w;
      at_most = elim [ left ↦ λ d. omega arith | sender ↦ λ d. omega arith | right ↦ λ d. omega arith | receiver ↦ λ d. omega arith ];
      due = elim [ left ↦ λ d w. refl | sender ↦ λ d w. absurd w | right ↦ λ d w. absurd w | receiver ↦ λ d w. absurd (omega (arith, d)) ];
      silent = elim [ left ↦ λ d. absurd (d refl) | sender ↦ λ d. refl | right ↦ λ d. refl | receiver ↦ λ d. refl ];
    };
  }
    where
      placed : {e f : End} → Cable e f → switch_of e ≡ 0 → Flight f 1
      placed there d = copy
      placed back d = absurd (omega (arith, d))

      sent : {f : End} {j : ℕ} → Flight f j → Reaches (two n) 0 f × (j ≡ 1)
      sent copy = (record { from = left; own = refl; cable = there }, refl)

  takes : First (start n) right 1 flying taken
  takes = record {
    taken = copy;
    new = refl;
    sends = record {
      noted = rw (eq-eqb 1 1 refl);
      others = λ t d. rw (ne_eqb t 1 d);
      placed = λ e f d c. inl (placed c d);
      only = λ f j w. absurd w;
      gone = λ f j w. inr (at_right w);
      at_most = elim [ left ↦ λ d. omega arith | sender ↦ λ d. omega arith | right ↦ λ d. omega arith | receiver ↦ λ d. omega arith ];
      due = elim [ left ↦ λ d w. absurd w | sender ↦ λ d w. absurd w | right ↦ λ d w. absurd w | receiver ↦ λ d w. refl ];
      silent = elim [ left ↦ λ d. refl | sender ↦ λ d. refl | right ↦ λ d. refl | receiver ↦ λ d. absurd (d refl) ];
    };
  }
    where
      placed : {e f : End} → Cable e f → switch_of e ≡ 1 → e ≡ right
      placed there d = absurd (omega (arith, d))
      placed back d = refl

      at_right : {f : End} {j : ℕ} → Flight f j → switch_of f ≡ 1
      at_right copy = refl

too_old : {e : End} {k : ℕ} → Flight e k → 1 ≤ k
too_old copy = omega arith

-- the copy says 1 hop, and has reached a limit of 1
drops : Passes (flying 1) (dropped 1)
drops = record {
  gone = λ e k w. inr (inr (too_old w));
  only = λ e k w. absurd w;
  kept = λ e k w t h. h;
  unmade = λ t h. h;
  silent = λ e. refl;
}

-- ---- The records: switch 0 names the sender's end, and once it has taken the copy switch 1 names the cable's

abbrev root : Records (two 2)
root = record { names = elim [ left ↦ ⊥ | sender ↦ Unit {0} | right ↦ ⊥ | receiver ↦ ⊥ ]; hops = suc }

abbrev both : Records (two 2)
both = record { names = elim [ left ↦ ⊥ | sender ↦ Unit {0} | right ↦ Unit {0} | receiver ↦ ⊥ ]; hops = suc }

recording : Recording (start 2) sender (taken 2) both
recording = learned (rooted home (begins 2) rooted_here) (takes 2) (record { own = learns; others = λ s d. stays (same s d) })
  where
    home : Home (start 2) sender
    home = record { own = refl; outside = λ f. elim [ ] }

    rooted_here : Root (start 2) sender root
    rooted_here = record { named = tt; only = elim [ left ↦ λ w. absurd w | sender ↦ λ w. refl | right ↦ λ w. absurd w | receiver ↦ λ w. absurd w ]; hops = refl }

    learns : NamesAlone {M = two 2} right 2 both
    learns = record {
      named = tt;
      only = elim [ left ↦ λ d w. absurd w | sender ↦ λ d w. absurd (omega (arith, d)) | right ↦ λ d w. refl | receiver ↦ λ d w. absurd w ];
      hops = refl;
    }

    same : (s : ℕ) → s ≢ 1 → Same root both s
    same s d = record {
      names = elim [ left ↦ λ o. ((λ w. w), (λ w. w)) | sender ↦ λ o. ((λ w. w), (λ w. w)) | right ↦ λ o. absurd (d (sym o)) | receiver ↦ λ o. ((λ w. w), (λ w. w)) ];
      hops = refl;
    }

-- ---- What comes of it

-- with limits of 2: no copy is in flight, the receiver has one, and both switches have a record
pub ends_well : Quiet (taken 2) × EveryHostHasOne (start 2) (taken 2) × EverySwitchHasRecord both 0
ends_well = (quiet, (flood_delivers _ _ _ (flooding recording)).receives enough quiet, (records_lead_home _ _ _ _ _ recording).all enough quiet)
  where
    quiet : Quiet (taken 2)
    quiet e k w = w

    enough : LimitsSuffice (start 2)
    enough s h = omega arith

-- with limits of 1: no copy is in flight, and the receiver has none
pub misses : Flooding (start 1) (dropped 1) × Quiet (dropped 1) × (EveryHostHasOne (start 1) (dropped 1) → ⊥)
misses = (passed (begun (begins 1)) drops, (λ e k w. w), λ all. omega (arith, all receiver (over here cable) tt))
  where
    cable : Across (two 1) 0 1
    cable = record { near = left; far = right; leaves = refl; cable = there; arrives = refl }
