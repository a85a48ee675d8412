-- Heads that follow: each keeps its nonce, table and filter, and has the setup that description and link states give it.
use Prim.Native.Nat.{ℕ, zero, suc, ◌+◌, ◌<◌, ◌≤◌}
use mathlib.Core.Path.{◌≡◌, refl, sym, ap, ◌∙◌}
use mathlib.Core.Logic.{by_cases}
use mathlib.Core.Bool.{Bool, true, false, cond}
use mathlib.Core.List.{List, [], ◌∷◌}
use native.Mathlib.Decide.{dec_lt, ℕ_discrete}
use native.Mathlib.Omega.{arith}
use lib.Dec.{ltb}
use lib.ListN.{get_or, length, length-set, set}
use lib.Seq.{ext_get_or, get_or-set_other, get_or-set_same}
use borrow.Author.Tests.{le-ltb, lt-ltb}
use Rattle.network.specs.declared.Network.{Network}
use Rattle.rules.specs.declared.Setup.{Setup}
use Rattle.cabling.specs.Cabling.{plugs_of, setup_of}
use Rattle.seat.specs.declared.Seat.{Seat}
use Rattle.seat.specs.Seat.{with_setup}
use Rattle.bench.specs.Bench.{no_seat}
use Rattle.bench.specs.Events.{follow}

module _ (n : Network) (up : List Bool) where
  -- head k, if there is one
  abbrev pub followed : ℕ → Seat → Seat
  followed k s = cond (ltb k n.nswitches) (with_setup (setup_of n (plugs_of n) up k) s) s

  pub follow_length : (k : ℕ) (ss : List Seat) → length (follow n up k ss) ≡ length ss
  unfolding follow
  follow_length k [] = refl
  follow_length k (s ∷ ss) = ap suc (follow_length (k + 1) ss)

  from_at : (ss : List Seat) (k j : ℕ) (d : Seat) → j < length ss → get_or (follow n up k ss) j d ≡ followed (k + j) (get_or ss j d)
  unfolding follow
  from_at [] k j d h = absurd (omega arith)
  from_at (s ∷ ss) k zero d h = let e : k ≡ k + 0 = omega arith in ap (λ i. followed i s) e
  from_at (s ∷ ss) k (suc j) d h = let e : k + 1 + j ≡ k + suc j = omega arith in from_at ss (k + 1) j d (omega arith) ∙ ap (λ i. followed i (get_or ss j d)) e

  pub each_followed : (ss : List Seat) (j : ℕ) (d : Seat) → j < length ss → get_or (follow n up 0 ss) j d ≡ followed j (get_or ss j d)
  each_followed ss j d h = let e : 0 + j ≡ j = omega arith in from_at ss 0 j d h ∙ ap (λ i. followed i (get_or ss j d)) e

  -- a head that there is has its setup, and the others stay
  pub follow_at : (ss : List Seat) (k : ℕ) → k < length ss → k < n.nswitches → get_or (follow n up 0 ss) k no_seat ≡ with_setup (setup_of n (plugs_of n) up k) (get_or ss k no_seat)
  follow_at ss k h l = each_followed ss k no_seat h ∙ rw (lt-ltb k n.nswitches l)

-- heads that followed other states before follow the same, wherever a head was put between
pub follow_again : (n : Network) (up next : List Bool) (ss : List Seat) (k : ℕ) (s : Seat) → follow n next 0 (set (follow n up 0 ss) k s) ≡ follow n next 0 (set ss k s)
follow_again n up next ss k s = ext_get_or no_seat _ _ long (λ j h. each j (omega (arith, once)))
  where
    before : List Seat
    before = set (follow n up 0 ss) k s

    once : length (follow n next 0 before) ≡ length ss
    once = follow_length n next 0 before ∙ length-set (follow n up 0 ss) k s ∙ follow_length n up 0 ss

    long : length (follow n next 0 before) ≡ length (follow n next 0 (set ss k s))
    long = once ∙ sym (follow_length n next 0 (set ss k s) ∙ length-set ss k s)

    twice : (j : ℕ) (b : Bool) (x y : Setup) (t : Seat) → cond b (with_setup x (cond b (with_setup y t) t)) (cond b (with_setup y t) t) ≡ cond b (with_setup x t) t
    twice j true x y t = refl
    twice j false x y t = refl

    same : (j : ℕ) → j < length ss → followed n next j (get_or before j no_seat) ≡ followed n next j (get_or (set ss k s) j no_seat)
    same j h = by_cases (ℕ_discrete j k)
        (λ e. ap (λ t. followed n next j t) (here e))
        (λ e. ap (λ t. followed n next j t) (get_or-set_other (follow n up 0 ss) k j s no_seat e ∙ each_followed n up ss j no_seat h)
        ∙ twice j (ltb j n.nswitches) _ _ (get_or ss j no_seat) ∙ ap (λ t. followed n next j t) (sym (get_or-set_other ss k j s no_seat e)))
      where
        here : j ≡ k → get_or before j no_seat ≡ get_or (set ss k s) j no_seat
        here e = rw e (get_or-set_same (follow n up 0 ss) k s no_seat (omega (arith, follow_length n up 0 ss)) ∙ sym (get_or-set_same ss k s no_seat (omega arith)))

    each : (j : ℕ) → j < length ss → get_or (follow n next 0 before) j no_seat ≡ get_or (follow n next 0 (set ss k s)) j no_seat
    each j h =
        each_followed n next before j no_seat (omega (arith, length-set (follow n up 0 ss) k s, follow_length n up 0 ss)) ∙ same j h
        ∙ sym (each_followed n next (set ss k s) j no_seat (omega (arith, length-set ss k s)))

-- a loop over the heads: those before k followed
pub record Followed (n : Network) (up : List Bool) (before after : List Seat) (k : ℕ) : Type 0 where
  pub long : length after ≡ length before
  pub done : (j : ℕ) → j < k → get_or after j no_seat ≡ with_setup (setup_of n (plugs_of n) up j) (get_or before j no_seat)
  pub left : (j : ℕ) → k ≤ j → get_or after j no_seat ≡ get_or before j no_seat

module _ {n : Network} {up : List Bool} {before : List Seat} where
  pub all_followed : {after : List Seat} {k : ℕ} → Followed n up before after k → k ≤ n.nswitches → n.nswitches ≤ k → after ≡ follow n up 0 before
  all_followed {after} {k} v within past = ext_get_or no_seat after (follow n up 0 before) (v.long ∙ sym (follow_length n up 0 before)) each
    where
      each : (j : ℕ) → j < length after → get_or after j no_seat ≡ get_or (follow n up 0 before) j no_seat
      each j l =
          let there : j < length before = omega (arith, v.long) in
          by_cases (dec_lt j n.nswitches)
          (λ d. v.done j (omega arith) ∙ sym (follow_at n up before j there d))
          (λ d. v.left j (omega arith) ∙ sym (each_followed n up before j no_seat there ∙ rw (le-ltb j n.nswitches (omega arith))))
