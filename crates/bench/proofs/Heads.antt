-- The heads of a fresh bench, one by one.
use Prim.Native.Nat.{ℕ, zero, suc, ◌+◌, ◌-◌, ◌<◌, ◌≤◌}
use mathlib.Core.Path.{◌≡◌, refl, sym, ap, ◌∙◌}
use mathlib.Core.Logic.{by_cases}
use mathlib.Core.Bool.{Bool}
use mathlib.Core.List.{List, []}
use native.Mathlib.Decide.{dec_lt, ℕ_discrete}
use native.Mathlib.Numerals.{add-one}
use native.Mathlib.Omega.{arith}
use lib.ListN.{get_or, get_or-append, get_or-replicate, length, length-append, length-replicate, replicate}
use lib.Seq.{ext_get_or, get_or-append_right, get_or_at}
use borrow.Author.Tests.{le-ltb, lt-ltb}
use Rattle.network.specs.declared.Network.{Network}
use Rattle.network.specs.Network.{most_switches, padded}
use Rattle.rules.specs.declared.Setup.{Setup}
use Rattle.cabling.specs.Cabling.{plugs_of, setup_of}
use Rattle.seat.specs.declared.Seat.{Seat}
use Rattle.seat.specs.Seat.{fresh_seat, with_setup}
use Rattle.flight.specs.declared.Copy.{Copy}
use Rattle.flight.specs.Flight.{most, no_copy}
use Rattle.bench.specs.Bench.{all_up, bench_of, fresh_bench, fresh_heads, no_seat}
use Rattle.bench.specs.Events.{follow}
use Rattle.bench.proofs.Following.{each_followed, follow_length, followed}
use Rattle.bench.proofs.Lists.{padded_length}

module _ (n : Network) (up : List Bool) where
  pub heads_length : (k : ℕ) → length (fresh_heads n up k) ≡ k
  unfolding fresh_heads
  heads_length zero = refl
  heads_length (suc k) = length-append (fresh_heads n up k) _ ∙ ap (λ m. m + 1) (heads_length k) ∙ add-one k

  pub heads_at : (m k : ℕ) → k < m → (d : Seat) → get_or (fresh_heads n up m) k d ≡ fresh_seat (setup_of n (plugs_of n) up k)
  unfolding fresh_heads
  heads_at zero k h d = absurd (omega arith)
  heads_at (suc m) k h d =
      let long = heads_length m in
      by_cases (ℕ_discrete k m) (λ e. rw e (get_or_at (fresh_heads n up m) _ [] d m long))
      (λ e. get_or-append (fresh_heads n up m) _ d k (omega arith) ∙ heads_at m k (omega arith) d)

  -- a head of no setup that gets one is fresh
  set_up_none : (w : Setup) → with_setup w no_seat ≡ fresh_seat w
  unfolding fresh_seat
  set_up_none w = refl

  -- where no head is seated yet, all heads that follow are the first heads, and behind them there is none
  pub none_follow : n.nswitches ≤ most_switches → follow n up 0 (replicate most_switches no_seat) ≡ padded no_seat most_switches (fresh_heads n up n.nswitches)
  none_follow few = ext_get_or no_seat _ _ (long ∙ sym (padded_length no_seat most_switches heads (omega (arith, seated)))) (λ j h. each j (omega (arith, long)))
    where
      none : List Seat
      none = replicate most_switches no_seat

      heads : List Seat
      heads = fresh_heads n up n.nswitches

      seated : length heads ≡ n.nswitches
      seated = heads_length n.nswitches

      long : length (follow n up 0 none) ≡ most_switches
      long = follow_length n up 0 none ∙ length-replicate most_switches no_seat

      each : (j : ℕ) → j < most_switches → get_or (follow n up 0 none) j no_seat ≡ get_or (padded no_seat most_switches heads) j no_seat
      each j h =
          each_followed n up none j no_seat (omega (arith, length-replicate most_switches no_seat)) ∙ ap (λ s. followed n up j s) (get_or-replicate most_switches j no_seat no_seat h)
          ∙ by_cases (dec_lt j n.nswitches)
          (λ d. rw (lt-ltb j n.nswitches d) (set_up_none _ ∙ sym (get_or-append heads _ no_seat j (omega (arith, seated)) ∙ heads_at n.nswitches j d no_seat)))
          (λ d. rw (le-ltb j n.nswitches (omega arith)) (sym (get_or-append_right heads _ j no_seat (omega (arith, seated)) ∙ get_or-replicate (most_switches - length heads) (j - length heads) no_seat no_seat (omega (arith, seated)))))

-- heads of no setup that follow are those of a fresh bench
pub follows_fresh : {n : Network} {s : Seat} {seats : List Seat} {c : Copy} → n.nswitches ≤ most_switches → s ≡ no_seat
    → seats ≡ follow n all_up 0 (replicate most_switches s) → c ≡ no_copy → bench_of n all_up seats (replicate most c) 0 ≡ fresh_bench n
unfolding fresh_bench
follows_fresh {n} few none e c =
    let heads = e ∙ ap (λ s. follow n all_up 0 (replicate most_switches s)) none ∙ none_follow n all_up few in
    λ i. bench_of n all_up (heads i) (replicate most (c i)) 0
