-- The bench that a run stands for: the run's links, heads and packed copies, all heads following the links' states. An event on that bench is what the run does.
use Prim.Native.Nat.{ℕ, zero, suc, ◌-◌, ◌<◌, ◌≤◌}
use mathlib.Core.Path.{◌≡◌, refl, sym, ap, ap₂, ◌∙◌}
use native.Mathlib.Omega.{arith}
use lib.ListN.{get_or, length, replicate, set}
use lib.Seq.{take_at}
use Rattle.std.specs.Prelude.{Ok, Err}
use Rattle.refusal.specs.declared.Refusal.{Refusal}
use Rattle.refusal.specs.Number.{number_of}
use Rattle.network.specs.declared.Network.{Network}
use Rattle.network.specs.Network.{most_switches, padded}
use Rattle.seat.specs.declared.Seat.{Seat}
use Rattle.flight.specs.Flight.{copies_in, most, no_copy}
use Rattle.flight.proofs.Laws.{copies_length}
use Rattle.event.specs.declared.Event.{Event}
use Rattle.turn.specs.declared.Done.{Done}
use Rattle.turn.specs.Turn.{Answer, Turn, Turns, head_of, turn_of}
use Rattle.bench.specs.declared.Bench.{Bench}
use Rattle.bench.specs.Bench.{all_up, bench_of, fresh_bench, in_flight, no_seat, seat_at}
use Rattle.bench.specs.Events.{event_of, follow, happened_as, turned, turn_in}
use Rattle.bench.proofs.Laws.{follow_again, follow_at}
use Rattle.counters.specs.declared.Counters.{Counters}
use Rattle.counters.specs.Event.{event_refusal, happens_by, happens_of, refusal_numbered}
use Rattle.transcript.specs.declared.running.Parts.{Parts}
use Rattle.transcript.specs.Running.{Acts, FreshParts, Taken, copies_of, head_at, refusal_at, seated_at, turn_at}
use Rattle.transcript.proofs.Following.{fresh_follow}
use Rattle.transcript.proofs.Small.{own_numbered}

unfoldable pub bench_on : Network → Parts → Bench
bench_on n p = bench_of n p.up (follow n p.up 0 p.seats) (padded no_copy most (copies_of p)) p.flight.flying

-- ---- At the start

-- no words are no copies
pub fresh_stands : (n : Network) {p : Parts} → FreshParts p → n.nswitches ≤ most_switches → bench_on n p ≡ fresh_bench n
unfolding bench_on fresh_bench copies_in
fresh_stands n v few =
    (λ i. bench_of n (v.up i) (follow n (v.up i) 0 (v.seats i)) (padded no_copy most (copies_in (v.flying i) (v.words i))) (v.flying i))
    ∙ ap (λ seats. bench_of n all_up seats (replicate most no_copy) 0) (fresh_follow n all_up few)

-- ---- One event

module _ (n : Network) (p : Parts) where
  abbrev bench : Bench
  bench = bench_on n p

  pub flying_on : in_flight bench ≡ copies_of p
  unfolding in_flight bench_on
  flying_on = take_at (copies_of p) (replicate (most - length (copies_of p)) no_copy) p.flight.flying (copies_length p.flight.flying p.flight.words (omega (arith, p.flight.whole, p.flight.few)))

  module _ (e : Event) where
    -- the turn that the bench's head takes
    turn_on : head_at n p e < n.nswitches → n.nswitches ≤ length p.seats → turn_in bench e ≡ turn_at n p e
    unfolding turn_in seat_at bench_on turn_at seated_at
    turn_on there few =
        ap (λ cs. turn_of n p.up (get_or (follow n p.up 0 p.seats) (head_of n cs e) no_seat) cs e) flying_on
        ∙ ap (λ s. turn_of n p.up s (copies_of p) e) (follow_at n p.up p.seats (head_at n p e) (omega arith) there)

    -- the bench behind a turn
    turned_on : (q : Parts) {d : Done} {s : Seat} {t : Turn} (k : ℕ) → Turns t q.up s q.flight.words q.flight.flying d → q.seats ≡ set p.seats k s → turned bench k t ≡ happened_as (bench_on n q) (Ok d)
    unfolding bench_on
    turned_on q {d} {s} {t} k v seats =
        let many : length t.flying ≡ q.flight.flying = sym (ap length v.copies) ∙ copies_length q.flight.flying q.flight.words (omega (arith, v.whole, v.few)) in
        let heads : follow n t.up 0 (set (follow n p.up 0 p.seats) k t.seat) ≡ follow n q.up 0 q.seats
        = follow_again n p.up t.up p.seats k t.seat ∙ ap₂ (λ u w. follow n u 0 (set p.seats k w)) (sym v.up) (sym v.seat) ∙ ap (λ ss. follow n q.up 0 ss) (sym seats) in
        λ i. happened_as (bench_of n (sym v.up i) (heads i) (padded no_copy most (sym v.copies i)) (many i)) (Ok (sym v.done i))

    module _ (c : Counters) (same : event_refusal bench c e ≡ refusal_at n p e) where
      accepted_on : {d : Done} {q : Parts} → head_at n p e < n.nswitches → n.nswitches ≤ length p.seats → Taken n p e d q → (happens_of bench e c).happened ≡ happened_as (bench_on n q) (Ok d)
      unfolding happens_of event_of bench_on
      accepted_on {q = q} there few v =
          ap (λ j. (happens_by j bench e c).happened) (same ∙ v.free) ∙ ap (λ cs. turned bench (head_of n cs e) (turn_in bench e)) flying_on
          ∙ ap (turned bench (head_at n p e)) (turn_on there few) ∙ turned_on q (head_at n p e) v.turns v.seats

      refused_by : (m : ℕ) → (m ≡ 0 → ⊥) → (happens_by m bench e c).happened ≡ happened_as bench (Err (refusal_numbered m))
      refused_by zero some = absurd (some refl)
      refused_by (suc m) some = refl

      refused_on : (r : Refusal) → number_of r ≡ refusal_at n p e → (happens_of bench e c).happened ≡ happened_as bench (Err r)
      unfolding happens_of
      refused_on r number =
          let own = own_numbered n p.flight.flying e r number in
          ap (λ j. (happens_by j bench e c).happened) same ∙ refused_by (refusal_at n p e) own.0 ∙ ap (λ w. happened_as bench (Err w)) own.1

      -- what happens on the bench, refused for its own causes alone, is what the run does
      pub event_on : (a : Answer) (q : Parts) → (refusal_at n p e ≡ 0 → head_at n p e < n.nswitches) → n.nswitches ≤ length p.seats → Acts n p e a q → (happens_of bench e c).happened ≡ happened_as (bench_on n q) a
      event_on (Ok d) q there few v = accepted_on (there v.free) few v
      event_on (Err r) q there few v = refused_on r v.number ∙ ap (λ w. happened_as (bench_on n w) (Err r)) (sym v.same)
