-- What the code does at an event: the words carry the copies in flight, one head takes its turn on them, and all heads follow.
use Prim.Native.Nat.{ℕ, ◌-◌, ◌<◌}
use mathlib.Core.Path.{◌≡◌, sym, ap, ◌∙◌}
use mathlib.Core.Bool.{Bool}
use mathlib.Core.List.{List, ◌++◌}
use native.Mathlib.Omega.{arith}
use lib.ListN.{get_or, length, replicate, set}
use Rattle.network.specs.Network.{most_switches}
use Rattle.seat.specs.declared.Seat.{Seat}
use Rattle.flight.specs.declared.Copy.{Copy}
use Rattle.flight.specs.Flight.{Worded, copies_in, most, no_copy}
use Rattle.flight.proofs.Laws.{copies_length}
use Rattle.event.specs.declared.Event.{Event}
use Rattle.std.specs.Prelude.{Ok}
use Rattle.turn.specs.declared.Done.{Done}
use Rattle.turn.specs.Turn.{CanTurn, Kept, Turn, Turns, head_of, own_refusal, turn_of}
use Rattle.turn.proofs.Laws.{can_turn, head_there}
use Rattle.bench.specs.declared.Bench.{Bench}
use Rattle.bench.specs.Bench.{bench_of, in_flight, no_seat, seat_at}
use Rattle.bench.specs.Events.{event_of, follow, happened_as, turn_in}
use Rattle.bench.specs.Shape.{Accepted}
use Rattle.bench.proofs.Described.{few_switches}

module _ (b : Bench) (e : Event) where
  -- the head whose turn it is
  abbrev turns : ℕ
  turns = head_of b.network (in_flight b) e

  module _ (ok : Accepted b e) {words : List (List ℕ)} (w : Worded b.flying b.copies words) (whole : length words ≡ most) where
    carried : copies_in b.flying words ≡ in_flight b
    unfolding in_flight
    carried = w.copies

    pub words_kept : Kept words b.flying
    words_kept = record { whole = whole; few = ok.shape.few }

    free : own_refusal b.network (length (in_flight b)) e ≡ 0
    free =
        let long : length (in_flight b) ≡ b.flying = ap length (sym carried) ∙ copies_length b.flying words (omega (arith, ok.shape.few)) in
        rw long ok.free

    pub head_is : {k : ℕ} → ((flying : ℕ) → Kept words flying → own_refusal b.network flying e ≡ 0 → k ≡ head_of b.network (copies_in flying words) e) → k ≡ turns
    head_is h = h b.flying words_kept ok.free ∙ ap (λ l. head_of b.network l e) carried

    pub head_inside : {k : ℕ} → ((flying : ℕ) → Kept words flying → own_refusal b.network flying e ≡ 0 → k ≡ head_of b.network (copies_in flying words) e) → k < most_switches
    head_inside h =
        let there = head_there b.network ok.shape.described b.up (in_flight b) ok.shape.copies e free in
        rw (head_is h) (omega (arith, few_switches b.network ok.shape.described))

    pub can_turn_on : CanTurn b.network (copies_in b.flying words) e
    can_turn_on = rw carried (can_turn b.network ok.shape.described b.up (in_flight b) ok.shape.copies e free)

    pub happens : {k m : ℕ} {s after : Seat} {u : List Bool} {words' : List (List ℕ)} {d : Done} {seats : List Seat} {copies : List Copy}
        → k ≡ turns → s ≡ get_or b.seats k no_seat → Turns (turn_of b.network b.up s (copies_in b.flying words) e) u after words' m d
        → seats ≡ follow b.network u 0 (set b.seats k after) → copies ≡ copies_in m words' ++ replicate (most - m) no_copy
        → happened_as (bench_of b.network u seats copies m) (Ok d) ≡ event_of b e
    unfolding event_of turn_in seat_at
    happens {k} {m} {s} {after} {u} {words'} {d} {seats} {copies} kk ss t sq cq =
        let same : turn_of b.network b.up s (copies_in b.flying words) e ≡ turn_in b e =
        λ i. turn_of b.network b.up ((ss ∙ ap (λ j. get_or b.seats j no_seat) kk) i) (carried i) e in
        let up : u ≡ (turn_in b e).up = t.up ∙ ap (λ (x : Turn). x.up) same in
        let seat : after ≡ (turn_in b e).seat = t.seat ∙ ap (λ (x : Turn). x.seat) same in
        let flying : copies_in m words' ≡ (turn_in b e).flying = t.copies ∙ ap (λ (x : Turn). x.flying) same in
        let done : d ≡ (turn_in b e).done = t.done ∙ ap (λ (x : Turn). x.done) same in
        let many : m ≡ length (turn_in b e).flying = sym (copies_length m words' (omega (arith, t.whole, t.few))) ∙ ap length flying in
        λ i. record {
          bench = bench_of b.network (up i) ((sq ∙ (λ j. follow b.network (up j) 0 (set b.seats (kk j) (seat j)))) i) ((cq ∙ (λ j. flying j ++ replicate (most - many j) no_copy)) i) (many i);
          answer = Ok (done i);
        }
