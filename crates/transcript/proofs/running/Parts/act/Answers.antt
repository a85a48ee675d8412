-- An accepted event is the turn of the head that it concerns, under the setup that the links give it.
use Prim.Native.Nat.{ℕ, ◌<◌}
use mathlib.Core.Path.{◌≡◌, sym, ap, subst, ◌∙◌}
use mathlib.Core.List.{List}
use native.Mathlib.Omega.{arith}
use borrow.Author.Rules.{rules}
use lib.ListN.{get_or, length, set}
use Rattle.std.proofs.lemmas.List.{get_or_default}
use Rattle.refusal.specs.Number.{refused_as}
use Rattle.network.specs.declared.Network.{Network}
use Rattle.rules.specs.declared.Setup.{Setup}
use Rattle.cabling.specs.Cabling.{plugs_of, setup_of}
use Rattle.seat.specs.declared.Seat.{Seat}
use Rattle.seat.specs.Seat.{with_setup}
use Rattle.turn.specs.Turn.{Turns, turn_of}
use Rattle.bench.specs.Bench.{no_seat}
use Rattle.transcript.specs.declared.running.Parts.{Parts}
use Rattle.transcript.specs.Running.{copies_of, head_at, refusal_at, seated_at, turn_at}
use Rattle.transcript.proofs.running.Parts.act.Goals as goal

-- head k as it is lent
lent : (n : Network) (p : Parts) (k : ℕ) {j : ℕ} {plugs : List ℕ} {setup : Setup} {s : Seat} (d : Seat)
    → s ≡ with_setup setup (get_or p.seats k d) → setup ≡ setup_of n plugs p.up k → plugs ≡ plugs_of n → k ≡ j → k < length p.seats → s ≡ seated_at n p.up j (get_or p.seats j no_seat)
unfolding seated_at
lent n p k d is set_up plugged same within =
    is ∙ ap (λ w. with_setup w (get_or p.seats k d)) (set_up ∙ ap (λ ps. setup_of n ps p.up k) plugged)
    ∙ ap (λ s. seated_at n p.up k s) (get_or_default p.seats k d no_seat within) ∙ ap (λ i. seated_at n p.up i (get_or p.seats i no_seat)) same

pub returns : goal.returns
unfolding turn_at
returns c =
    let n = c.args.stand.now.network in
    let p = c.args.self.now in
    let e = c.args.e in
    let k = c.head_of-k.result in
    let t = c.turn-done in
    let free : refusal_at n p e ≡ 0 = sym c.check_event.ensures ∙ ap refused_as c.in_ok-check_event.was in
    let is : k ≡ head_at n p e = c.head_of-k.ensures.accepted p.flight.flying (record { whole = p.flight.whole; few = p.flight.few }) free in
    let few : k < 16 = omega (arith, is, c.requires.few free) in
    let within : k < length p.seats = search rules in
    record {
      free = free;
      seat = t.new.seat;
      turns = subst (λ s. Turns (turn_of n p.up s (copies_of p) e) t.new.up t.new.seat t.new.flight.words t.new.flight.flying t.result)
          (lent n p k _ c.set_up.ensures c.setup_of-setup.ensures c.args.stand.now.cabled is within) t.ensures.turns;
      seats = ap (λ j. set p.seats j t.new.seat) is;
    }
