-- An accepted event keeps the bench in shape, steps truly, and changes nothing else.
use Prim.Native.Nat.{ℕ, ◌<◌}
use mathlib.Core.Path.{◌≡◌, refl, sym, ap, ◌∙◌}
use mathlib.Core.Logic.{◌≢◌, inl, inr, by_cases}
use mathlib.Core.Bool.{Bool, true, false}
use mathlib.Core.List.{List}
use native.Mathlib.Decide.{ℕ_discrete}
use native.Mathlib.Omega.{arith}
use Rattle.std.specs.Prelude.{Ok}
use lib.ListN.{get_or, length, set}
use lib.Seq.{get_or-set_other, get_or-set_same, length-take-le}
use Rattle.network.specs.declared.Network.{Network}
use Rattle.network.specs.Checks.{network_fault}
use Rattle.rules.specs.declared.Arrival.{Arrival}
use Rattle.rules.specs.declared.Setup.{Setup}
use Rattle.rules.specs.Mask.{names}
use Rattle.cabling.specs.declared.End.{End}
use Rattle.cabling.specs.Cabling.{FineSetup, host_at, is_hosts, plugs_of, port_of, setup_of, switch_at}
use Rattle.cabling.proofs.Laws.{at_end, at_host, end_up, host_up, hosts_is, other_link, setup_sound}
use Rattle.seat.specs.declared.Seat.{Seat}
use Rattle.seat.specs.Seat.{from_host, from_link, step_of, with_setup}
use Rattle.seat.specs.Frames.{HostStepIsTheStep, IsTheStep, LinkStepIsTheStep, host_frame, link_frame}
use Rattle.seat.specs.Words.{Formed, Lawful}
use Rattle.seat.proofs.Frames.{host_step_is_the_step, link_step_is_the_step}
use Rattle.seat.proofs.Laws.{step_setup, with_setup_formed}
use Rattle.flight.specs.declared.Copy.{Copy}
use Rattle.flight.specs.Flight.{without}
use Rattle.event.specs.declared.Event.{Event}
use Rattle.event.specs.declared.Event.TheVariants.{Present, Take, Link}
use Rattle.event.specs.declared.Presented.{Presented}
use Rattle.event.specs.declared.Setting.{Setting}
use Rattle.event.specs.Event.{address_of}
use Rattle.turn.specs.Fits.{CopyFits, SeatFits}
use Rattle.turn.specs.Turn.{Turn, copy_arrival, copy_at, end_of, head_of, host_arrival, host_of, is_up, own_refusal, port_to, presents, sets, steps, takes, turn_of}
use Rattle.turn.proofs.Laws as turn
use Rattle.turn.proofs.Laws.{copy_fits_lem, head_there, host_accepted, host_source, to_accepted, turn_few, turn_formed, turn_keeps, turn_setup}
use Rattle.bench.specs.declared.Bench.{Bench}
use Rattle.bench.specs.Bench.{in_flight, no_seat, seat_at}
use Rattle.bench.specs.Events.{event_of, turn_in}
use Rattle.bench.specs.Shape.{Accepted, InShape, Sized}
use Rattle.bench.specs.Kept.{ElseStays, StepsTruly, Truly, Unchanged}
use Rattle.bench.proofs.After.{few_in_flight, in_flight_after, seat_after}
use Rattle.bench.proofs.Described.{few_switches}

-- a setup that a switch can have is one that refusal 1 doesn't name
pub lawful : {s : Setup} → FineSetup s → Lawful s
lawful f = record {
  some_ports = f.some_ports;
  few_ports = omega (arith, f.few_ports);
  live_ports = f.live_ports;
  host_ports = f.host_ports;
  some_limit = f.some_limit;
  low_limit = f.low_limit;
}

-- a head that follows the setup that it has stays
own_setup : (s : Seat) {w : Setup} → s.switch.setup ≡ w → with_setup w s ≡ s
own_setup s e = ap (λ x. with_setup x s) (sym e)

-- ---- Ports of an accepted network

module _ (n : Network) (fine : network_fault n ≡ 0) where
  module _ (up : List Bool) {s : Seat} where
    -- a host's port is live, and its own
    host_port : (i : ℕ) → i < n.nhosts → SeatFits n up (host_at n i).port.switch s
        → (names s.switch.setup.live (host_at n i).port.number ≡ true) × (names s.switch.setup.host (host_at n i).port.number ≡ true)
    unfolding is_hosts
    host_port i h f =
        let k = (host_at n i).port.switch in
        let p = (host_at n i).port.number in
        let plug = at_host n fine i h in (
          ap (λ (x : Setup). names x.live p) f.setup ∙ host_up n fine up k p i plug,
          ap (λ (x : Setup). names x.host p) f.setup ∙ hosts_is n fine up k p ∙ ap is_hosts plug,
        )

    -- a link's is live as the link is, and no host's
    link_port : (e : End) → e.link < n.nlinks → SeatFits n up (port_of n e).switch s
        → (names s.switch.setup.live (port_of n e).number ≡ get_or up e.link false) × (names s.switch.setup.host (port_of n e).number ≡ false)
    unfolding is_hosts
    link_port e h f =
        let k = (port_of n e).switch in
        let p = (port_of n e).number in (
          ap (λ (x : Setup). names x.live p) f.setup ∙ end_up n fine up e h,
          ap (λ (x : Setup). names x.host p) f.setup ∙ hosts_is n fine up k p ∙ ap is_hosts (at_end n fine e h),
        )

module _ (b : Bench) (e : Event) (sized : Sized b) (ok : Accepted b e) where
  fine : network_fault b.network ≡ 0
  fine = ok.shape.described

  long : length (in_flight b) ≡ b.flying
  unfolding in_flight
  long = length-take-le b.flying b.copies (omega (arith, sized.copies, ok.shape.few))

  pub free : own_refusal b.network (length (in_flight b)) e ≡ 0
  free = rw long ok.free

  -- the head whose turn it is
  abbrev turns : ℕ
  turns = head_of b.network (in_flight b) e

  turns_there : turns < b.network.nswitches
  turns_there = head_there b.network fine b.up (in_flight b) ok.shape.copies e free

  in_array : (k : ℕ) → k < b.network.nswitches → k < length b.seats
  in_array k h = omega (arith, sized.seats, few_switches b.network fine)

  fits : SeatFits b.network b.up turns (seat_at b turns)
  fits = ok.shape.seats turns turns_there

  -- the heads before they follow
  abbrev seat_before : ℕ → Seat
  seat_before k = get_or (set b.seats turns (turn_in b e).seat) k no_seat

  at_turn : seat_before turns ≡ (turn_in b e).seat
  at_turn = get_or-set_same b.seats turns (turn_in b e).seat no_seat (in_array turns turns_there)

  at_other : (k : ℕ) → k ≢ turns → seat_before k ≡ seat_at b k
  unfolding seat_at
  at_other k d = get_or-set_other b.seats turns k (turn_in b e).seat no_seat d

  -- ---- It stays in shape

  ports_of : {k : ℕ} {s : Seat} → SeatFits b.network b.up k s → s.switch.setup.ports ≡ (switch_at b.network k).ports
  unfolding setup_of
  ports_of f = ap (λ (x : Setup). x.ports) f.setup

  formed_before : (k : ℕ) → k < b.network.nswitches → Formed (seat_before k) × ((seat_before k).switch.setup.ports ≡ (switch_at b.network k).ports)
  unfolding turn_in
  formed_before k h = by_cases (ℕ_discrete k turns)
      (λ d. rw (d, at_turn) (
        turn_formed b.network fine b.up (in_flight b) ok.shape.copies (seat_at b turns) e free fits,
        ap (λ (x : Setup). x.ports) (turn_setup b.network b.up (seat_at b turns) (in_flight b) e) ∙ ports_of fits,
      ))
      (λ d. rw (at_other k d) ((ok.shape.seats k h).formed, ports_of (ok.shape.seats k h)))

  seats_kept : (k : ℕ) → k < b.network.nswitches → SeatFits b.network (turn_in b e).up k (seat_at (event_of b e).bench k)
  unfolding setup_of
  seats_kept k h =
      let (formed, ports) = formed_before k h in
      let sound = setup_sound b.network fine (plugs_of b.network) (turn_in b e).up k h in
      rw (seat_after b e k (in_array k h) h) (record { setup = refl; formed = with_setup_formed (seat_before k) formed (lawful sound) (sym ports) })

  pub kept : InShape (event_of b e).bench
  unfolding event_of turn_in
  kept = record {
    described = fine;
    seats = seats_kept;
    few = turn_few b.network b.up (seat_at b turns) (in_flight b) e (few_in_flight b sized);
    copies = rw (in_flight_after b e) (turn_keeps b.network fine b.up (in_flight b) ok.shape.copies (seat_at b turns) e free fits);
  }

  -- ---- Its head steps truly

  -- where the turn is a step on an arrival, which is the public step on a frame
  truly : (a : Arrival) (frame : List ℕ) (flying : List Copy) → turn_in b e ≡ steps b.network b.up turns (seat_at b turns) a flying
      → IsTheStep (seat_at b turns) a.port frame (step_of (seat_at b turns) a) → StepsTruly b (event_of b e) turns a frame
  unfolding event_of steps
  truly a frame flying is step =
      let seat : (turn_in b e).seat ≡ (step_of (seat_at b turns) a).seat = ap (λ (t : Turn). t.seat) is in
      let up : (turn_in b e).up ≡ b.up = ap (λ (t : Turn). t.up) is in
      let setup : (step_of (seat_at b turns) a).seat.switch.setup ≡ setup_of b.network (plugs_of b.network) b.up turns = step_setup (seat_at b turns) a ∙ fits.setup in
      record {
        step = step;
        seat =
            seat_after b e turns (in_array turns turns_there) turns_there
            ∙ (λ i. with_setup (setup_of b.network (plugs_of b.network) (up i) turns) ((at_turn ∙ seat) i))
            ∙ own_setup (step_of (seat_at b turns) a).seat setup;
        verdict = rw is (refl, refl, refl, refl, refl, refl);
      }

  -- ---- Nothing else changes

  -- a head whose turn it isn't and whose setup stays
  other_stays : (k : ℕ) → k < b.network.nswitches → k ≢ turns
      → setup_of b.network (plugs_of b.network) (turn_in b e).up k ≡ setup_of b.network (plugs_of b.network) b.up k
      → seat_at (event_of b e).bench k ≡ seat_at b k
  other_stays k h d setup =
      seat_after b e k (in_array k h) h ∙ (λ i. with_setup (setup i) (at_other k d i)) ∙ own_setup (seat_at b k) (ok.shape.seats k h).setup

-- ---- By the kinds of events

module _ (b : Bench) (sized : Sized b) where
  presents_truly : (p : Presented) → Accepted b (Present p) → Truly b (Present p) (event_of b (Present p))
  unfolding head_of turn_in turn_of presents host_arrival host_of from_host HostStepIsTheStep
  presents_truly p ok =
      let n = b.network in
      let fine = ok.shape.described in
      let there = host_accepted n b.flying p ok.free in
      let h = host_of n p.host in
      let to = address_of p.to in
      let s = seat_at b h.port.switch in
      let seat : SeatFits n b.up h.port.switch s = fits b (Present p) sized ok in
      let (live, role) = host_port n fine b.up p.host there seat in
      truly b (Present p) sized ok (host_arrival s h to) (host_frame h.address to) (in_flight b) refl
      (host_step_is_the_step s h.port.number h.address to seat.formed live role (host_source n fine p.host there) (to_accepted n b.flying p ok.free).1)

  takes_truly : (place : ℕ) → Accepted b (Take place) → Truly b (Take place) (event_of b (Take place))
  unfolding head_of turn_in turn_of takes copy_arrival port_to from_link LinkStepIsTheStep
  takes_truly place ok =
      let n = b.network in
      let fine = ok.shape.described in
      let c = copy_at (in_flight b) place in
      let v : CopyFits n b.up c = copy_fits_lem n fine b.up (in_flight b) ok.shape.copies place (free b (Take place) sized ok) in
      let s = seat_at b (port_to n c).switch in
      let seat : SeatFits n b.up (port_to n c).switch s = fits b (Take place) sized ok in
      let (live, role) = link_port n fine b.up (end_of c) v.link seat in
      truly b (Take place) sized ok (copy_arrival n c) (link_frame c.source c.destination c.header) (without place (in_flight b)) refl
      (link_step_is_the_step s (port_to n c).number c.source c.destination c.header seat.formed (live ∙ v.live) role v.source v.destination_below v.hops_some v.hops_few v.nonce)

  pub steps_truly : (e : Event) → Accepted b e → Truly b e (event_of b e)
  steps_truly (Present p) ok = presents_truly p ok
  steps_truly (Take place) ok = takes_truly place ok
  steps_truly (Link l) ok = tt

  pub stays : (e : Event) → Accepted b e → ElseStays b e (event_of b e).bench
  unfolding event_of turn_in turn_of presents takes steps sets head_of
  stays (Present p) ok = record {
    network = refl;
    seats = λ k h off. other_stays b (Present p) sized ok k h off refl;
    links = λ l off. refl;
  }
  stays (Take place) ok = record {
    network = refl;
    seats = λ k h off. other_stays b (Take place) sized ok k h off refl;
    links = λ l off. refl;
  }
  stays (Link s) ok = record {
    network = refl;
    seats = λ k h off. other_stays b (Link s) sized ok k h (λ q. off (inl q))
        (other_link b.network ok.shape.described b.up s.link (is_up s.state) k (λ q. off (inl (sym q))) (λ q. off (inr (sym q))));
    links = λ l off. get_or-set_other b.up s.link l (is_up s.state) false off;
  }

  -- ---- A link set

  module _ (l : Setting) (ok : Accepted b (Link l)) where
    seats_before : (k : ℕ) → seat_before b (Link l) sized ok k ≡ seat_at b k
    unfolding turn_in turn_of sets
    seats_before k =
        by_cases (ℕ_discrete k (turns b (Link l) sized ok)) (λ d. rw d (at_turn b (Link l) sized ok)) (at_other b (Link l) sized ok k)

    pub heads_follow : (k : ℕ) → k < b.network.nswitches
        → seat_at (event_of b (Link l)).bench k ≡ with_setup (setup_of b.network (plugs_of b.network) (set b.up l.link (is_up l.state)) k) (seat_at b k)
    unfolding turn_in turn_of sets
    heads_follow k h =
        let up = set b.up l.link (is_up l.state) in
        seat_after b (Link l) k (in_array b (Link l) sized ok k h) h ∙ ap (λ s. with_setup (setup_of b.network (plugs_of b.network) up k) s) (seats_before k)

    pub already_so : get_or b.up l.link false ≡ is_up l.state → Unchanged b (event_of b (Link l))
    unfolding event_of turn_in turn_of sets
    already_so so =
        let same = turn.already_so b.network b.up (seat_at b (turns b (Link l) sized ok)) (in_flight b) l ok.shape.copies so in
        let up : set b.up l.link (is_up l.state) ≡ b.up = ap (λ (t : Turn). t.up) same in
        record {
          network = refl;
          seats = λ k h.
              heads_follow k h ∙ ap (λ u. with_setup (setup_of b.network (plugs_of b.network) u k) (seat_at b k)) up
              ∙ own_setup (seat_at b k) (ok.shape.seats k h).setup;
          links = up;
          copies = in_flight_after b (Link l) ∙ ap (λ (t : Turn). t.flying) same;
          cut = ap (λ (t : Turn). Ok t.done) same;
        }
