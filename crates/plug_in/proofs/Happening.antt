-- What an event does to a bench: a refused one nothing, a frame or a copy makes one head step, and a setting changes link states and the copies on a link.
use Prim.Native.Nat.{ℕ, ◌<◌}
use mathlib.Core.Path.{◌≡◌, refl, sym, ap, subst, ◌∙◌}
use mathlib.Core.Logic.{◌⊎◌, ◌≢◌}
use mathlib.Core.Bool.{Bool, true, false, cond, not}
use mathlib.Core.List.{List, Memᴰ}
use native.Mathlib.Omega.{arith}
use Rattle.std.proofs.lemmas.Bool.Decides.{nat_tests}
use lib.Dec.{leb}
use lib.ListN.{set}
use Rattle.refusal.specs.Refusal.{first}
use Rattle.refusal.proofs.Laws.{accepted_leaves, refused_leaves}
use Rattle.cabling.specs.declared.End.{End}
use Rattle.cabling.specs.declared.Plug.TheVariants.{Host as OfHost, Link as OfLink}
use Rattle.cabling.specs.Cabling.{most_ports, other_end, plugs_of, setup_of}
use Rattle.rules.specs.Mask.{names}
use Rattle.rules.specs.Verdict.{sending_of, sent_by}
use Rattle.rules.specs.declared.Send.{Send}
use Rattle.rules.specs.declared.Arrival.{Arrival}
use Rattle.seat.specs.Seat.{step_of, with_setup}
use Rattle.flight.specs.declared.Copy.{Copy}
use Rattle.flight.specs.Flight.{without}
use Rattle.event.specs.declared.Event.{Event}
use Rattle.event.specs.declared.Event.TheVariants.{Present, Take, Link}
use Rattle.event.specs.declared.Presented.{Presented}
use Rattle.event.specs.declared.Setting.{Setting}
use Rattle.event.specs.Event.{address_of}
use Rattle.std.specs.Prelude.{Ok, Err}
use Rattle.turn.specs.declared.Done.TheVariants.{Stepped}
use Rattle.turn.specs.Send.{Outbox, copy_to}
use Rattle.turn.specs.Turn.{Answer, Turn, copy_arrival, copy_at, head_of, host_arrival, host_of, is_up, outbox_of, own_causes, own_refusal, plug_of, port_to, presents, sets, spared_by, step_report, steps, takes, turn_of}
use Rattle.bench.specs.declared.Bench.{Bench}
use Rattle.bench.specs.Bench.{in_flight, seat_at}
use Rattle.bench.specs.Events.{event_of, turn_in}
use Rattle.bench.specs.Shape.{Accepted, Sized, in_shape}
use Rattle.bench.proofs.Laws.{each_is_the_step, event_answer, event_network, event_up, heads_follow, in_flight_after, nothing_else_changes}
use Rattle.counters.specs.Counters.{counters_fit}
use Rattle.counters.specs.Event.{event_refusal, happens_of, most_events, refusal_numbered}
use Rattle.counters.specs.History.{State, after, happens_at}
use Rattle.plug_in.proofs.Sent.{WentOut, kept_out, new_out, placed_out, received_out, unplugged_out}

-- ---- Refused or accepted

module _ (s : State) (e : Event) where
  -- a refused event leaves the bench as it was, and answers a number
  pub refused_bench : event_refusal s.bench s.counters e ≢ 0 → (after s e).bench ≡ s.bench
  unfolding after happens_of
  refused_bench some = sym (refused_leaves refl some _ _)

  -- its answer is its number
  pub refused_answer : event_refusal s.bench s.counters e ≢ 0 → (happens_at s e).happened.answer ≡ Err (refusal_numbered (event_refusal s.bench s.counters e))
  unfolding happens_of
  refused_answer some = sym (refused_leaves refl some _ _)

  -- an accepted one does what it does to the bench
  pub accepted_bench : event_refusal s.bench s.counters e ≡ 0 → (after s e).bench ≡ (event_of s.bench e).bench
  unfolding after happens_of
  accepted_bench none = sym (accepted_leaves refl none _ _)

  -- and answers what that tells
  pub accepted_answer : event_refusal s.bench s.counters e ≡ 0 → (happens_at s e).happened.answer ≡ (event_of s.bench e).answer
  unfolding happens_of
  accepted_answer none = sym (accepted_leaves refl none _ _)

  -- none of its own causes holds then
  pub accepted_own : event_refusal s.bench s.counters e ≡ 0 → own_refusal s.bench.network s.bench.flying e ≡ 0
  unfolding event_refusal own_refusal
  accepted_own = behind (leb most_events s.counters.accepted) (not (in_shape s.bench)) (not (counters_fit s.bench.flying s.counters)) (first (own_causes s.bench.network s.bench.flying e))
    where
      behind : (a b c : Bool) (n : ℕ) → cond a 34 (cond b 28 (cond c 28 n)) ≡ 0 → n ≡ 0
      behind a b c n z = grind (arith, nat_tests)

-- ---- A head steps

-- head k of bench b stepped on an arrival, the copies rest being in flight; bench c and the answer show what it did
pub record Steps (b : Bench) (k : ℕ) (a : Arrival) (rest : List Copy) (c : Bench) (told : Answer) : Type 0 where
  pub network : c.network ≡ b.network
  pub up : c.up ≡ b.up
  pub seat : seat_at c k ≡ (step_of (seat_at b k) a).seat
  pub others : (j : ℕ) → j < b.network.nswitches → j ≢ k → seat_at c j ≡ seat_at b j
  pub flying : in_flight c ≡ (outbox_of b.network k (step_of (seat_at b k) a) a rest).flying
  pub answer : told ≡ Ok (Stepped (step_report k a (step_of (seat_at b k) a) (outbox_of b.network k (step_of (seat_at b k) a) a rest)))

-- link l of bench b was set: each head follows, and the copies that its state spares are left
pub record Sets (b : Bench) (l : ℕ) (state : Bool) (c : Bench) : Type 0 where
  pub network : c.network ≡ b.network
  pub seats : (j : ℕ) → j < b.network.nswitches → seat_at c j ≡ with_setup (setup_of b.network (plugs_of b.network) (set b.up l state) j) (seat_at b j)
  pub flying : in_flight c ≡ spared_by state l (in_flight b)

module _ (b : Bench) (sized : Sized b) where
  -- an event whose turn is a head's step
  made : (e : Event) {k : ℕ} {a : Arrival} {rest : List Copy} → turn_in b e ≡ steps b.network b.up k (seat_at b k) a rest
      → seat_at (event_of b e).bench k ≡ (step_of (seat_at b k) a).seat → ((j : ℕ) → j < b.network.nswitches → j ≢ k → seat_at (event_of b e).bench j ≡ seat_at b j)
      → Steps b k a rest (event_of b e).bench (event_of b e).answer
  unfolding steps
  made e turn seat others =
      record {
        network = event_network b e;
        up = event_up b e ∙ ap (λ (t : Turn). t.up) turn;
        seat = seat;
        others = others;
        flying = in_flight_after b e ∙ ap (λ (t : Turn). t.flying) turn;
        answer = event_answer b e ∙ ap (λ (t : Turn). Ok t.done) turn;
      }

  -- a host's frame makes its head step
  pub presented : (p : Presented) → Accepted b (Present p)
      → Steps b (host_of b.network p.host).port.switch (host_arrival (seat_at b (host_of b.network p.host).port.switch) (host_of b.network p.host) (address_of p.to)) (in_flight b)
      (event_of b (Present p)).bench (event_of b (Present p)).answer
  unfolding turn_in head_of turn_of presents
  presented p ok = made (Present p) refl (each_is_the_step b (Present p) sized ok).seat (nothing_else_changes b (Present p) sized ok).seats

  -- a copy that is taken makes the head that receives it step
  pub taken : (place : ℕ) → Accepted b (Take place)
      → Steps b (port_to b.network (copy_at (in_flight b) place)).switch (copy_arrival b.network (copy_at (in_flight b) place)) (without place (in_flight b))
      (event_of b (Take place)).bench (event_of b (Take place)).answer
  unfolding turn_in head_of turn_of takes
  taken place ok = made (Take place) refl (each_is_the_step b (Take place) sized ok).seat (nothing_else_changes b (Take place) sized ok).seats

  -- a link is set
  pub linked : (e : Setting) → Accepted b (Link e) → Sets b e.link (is_up e.state) (event_of b (Link e)).bench
  unfolding turn_in turn_of sets
  linked e ok = record { network = event_network b (Link e); seats = heads_follow b e sized ok; flying = in_flight_after b (Link e) }

-- ---- What a step sends

-- what the verdict of head k on an arrival sends
abbrev pub sent_in : Bench → ℕ → Arrival → Send
sent_in b k a = sent_by (sending_of (step_of (seat_at b k) a).report.verdict)

-- what has become of the copies
abbrev pub out_in : Bench → ℕ → Arrival → List Copy → Outbox
out_in b k a rest = outbox_of b.network k (step_of (seat_at b k) a) a rest

module _ {b : Bench} {k : ℕ} {a : Arrival} {rest : List Copy} {c : Bench} {told : Answer} (v : Steps b k a rest c told) where
  -- a host that is plugged in at port p of head k alone receives exactly if p sends
  pub step_received : (i p : ℕ) → p < most_ports → plug_of b.network k p ≡ OfHost i → ((q : ℕ) → plug_of b.network k q ≡ OfHost i → q ≡ p)
      → names (out_in b k a rest).received i ≡ names (sent_in b k a).mask p
  unfolding outbox_of
  step_received = received_out (plug_of b.network k) a (sending_of (step_of (seat_at b k) a).report.verdict) rest

  -- one that isn't plugged into head k receives nothing
  pub step_unplugged : (i : ℕ) → ((q : ℕ) → plug_of b.network k q ≡ OfHost i → ⊥) → names (out_in b k a rest).received i ≡ false
  unfolding outbox_of
  step_unplugged = unplugged_out (plug_of b.network k) a (sending_of (step_of (seat_at b k) a).report.verdict) rest

  -- a copy that was in flight still is
  pub step_kept : {d : Copy} → Memᴰ d rest → Memᴰ d (in_flight c)
  unfolding outbox_of
  step_kept {d} m = subst (Memᴰ d) (sym v.flying) (kept_out (plug_of b.network k) a (sending_of (step_of (seat_at b k) a).report.verdict) rest m)

  -- any other went out at a port that the mask names
  pub step_new : {d : Copy} → Memᴰ d (in_flight c) → Memᴰ d rest ⊎ WentOut (plug_of b.network k) a (sent_in b k a).mask (sent_in b k a).header d
  unfolding outbox_of
  step_new {d} m = new_out (plug_of b.network k) a (sending_of (step_of (seat_at b k) a).report.verdict) rest (subst (Memᴰ d) v.flying m)

  -- and if none is lost, one goes over the link of each such port
  pub step_placed : (p : ℕ) {e : End} → p < most_ports → names (sent_in b k a).mask p ≡ true → plug_of b.network k p ≡ OfLink e → (out_in b k a rest).lost ≡ 0
      → Memᴰ (copy_to (other_end e) a (sent_in b k a).header) (in_flight c)
  unfolding outbox_of
  step_placed p within named there none =
      subst (Memᴰ _) (sym v.flying) (placed_out (plug_of b.network k) a (sending_of (step_of (seat_at b k) a).report.verdict) rest p within named there none)
