-- Runs that the prover computes: an event that only its own causes could refuse takes effect, and a test tells of a whole run that the order provides for it.
use Prim.Native.Nat.{ℕ, zero, suc, ◌<◌}
use mathlib.Core.Path.{◌≡◌, refl, sym, ap, subst, ◌∙◌}
use mathlib.Core.Logic.{inr, by_cases}
use mathlib.Core.Bool.{Bool, true, false, not, ◌&&◌, ◌||◌, true≢false}
use mathlib.Core.List.{List, [], ◌∷◌}
use native.Mathlib.Decide.{ℕ_discrete}
use native.Mathlib.Omega.{arith}
use lib.Dec.{eqb, ltb}
use borrow.Author.Tests.{eq-eqb, eqb-true, ltb-true}
use Rattle.std.proofs.lemmas.Bool.{and_parts}
use Rattle.event.specs.declared.Event.{Event}
use Rattle.event.specs.declared.Event.TheVariants.{Present, Take, Link}
use Rattle.std.specs.Prelude.{Ok, Err}
use Rattle.turn.specs.declared.Done.TheVariants.{Linked, Stepped}
use Rattle.turn.specs.Turn.{Answer, own_refusal}
use Rattle.bench.specs.declared.Bench.{Bench}
use Rattle.bench.specs.Events.{event_of}
use Rattle.counters.specs.Counters.{counted}
use Rattle.counters.specs.Event.{event_refusal, happens_by, happens_of, most_events}
use Rattle.counters.specs.History.{Moment, State, after, history_of, run_of}
use Rattle.counters.proofs.Laws.{InRun, event_accepted_in_run, event_in_run}
use Rattle.table.specs.Table as table
use Rattle.filter.specs.Filter as filter
use Rattle.wire.specs.Wire as wire
use Rattle.wire.specs.Address as addresses
use Rattle.rules.specs.Mask as masks
use Rattle.rules.specs.Rules as rule
use Rattle.network.specs.Network as network
use Rattle.network.specs.Checks as check
use Rattle.cabling.specs.Cabling as cabling
use Rattle.seat.specs.Seat as seat
use Rattle.flight.specs.Flight as flight
use Rattle.event.specs.Event as event
use Rattle.turn.specs.Send as send
use Rattle.turn.specs.Turn as turn
use Rattle.bench.specs.Bench as bench
use Rattle.bench.specs.Events as events
use Rattle.counters.specs.Counters as counters
use Rattle.plug_in.specs.Words as words
use Rattle.plug_in.specs.Demand as demand
use Rattle.plug_in.specs.Demand.{AllProvided}
use Rattle.plug_in.specs.Words.{KeepsRecord, LosesNone, OfOthers, holds_at}
use Rattle.plug_in.proofs.Happening.{accepted_answer, accepted_bench}

-- ---- What the prover opens

-- to check a description
unfoldable pub checking : Type 0
unfolding addresses.is_source network.limit_of network.empty_network network.up_to network.switches_of network.hosts_of network.links_of network.records network.add network.built network.cleared check.any check.taken check.stands check.not_above check.too_many check.out_of_order check.switch_out check.out_of_range check.port_taken check.address_out check.bad_address check.record_fault check.records_fault check.network_fault
checking = Unit {0}

-- to compute a run
unfoldable pub computing : Type 0
unfolding table.empty_table table.slot_of table.found_at table.lookup_of table.put table.slot_for table.learn_at table.learn_of table.erase_at table.erase_of filter.hash filter.cell_of filter.same filter.empty filter.standing filter.has_cell filter.holds filter.overwrites filter.recorded wire.number_after wire.number masks.names masks.all_but rule.rule2 rule.is_duplicate rule.rule3 rule.overwrote3 rule.erases rule.rule5 rule.learns rule.rule6 rule.learning rule.standing rule.rule9 rule.rule10 rule.rule11 rule.onward rule.forwarding rule.rules network.limit_of network.empty_network network.add network.built cabling.port_of cabling.plug_in cabling.plug_host cabling.plug_link cabling.plug_all cabling.plugs_of cabling.plug_at cabling.is_live cabling.is_hosts cabling.mask_of cabling.setup_of seat.fresh_seat seat.from_host seat.from_link seat.step_of flight.without flight.spared event.address_of send.joins send.receives send.send_on send.send_at send.send_from send.send_out turn.own_refusal turn.host_of turn.plug_of turn.outbox_of turn.steps turn.host_arrival turn.presents turn.port_to turn.copy_arrival turn.takes turn.sets turn.head_of turn.turn_of bench.in_flight bench.seat_at bench.fresh_heads bench.fresh_bench events.follow events.turn_in events.event_of counters.adds counters.plus rule.nonce_on words.holds_at words.address_of_host words.home_of demand.frame_of
computing = Unit {0}

-- ---- An event that takes effect

-- what an event leaves where nothing refuses it
unfoldable pub leaves : State → Event → State
leaves s e = record { bench = (event_of s.bench e).bench; counters = counted s.counters e (event_of s.bench e).answer }

-- and a list of them
unfoldable pub ends : State → List Event → State
ends s [] = s
ends s (e ∷ es) = ends (leaves s e) es

-- ---- Tests of a run

-- it is early, and none of the event's own causes holds
abbrev pub is_free : State → Event → Bool
is_free s e = ltb s.counters.accepted most_events && eqb (own_refusal s.bench.network s.bench.flying e) 0

-- each event of a run takes effect
unfoldable pub all_free : State → List Event → Bool
all_free s [] = true
all_free s (e ∷ es) = is_free s e && all_free (leaves s e) es

-- a copy is taken
abbrev pub is_taking : Event → Bool
is_taking (Present p) = false
is_taking (Take place) = true
is_taking (Link l) = false

-- a step whose frame is from x lost no copy
abbrev pub lost_none : ℕ → Answer → Bool
lost_none x (Err n) = true
lost_none x (Ok (Stepped r)) = not (eqb r.source x) || eqb r.lost 0
lost_none x (Ok (Linked cut)) = true

-- so many filters still hold a key
unfoldable pub all_keep : List ℕ → Bench → Bench → ℕ → Bool
all_keep key b c zero = true
all_keep key b c (suc k) = (not (holds_at b k key) || holds_at c k key) && all_keep key b c k

-- copies are taken, none is lost and no record overwritten
unfoldable pub all_provided : ℕ → List ℕ → State → List Event → Bool
all_provided x key s [] = true
all_provided x key s (e ∷ es) =
    is_free s e
    && (is_taking e && (lost_none x (event_of s.bench e).answer && (all_keep key s.bench (event_of s.bench e).bench s.bench.network.nswitches && all_provided x key (leaves s e) es)))

-- ---- They tell the truth

module _ {s : State} (r : InRun s) (e : Event) (q : is_free s e ≡ true) where
  -- nothing refuses a free event
  pub free_goes : event_refusal s.bench s.counters e ≡ 0
  free_goes =
      let parts = and_parts (ltb s.counters.accepted most_events) (eqb (own_refusal s.bench.network s.bench.flying e) 0) q in
      event_accepted_in_run r (ltb-true s.counters.accepted most_events parts.0) e ∙ eqb-true (own_refusal s.bench.network s.bench.flying e) 0 parts.1

  -- and it takes effect
  pub free : after s e ≡ leaves s e
  unfolding after happens_of leaves
  free =
      ap (λ n. record { bench = (happens_by n s.bench e s.counters).happened.bench; counters = (happens_by n s.bench e s.counters).counters }) free_goes

-- behind a run of events that take effect the bench is as computed
pub run_ends : {s : State} → InRun s → (es : List Event) → all_free s es ≡ true → run_of s es ≡ ends s es
unfolding run_of ends all_free
run_ends {s = s} r [] q = refl
run_ends {s = s} r (e ∷ es) q =
    let p = and_parts (is_free s e) (all_free (leaves s e) es) q in
    let effect = free r e p.0 in
    ap (λ t. run_of t es) effect ∙ run_ends {s = leaves s e} (subst InRun effect (event_in_run r e)) es p.1

-- either the first test fails or the second holds
implied : (p q : Bool) → (not p || q) ≡ true → p ≡ true → q ≡ true
implied true q e h = e
implied false q e h = absurd (true≢false (sym h))

keeps : (x : ℕ) (key : List ℕ) (b c : Bench) → all_keep key b c b.network.nswitches ≡ true → KeepsRecord x key b c
unfolding all_keep
keeps x key b c q flying = go b.network.nswitches q
  where
    go : (n : ℕ) → all_keep key b c n ≡ true → (k : ℕ) → k < n → holds_at b k key ≡ true → holds_at c k key ≡ true
    go zero q k l h = absurd (omega arith)
    go (suc n) q k l h =
        let p = and_parts (not (holds_at b n key) || holds_at c n key) (all_keep key b c n) q in
        by_cases (ℕ_discrete k n) (λ e. rw e (implied (holds_at b n key) (holds_at c n key) p.0 (rw e at h))) (λ d. go n p.1 k (omega arith) h)

pub loses : (x : ℕ) (a : Answer) → lost_none x a ≡ true → LosesNone x a
loses x (Err n) q = tt
loses x (Ok (Stepped r)) q = λ mine. eqb-true r.lost 0 (implied (eqb r.source x) (eqb r.lost 0) q (eq-eqb r.source x mine))
loses x (Ok (Linked cut)) q = tt

taking : (s : State) (A : ℕ) (e : Event) → is_taking e ≡ true → OfOthers s A e
taking s A (Present p) q = absurd (true≢false (sym q))
taking s A (Take place) q = tt
taking s A (Link l) q = absurd (true≢false (sym q))

-- a run that passes is one that the order provides for
pub provided : (A x : ℕ) (key : List ℕ) {s : State} → InRun s → (es : List Event) → all_provided x key s es ≡ true → AllProvided A x key s es
unfolding all_provided
provided A x key {s = s} r [] q = tt
provided A x key {s = s} r (e ∷ es) q =
    let rest = all_provided x key (leaves s e) es in
    let still = all_keep key s.bench (event_of s.bench e).bench s.bench.network.nswitches in
    let none = lost_none x (event_of s.bench e).answer in
    let p = and_parts (is_free s e) (is_taking e && (none && (still && rest))) q in
    let t = and_parts (is_taking e) (none && (still && rest)) p.1 in
    let l = and_parts none (still && rest) t.1 in
    let k = and_parts still rest l.1 in
    let effect = free r e p.0 in (
      record {
        others = inr (taking s A e t.0);
        room = subst (LosesNone x) (sym (accepted_answer s e (free_goes r e p.0))) (loses x (event_of s.bench e).answer l.0);
        kept = subst (KeepsRecord x key s.bench) (sym (accepted_bench s e (free_goes r e p.0))) (keeps x key s.bench (event_of s.bench e).bench k.0);
      },
      subst (λ t. AllProvided A x key t es) (sym effect) (provided A x key {s = leaves s e} (subst InRun effect (event_in_run r e)) es k.1),
    )

-- ---- Its history

-- what events answer that take effect
unfoldable pub tells : State → List Event → List Moment
tells s [] = []
tells s (e ∷ es) = record { event = e; answer = (event_of s.bench e).answer } ∷ tells (leaves s e) es

-- is the history of the run
pub history_tells : {s : State} → InRun s → (es : List Event) → all_free s es ≡ true → history_of s es ≡ tells s es
unfolding history_of tells all_free
history_tells {s = s} r [] q = refl
history_tells {s = s} r (e ∷ es) q =
    let p = and_parts (is_free s e) (all_free (leaves s e) es) q in
    let effect = free r e p.0 in
    ap (λ a. record { event = e; answer = a } ∷ history_of (after s e) es) (accepted_answer s e (free_goes r e p.0))
    ∙ ap (λ h. record { event = e; answer = (event_of s.bench e).answer } ∷ h) (ap (λ t. history_of t es) effect ∙ history_tells {s = leaves s e} (subst InRun effect (event_in_run r e)) es p.1)
