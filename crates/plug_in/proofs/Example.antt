-- The theorem isn't empty: on a ring of three switches, each with a host, a run that meets every premise, to the last copy. The prover computes it.
use Prim.Native.Nat.{ℕ, zero, suc, ◌<◌}
use mathlib.Core.Path.{◌≡◌, refl, sym, subst}
use mathlib.Core.Logic.{◌≢◌}
use mathlib.Core.Bool.{true, false}
use mathlib.Core.List.Memᴰ
use mathlib.Core.List.{List, [], ◌∷◌, Memᴰ}
use native.Mathlib.Omega.{arith}
use lib.ListN.{take}
use Rattle.wire.specs.Address.{Source}
use Rattle.wire.specs.Wire.{bytes_of}
use Rattle.network.specs.declared.Network.{Network}
use Rattle.network.specs.Checks.{network_fault}
use Rattle.network.specs.Network.{limit_of}
use Rattle.table.specs.Table.{Holds}
use Rattle.table.proofs.Laws.{absent_iff, empty_absent, empty_well_formed}
use Rattle.filter.specs.Filter.{Names}
use Rattle.filter.specs.Triple.{width}
use Rattle.filter.proofs.Laws.{source_some, zeros_name_none}
use Rattle.cabling.specs.Cabling.{switch_at}
use Rattle.seat.specs.declared.Seat.{Seat}
use Rattle.event.specs.declared.Event.{Event}
use Rattle.event.specs.declared.Event.TheVariants.{Take}
use Rattle.bench.proofs.Laws.{fresh_seat_lem}
use Rattle.counters.specs.History.{State, after, fresh_state, happens_at, history_of, run_of}
use Rattle.counters.proofs.Laws.{InRun, event_in_run, fresh_in_run}
use Rattle.wire.specs.Wire as wire
use Rattle.seat.specs.Seat as seat
use Rattle.event.specs.Event as event
use Rattle.bench.specs.Bench as bench
use Rattle.bench.specs.Events as events
use Rattle.plug_in.specs.Words as words
use Rattle.plug_in.specs.Demand.{AllProvided, NoneFlies, PluggedIn, Starts, frame_of, sends}
use Rattle.plug_in.specs.Words.{Cabled, HasRecord, JoinedTo, LimitsReach, LosesNone, NamesNowhere, address_of_host, home_of, receives_by, times}
use Rattle.plug_in.proofs.Happening.{accepted_answer}
use Rattle.plug_in.proofs.Laws.{first_plug_in}
use Rattle.plug_in.proofs.Stand.{host_source}
use Rattle.plug_in.proofs.Stands.{away, ring}
use Rattle.plug_in.proofs.Trying.{all_free, all_keep, all_provided, checking, computing, ends, free, free_goes, is_free, leaves, loses, lost_none, provided, run_ends}

-- ---- The ring and its run

abbrev pub fresh : State
fresh = fresh_state ring

-- host 0 sends to an address that is no host's
abbrev pub first : Event
first = sends 0 away

-- and its four copies are taken, always the first of those in flight
abbrev pub takings : List Event
takings = Take 0 ∷ Take 0 ∷ Take 0 ∷ Take 0 ∷ []

-- the address and the switch of host 0, and the bench in the end
abbrev pub sender : ℕ
sender = address_of_host fresh 0

abbrev pub home : ℕ
home = (home_of fresh 0).switch

abbrev end : State
end = ends fresh (first ∷ takings)

-- ---- What is computed

fine : network_fault ring ≡ 0
unfolding ring checking
fine = refl

record Computed : Type 0 where
  pub hosts : fresh.bench.network.nhosts ≡ 3
  pub switches : fresh.bench.network.nswitches ≡ 3
  pub limit_0 : limit_of (switch_at fresh.bench.network 0) ≡ 3
  pub limit_1 : limit_of (switch_at fresh.bench.network 1) ≡ 3
  pub limit_2 : limit_of (switch_at fresh.bench.network 2) ≡ 3
  pub is : sender ≡ 2
  -- each event takes effect, none of the frame's copies is lost, no record of it overwritten
  pub starts : is_free fresh first ≡ true
  pub placed : lost_none sender (events.event_of fresh.bench first).answer ≡ true
  pub provided : all_provided sender (frame_of fresh 0) (leaves fresh first) takings ≡ true
  pub goes : all_free fresh (first ∷ takings) ≡ true
  -- in the end no copy is in flight, and from the first switch a live cable leads to each other, where host i is
  pub quiet : end.bench.flying ≡ 0
  pub at_1 : Cabled end.bench home 1
  pub at_2 : Cabled end.bench home 2
  pub all : end.bench.network.nhosts ≡ 3
  pub first_home : home ≡ 0
  pub home_1 : (home_of end 1).switch ≡ 1
  pub home_2 : (home_of end 2).switch ≡ 2

computed : Computed
unfolding ring all_free all_provided all_keep ends leaves computing
computed =
    record {
      hosts = refl;
      switches = refl;
      limit_0 = refl;
      limit_1 = refl;
      limit_2 = refl;
      is = refl;
      starts = refl;
      placed = refl;
      provided = refl;
      goes = refl;
      quiet = refl;
      at_1 = record { near = record { link = 0; second = false }; there = omega arith; live = refl; from = refl; to = refl };
      at_2 = record { near = record { link = 1; second = false }; there = omega arith; live = refl; from = refl; to = refl };
      all = refl;
      first_home = refl;
      home_1 = refl;
      home_2 = refl;
    }

-- ---- Every premise is met

-- a fresh bench names nobody
fresh_nowhere : (n : Network) {x : ℕ} → Source x → NamesNowhere x (bench.fresh_bench n)
unfolding bench.fresh_bench bench.in_flight seat.fresh_seat
fresh_nowhere n {x} source =
    record {
      entries = λ k h held. (absent_iff (empty_well_formed 0).sized x).0 (empty_absent x) (subst (λ (s : Seat). Holds s.switch.table x) (fresh_seat_lem n k h) held);
      records = λ k h named. zeros_name_none seat.cell_bytes (source_some source.below source.nonzero) (subst (λ (s : Seat). Names width (bytes_of 6 x) s.cells) (fresh_seat_lem n k h) named);
      copies = record { each = λ c m. absurd (Memᴰ.not-nil m) };
    }

in_run : InRun fresh
in_run = fresh_in_run ring fine

there : 0 < ring.nhosts
unfolding bench.fresh_bench
there = omega (arith, computed.hosts)

limits : LimitsReach fresh.bench.network
limits zero h = omega (arith, computed.switches, computed.limit_0)
limits (suc zero) h = omega (arith, computed.switches, computed.limit_1)
limits (suc (suc zero)) h = omega (arith, computed.switches, computed.limit_2)
limits (suc (suc (suc k))) h = absurd (omega (arith, computed.switches))

starts : Starts fresh 0 away
unfolding address_of_host run_of bench.fresh_bench event.address_of wire.number wire.number_after
starts =
    record {
      reachable = record { network = ring; accepted = fine; events = []; leads = refl };
      host = there;
      nowhere = fresh_nowhere ring (host_source ring fine 0 there);
      accepted = free_goes in_run first computed.starts;
      not_itself = λ e. omega (arith, e, computed.is);
      limits = limits;
    }

room : LosesNone sender (happens_at fresh first).happened.answer
room = subst (LosesNone sender) (sym (accepted_answer fresh first (free_goes in_run first computed.starts))) (loses sender (events.event_of fresh.bench first).answer computed.placed)

others : AllProvided 0 sender (frame_of fresh 0) (after fresh first) takings
others =
    let effect = free in_run first computed.starts in
    subst (λ s. AllProvided 0 sender (frame_of fresh 0) s takings) (sym effect) (provided 0 sender (frame_of fresh 0) (subst InRun effect (event_in_run in_run first)) takings computed.provided)

-- ---- So the claims hold in the end

ends_there : run_of fresh (first ∷ takings) ≡ end
ends_there = run_ends in_run (first ∷ takings) computed.goes

plugged_in : PluggedIn 0 sender home end (history_of fresh (first ∷ takings))
plugged_in =
    subst (λ s. PluggedIn 0 sender home s (history_of fresh (first ∷ takings))) ends_there
    (first_plug_in fresh 0 away takings starts room others)

quiet : NoneFlies sender end.bench
unfolding bench.in_flight
quiet w = Memᴰ.not-nil (subst (λ n. Memᴰ w.copy (take n end.bench.copies)) computed.quiet w.there)

joined : (k : ℕ) → k < 3 → JoinedTo end.bench home k
joined zero h = subst (JoinedTo end.bench home) computed.first_home words.here
joined (suc zero) h = words.over words.here computed.at_1
joined (suc (suc zero)) h = words.over words.here computed.at_2
joined (suc (suc (suc k))) h = absurd (omega arith)

-- each switch has a record,
pub each_has_a_record : (k : ℕ) → k < 3 → HasRecord sender (run_of fresh (first ∷ takings)).bench k
each_has_a_record k h = subst (λ (s : State). HasRecord sender s.bench k) (sym ends_there) (plugged_in.records quiet k (joined k h))

-- and each other host has received one copy
pub each_other_received_one : (i : ℕ) → i < 3 → i ≢ 0 → times (receives_by sender i) (history_of fresh (first ∷ takings)) ≡ 1
each_other_received_one zero h other = absurd (other refl)
each_other_received_one (suc zero) h other =
    plugged_in.received quiet 1 (omega (arith, computed.all)) other (subst (JoinedTo end.bench home) (sym computed.home_1) (joined 1 h))
each_other_received_one (suc (suc zero)) h other =
    plugged_in.received quiet 2 (omega (arith, computed.all)) other (subst (JoinedTo end.bench home) (sym computed.home_2) (joined 2 h))
each_other_received_one (suc (suc (suc i))) h other = absurd (omega arith)
