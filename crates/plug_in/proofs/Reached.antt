-- Facts of every state that the bench can reach: it is in shape, its tables name hosts' addresses alone, and so do the sources of the copies in flight.
-- With 32 hosts at most no table of 64 slots is ever full.
use Prim.Native.Nat.{ℕ, ◌<◌}
use mathlib.Core.Path.{◌≡◌, refl, sym, ap, subst, subst₂, ◌∙◌}
use mathlib.Core.Logic.{⊎_elim, by_cases}
use mathlib.Core.Bool.{Bool, true, false}
use mathlib.Core.List.Memᴰ
use mathlib.Core.List.{List, [], ◌∷◌, ◌++◌, Memᴰ}
use native.Mathlib.Decide.{ℕ_discrete}
use native.Mathlib.Omega.{arith}
use lib.ListN.{get_or, length, length-take}
use Rattle.network.specs.declared.Network.{Network}
use Rattle.network.specs.declared.Host.{Host}
use Rattle.network.specs.Checks.{network_fault}
use Rattle.table.specs.Table.{Holds}
use Rattle.table.proofs.Laws.{absent_iff, empty_absent, empty_well_formed}
use Rattle.rules.specs.declared.Arrival.{Arrival}
use Rattle.rules.specs.Rules.{hop_header}
use Rattle.rules.proofs.Laws.{stood_before}
use Rattle.frame.specs.declared.Header.{Header}
use Rattle.cabling.specs.declared.Plug.{Plug}
use Rattle.cabling.specs.Cabling.{Stands}
use Rattle.cabling.proofs.Laws.{port_stands}
use Rattle.seat.specs.declared.Seat.{Seat}
use Rattle.seat.specs.Seat.{fresh_seat, from_host, from_link, step_of}
use Rattle.seat.proofs.Laws.{step_table}
use Rattle.flight.specs.declared.Copy.{Copy}
use Rattle.flight.specs.Flight.{All, without}
use Rattle.flight.proofs.Laws.{all_at, at_member, spared_member, without_member}
use Rattle.event.specs.declared.Event.{Event}
use Rattle.event.specs.declared.Event.TheVariants.{Present, Take, Link}
use Rattle.event.specs.declared.Presented.{Presented}
use Rattle.event.specs.declared.Setting.{Setting}
use Rattle.event.specs.Event.{address_of}
use Rattle.turn.specs.Turn.{Answer, copy_arrival, copy_at, end_of, host_arrival, host_of, is_up, port_to, spared_by}
use Rattle.turn.specs.Fits.{CopyFits}
use Rattle.turn.proofs.Laws.{host_accepted, place_accepted}
use Rattle.bench.specs.declared.Bench.{Bench}
use Rattle.bench.specs.Bench.{fresh_bench, in_flight, seat_at}
use Rattle.bench.specs.Kept.{Unchanged}
use Rattle.bench.specs.Shape.{Accepted, InShape, Sized}
use Rattle.bench.proofs.Laws.{already_so, fresh_seat_lem}
use Rattle.counters.specs.Event.{event_refusal}
use Rattle.counters.specs.History.{Reachable, State, after, fresh_state, happens_at, run_of}
use Rattle.counters.proofs.Laws.{InRun, event_in_run, fresh_in_run, reachable_in_run}
use Rattle.plug_in.proofs.Happening.{Sets, Steps, accepted_answer, accepted_bench, accepted_own, linked, presented, refused_bench, step_new, taken}
use Rattle.plug_in.proofs.Sent.{WentOut}
use Rattle.plug_in.proofs.Stand.{IsHosts, host_stands}

-- ---- What arrives

module _ (s : Seat) (h : Host) (to : ℕ) where
  -- a host's frame is from its address,
  pub host_from : (host_arrival s h to).source ≡ h.address
  unfolding host_arrival from_host
  host_from = refl

  -- for its destination,
  pub host_to : (host_arrival s h to).destination ≡ to
  unfolding host_arrival from_host
  host_to = refl

  -- on its port
  pub host_at_lem : (host_arrival s h to).port ≡ h.port.number
  unfolding host_arrival from_host
  host_at_lem = refl

module _ (n : Network) (c : Copy) where
  -- a copy is from its source,
  pub copy_from : (copy_arrival n c).source ≡ c.source
  unfolding copy_arrival from_link
  copy_from = refl

  -- for its destination,
  pub copy_to_lem : (copy_arrival n c).destination ≡ c.destination
  unfolding copy_arrival from_link
  copy_to_lem = refl

  -- on the port that it was in flight to,
  pub copy_at_lem : (copy_arrival n c).port ≡ (port_to n c).number
  unfolding copy_arrival from_link
  copy_at_lem = refl

  -- with one hop more
  pub copy_header : (copy_arrival n c).header ≡ hop_header c.header
  unfolding copy_arrival from_link
  copy_header = refl

-- ---- Hosts alone are named

pub record Named (n : Network) (b : Bench) : Type 0 where
  pub entries : (k : ℕ) → k < n.nswitches → (x : ℕ) → Holds (seat_at b k).switch.table x → IsHosts n x
  pub sources : All (λ c. IsHosts n c.source) (in_flight b)

-- of a fresh bench, whose tables are empty
fresh_named : (n : Network) → network_fault n ≡ 0 → Named n (fresh_bench n)
unfolding fresh_bench in_flight fresh_seat
fresh_named n fine =
    record {
      entries = λ k h x held. absurd ((absent_iff (empty_well_formed 0).sized x).0 (empty_absent x) (subst (λ (s : Seat). Holds s.switch.table x) (fresh_seat_lem n k h) held));
      sources = record { each = λ c m. absurd (Memᴰ.not-nil m) };
    }

-- ---- What is known of a bench that was reached

pub record Reached (b : Bench) : Type 0 where
  pub shape : InShape b
  pub sized : Sized b
  pub named : Named b.network b

-- a head that steps learns and sends with the source that arrived
stepped_named : {b : Bench} {k : ℕ} {a : Arrival} {rest : List Copy} {c : Bench} {told : Answer} → Reached b → k < b.network.nswitches → Steps b k a rest c told
    → IsHosts b.network a.source → ((d : Copy) → Memᴰ d rest → Memᴰ d (in_flight b)) → Named b.network c
stepped_named {b} {k} {a} {c = c} r inside v from were =
    record { entries = entry; sources = record { each = λ d m. ⊎_elim (λ w. r.named.sources.each d (were d w)) sent (step_new v m) } }
  where
    sent : {plug : ℕ → Plug} {mask : ℕ} {h : Header} {d : Copy} → WentOut plug a mask h d → IsHosts b.network d.source
    sent w = subst (λ (d : Copy). IsHosts b.network d.source) (sym w.is) from

    learned : (x : ℕ) → Holds (step_of (seat_at b k) a).seat.switch.table x → IsHosts b.network x
    learned x held =
        ⊎_elim (λ e. subst (IsHosts b.network) (sym e) from) (r.named.entries k inside x)
        (stood_before (seat_at b k).switch.setup (seat_at b k).switch.table (seat_at b k).cells a (r.shape.seats k inside).formed.table.sized x
        (subst (λ t. Holds t x) (step_table (seat_at b k) a) held))

    entry : (j : ℕ) → j < b.network.nswitches → (x : ℕ) → Holds (seat_at c j).switch.table x → IsHosts b.network x
    entry j h x held =
        by_cases (ℕ_discrete j k)
        (λ e. learned x (subst (λ (t : Seat). Holds t.switch.table x) v.seat (subst (λ i. Holds (seat_at c i).switch.table x) e held)))
        (λ d. r.named.entries j h x (subst (λ (t : Seat). Holds t.switch.table x) (v.others j h d) held))

-- as the bench's own network has it
own : {n : Network} {c : Bench} → c.network ≡ n → Named n c → Named c.network c
own {c = c} same v = subst (λ n. Named n c) (sym same) v

-- a link that is set changes no table and brings no copy
linked_named : {b : Bench} {l : ℕ} {state : Bool} {c : Bench} → Named b.network b → Sets b l state c → Named b.network c
linked_named {b} {l} {state} n v =
    record {
      entries = λ j h x held. n.entries j h x (subst (λ (t : Seat). Holds t.switch.table x) (v.seats j h) held);
      sources = record { each = λ d m. n.sources.each d (spares state (subst (Memᴰ d) v.flying m)) };
    }
  where
    spares : (state : Bool) {d : Copy} → Memᴰ d (spared_by state l (in_flight b)) → Memᴰ d (in_flight b)
    spares true m = m
    spares false m = (spared_member l (in_flight b) m).0

-- ---- Each kind of event, accepted

module _ (s : State) (r : Reached s.bench) where
  -- the network is accepted
  fine : network_fault s.bench.network ≡ 0
  fine = r.shape.described

  -- nothing refuses the event
  accepted : (e : Event) → event_refusal s.bench s.counters e ≡ 0 → Accepted s.bench e
  accepted e ok = record { shape = r.shape; free = accepted_own s e ok }

  module _ (p : Presented) (ok : event_refusal s.bench s.counters (Present p) ≡ 0) where
    -- there is such a host
    pub presents_host : p.host < s.bench.network.nhosts
    presents_host = host_accepted s.bench.network s.bench.flying p (accepted_own s (Present p) ok)

    -- at a switch that there is
    pub presents_inside : (host_of s.bench.network p.host).port.switch < s.bench.network.nswitches
    presents_inside = (host_stands s.bench.network fine p.host presents_host).switch

    -- its head steps
    pub presents_steps : Steps s.bench (host_of s.bench.network p.host).port.switch
        (host_arrival (seat_at s.bench (host_of s.bench.network p.host).port.switch) (host_of s.bench.network p.host) (address_of p.to)) (in_flight s.bench)
        (after s (Present p)).bench (happens_at s (Present p)).happened.answer
    presents_steps =
        subst₂ (Steps _ _ _ _) (sym (accepted_bench s (Present p) ok)) (sym (accepted_answer s (Present p) ok)) (presented s.bench r.sized p (accepted (Present p) ok))

  module _ (place : ℕ) (ok : event_refusal s.bench s.counters (Take place) ≡ 0) where
    -- there is such a copy
    pub takes_there : place < length (in_flight s.bench)
    unfolding in_flight
    takes_there =
        let few = place_accepted s.bench.network s.bench.flying place (accepted_own s (Take place) ok) in
        let long = r.sized.copies in
        let most = r.shape.few in
        simp length-take (omega arith)

    -- it stands in the list,
    pub takes_member : Memᴰ (copy_at (in_flight s.bench) place) (in_flight s.bench)
    takes_member = at_member place (in_flight s.bench) takes_there

    -- it fits,
    pub takes_fits : CopyFits s.bench.network s.bench.up (copy_at (in_flight s.bench) place)
    takes_fits = all_at r.shape.copies place takes_there

    -- and its port is there
    pub takes_stands : Stands s.bench.network (port_to s.bench.network (copy_at (in_flight s.bench) place))
    unfolding port_to
    takes_stands = port_stands s.bench.network fine (end_of (copy_at (in_flight s.bench) place)) takes_fits.link

    -- the head that receives it steps
    pub takes_steps : Steps s.bench (port_to s.bench.network (copy_at (in_flight s.bench) place)).switch (copy_arrival s.bench.network (copy_at (in_flight s.bench) place))
        (without place (in_flight s.bench)) (after s (Take place)).bench (happens_at s (Take place)).happened.answer
    takes_steps =
        subst₂ (Steps _ _ _ _) (sym (accepted_bench s (Take place) ok)) (sym (accepted_answer s (Take place) ok)) (taken s.bench r.sized place (accepted (Take place) ok))

  module _ (e : Setting) (ok : event_refusal s.bench s.counters (Link e) ≡ 0) where
    -- the link is set
    links_sets : Sets s.bench e.link (is_up e.state) (after s (Link e)).bench
    links_sets = subst (Sets s.bench e.link (is_up e.state)) (sym (accepted_bench s (Link e) ok)) (linked s.bench r.sized e (accepted (Link e) ok))

    -- where it is so already, nothing changes
    pub links_idle : get_or s.bench.up e.link false ≡ is_up e.state → Unchanged s.bench (record { bench = (after s (Link e)).bench; answer = (happens_at s (Link e)).happened.answer })
    links_idle so =
        subst₂ (λ b a. Unchanged s.bench (record { bench = b; answer = a })) (sym (accepted_bench s (Link e) ok)) (sym (accepted_answer s (Link e) ok))
        (already_so s.bench e r.sized (accepted (Link e) ok) so)

-- ---- Runs

-- hosts alone are named behind an event, too
after_named : (s : State) → Reached s.bench → (e : Event) → Named (after s e).bench.network (after s e).bench
after_named s r e =
    by_cases (ℕ_discrete (event_refusal s.bench s.counters e) 0) (by_event e) (λ no. subst (λ b. Named b.network b) (sym (refused_bench s e no)) r.named)
  where
    by_event : (e : Event) → event_refusal s.bench s.counters e ≡ 0 → Named (after s e).bench.network (after s e).bench
    by_event (Present p) ok =
        let w = presents_steps s r p ok in
        own w.network (stepped_named r (presents_inside s r p ok) w (record { host = p.host; there = presents_host s r p ok; is = sym (host_from _ _ _) }) (λ d m. m))
    by_event (Take place) ok =
        let w = takes_steps s r place ok in
        own w.network (stepped_named r (takes_stands s r place ok).switch w (subst (IsHosts s.bench.network) (sym (copy_from _ _)) (r.named.sources.each _ (takes_member s r place ok)))
        (λ d m. without_member place (in_flight s.bench) m))
    by_event (Link e) ok = let w = links_sets s r e ok in own w.network (linked_named r.named w)

-- one event more leads to a state that can be reached
pub reachable_after : {s : State} → Reachable s → (e : Event) → Reachable (after s e)
unfolding run_of
reachable_after {s} r e =
    record {
      network = r.network;
      accepted = r.accepted;
      events = r.events ++ (e ∷ []);
      leads = last (fresh_state r.network) r.events ∙ ap (λ s. after s e) r.leads;
    }
  where
    last : (s : State) (es : List Event) → run_of s (es ++ (e ∷ [])) ≡ after (run_of s es) e
    last s [] = refl
    last s (f ∷ es) = last (after s f) es

-- a bench in a run, whose tables and copies name hosts alone
known : {s : State} → InRun s → Named s.bench.network s.bench → Reached s.bench
known r n = record { shape = r.shape; sized = r.sized; named = n }

-- hosts alone are named behind every run
run_named : (s : State) → InRun s → Named s.bench.network s.bench → (es : List Event) → Named (run_of s es).bench.network (run_of s es).bench
unfolding run_of
run_named s r n [] = n
run_named s r n (e ∷ es) = run_named (after s e) (event_in_run r e) (after_named s (known r n) e) es

-- of every state that the bench can reach
pub reached : (s : State) → Reachable s → Reached s.bench
unfolding fresh_bench
reached s r =
    known (reachable_in_run r)
    (subst (λ (s : State). Named s.bench.network s.bench) r.leads (run_named (fresh_state r.network) (fresh_in_run r.network r.accepted) (fresh_named r.network r.accepted) r.events))
