-- The run from A's frame on: event by event the bench is at a moment of the flood.
use Prim.Native.Nat.{ℕ, ◌^◌, ◌<◌}
use mathlib.Core.Path.{◌≡◌, refl, sym, ap, subst, ◌∙◌}
use mathlib.Core.Logic.{◌≢◌, ⊎_elim, by_cases}
use mathlib.Core.Bool.{Bool, false}
use mathlib.Core.List.{List, [], ◌∷◌, ◌++◌, append-nil, Memᴰ}
use native.Mathlib.Decide.{ℕ_discrete}
use lib.Seq.{append_snoc}
use Rattle.wire.specs.Address.{Source}
use Rattle.network.specs.declared.Network.{Network}
use Rattle.network.specs.declared.Port.{Port}
use Rattle.network.specs.Checks.{network_fault}
use Rattle.filter.specs.Triple.{triple}
use Rattle.frame.specs.declared.Header.{Header}
use Rattle.rules.specs.declared.Arrival.{Arrival}
use Rattle.flight.specs.declared.Copy.{Copy}
use Rattle.flight.specs.Flight.{All}
use Rattle.flight.proofs.Laws.{without_member, without_or_at}
use Rattle.event.specs.declared.Event.{Event}
use Rattle.event.specs.declared.Event.TheVariants.{Present, Take, Link}
use Rattle.turn.specs.Turn.{copy_at, host_of}
use Rattle.bench.specs.Bench.{in_flight}
use Rattle.counters.specs.Event.{event_refusal}
use Rattle.counters.specs.History.{Moment as Happened, Reachable, State, after, happens_at, history_of, run_of}
use Rattle.flood.specs.Records.{Recording, relearned}
use Rattle.flood.proofs.Laws.{stays}
use Rattle.plug_in.specs.Demand.{AllProvided, Provided}
use Rattle.plug_in.specs.Words.{KeepsRecord, LosesNone, OfOthers, address_of_host, receives_by, sends_by, times}
use Rattle.plug_in.proofs.Carrying.{Carries, Says, carried, ours, receives_as_sent}
use Rattle.plug_in.proofs.Happening.{Steps, refused_answer, refused_bench}
use Rattle.plug_in.proofs.Ours.{ours_sent}
use Rattle.plug_in.proofs.Passing.{Unchanged, nothing_passes, others_keep, others_pass, same_bench, same_link}
use Rattle.plug_in.proofs.Reached.{Reached, copy_from, copy_to_lem, host_from, host_to, links_idle, presents_host, presents_inside, presents_steps, reachable_after, reached, takes_fits, takes_member, takes_stands, takes_steps, takes_there}
use Rattle.plug_in.proofs.Stand.{address_once, host_source}
use Rattle.plug_in.proofs.Stepping.{same_in}
use Rattle.plug_in.proofs.Taken.{Takes, takes}
use Rattle.plug_in.proofs.Taking.{goes_on}
use Rattle.plug_in.proofs.View.{moment, records, same_found, sends_to, start, times_alike}

-- where a run from A's frame has led: the network and the links' states are those at the start, h is the history since then
pub record Flowing (n : Network) (up : List Bool) (A x nonce : ℕ) (s : State) (h : List Happened) : Type 1 where
  pub reachable : Reachable s
  pub network : s.bench.network ≡ n
  pub links : s.bench.up ≡ up
  pub there : A < n.nhosts
  pub address : (host_of n A).address ≡ x
  pub fine : network_fault n ≡ 0
  pub carries : All (Carries x nonce) (in_flight s.bench)
  pub counts : (i : ℕ) → i < n.nhosts → times (receives_by x i) h ≡ times (sends_to x n i) h
  pub recording : Recording (start n up fine x A) (host_of n A).port (moment n up fine x (triple x nonce 1) s.bench h) (records n up fine x s.bench)

-- told of the network and the links' states that the bench has
pub at_own : {n : Network} {up : List Bool} {A x nonce : ℕ} {s : State} {h : List Happened} → Flowing n up A x nonce s h → Flowing s.bench.network s.bench.up A x nonce s h
at_own {n} {up} {A} {x} {nonce} {s} {h} v =
    subst (λ up. Flowing s.bench.network up A x nonce s h) (sym v.links) (subst (λ n. Flowing n up A x nonce s h) (sym v.network) v)

-- a moment of the history
abbrev pub happened : State → Event → Happened
happened s e = record { event = e; answer = (happens_at s e).happened.answer }

module _ {A x nonce : ℕ} (s : State) (h : List Happened) (v : Flowing s.bench.network s.bench.up A x nonce s h) where
  -- what is known of the bench
  abbrev known : Reached s.bench
  known =
      let r = reached s v.reachable in
      record { shape = record { described = v.fine; seats = r.shape.seats; few = r.shape.few; copies = r.shape.copies }; sized = r.sized; named = r.named }

  -- A's address has six bytes
  below : x < 2 ^ 48
  below = subst (λ y. y < 2 ^ 48) v.address (host_source s.bench.network v.fine A v.there).below

  -- the flood behind one event more
  abbrev Recorded : Event → Type 1
  Recorded e =
      Recording (start s.bench.network s.bench.up v.fine x A) (host_of s.bench.network A).port
      (moment s.bench.network s.bench.up v.fine x (triple x nonce 1) (after s e).bench (h ++ (happened s e ∷ []))) (records s.bench.network s.bench.up v.fine x (after s e).bench)

  -- and so the run
  abbrev Further : Event → Type 1
  Further e = Flowing s.bench.network s.bench.up A x nonce (after s e) (h ++ (happened s e ∷ []))

  -- what is to be shown of an event
  next : (e : Event) → (after s e).bench.network ≡ s.bench.network → (after s e).bench.up ≡ s.bench.up → All (Carries x nonce) (in_flight (after s e).bench)
      → ((i : ℕ) → i < s.bench.network.nhosts → receives_by x i (happens_at s e).happened.answer ≡ sends_to x s.bench.network i (happens_at s e).happened.answer)
      → Recorded e → Further e
  next e network links carries alike recording =
      record {
        reachable = reachable_after v.reachable e;
        network = network;
        links = links;
        there = v.there;
        address = v.address;
        fine = v.fine;
        carries = carries;
        counts = λ i l. times_alike (receives_by x i) (sends_to x s.bench.network i) h (happened s e) (v.counts i l) (alike i l);
        recording = recording;
      }

  -- nothing happens
  idle : (e : Event) → Unchanged s.bench (after s e).bench → ((t p : ℕ) → sends_by x t p (happens_at s e).happened.answer ≡ false) → ((i : ℕ) → receives_by x i (happens_at s e).happened.answer ≡ false)
      → Further e
  idle e u silent nobody =
      next e u.network u.up (subst (All (Carries x nonce)) (sym u.flying) v.carries) (λ i l. nobody i ∙ sym (silent _ _))
      (relearned v.recording (nothing_passes known x nonce u h (happened s e) silent)
      (λ t. stays (same_in known x (after s e).bench t (same_found _ _ _ x t (u.heads t)))))

  -- a head steps on another's frame
  by_others : (e : Event) (k : ℕ) (a : Arrival) (rest : List Copy) → Steps s.bench k a rest (after s e).bench (happens_at s e).happened.answer → k < s.bench.network.nswitches
      → Source a.source → a.source ≢ x → a.destination ≢ x → ((d : Copy) → Memᴰ d rest → Memᴰ d (in_flight s.bench))
      → ((d : Copy) → Memᴰ d (in_flight s.bench) → d.source ≡ x → Memᴰ d rest) → KeepsRecord x (triple x nonce 1) s.bench (after s e).bench
      → Further e
  by_others e k a rest w inside source other far were left keeps =
      next e w.network w.up (carried w (λ d m. v.carries.each d (were d m)) (λ _. far) (λ p n mine. absurd (other mine)))
      (receives_as_sent known w x)
      (relearned v.recording (others_pass known w inside x nonce other far source below were left keeps h (happened s e) refl)
      (λ t. stays (same_in known x (after s e).bench t (others_keep known w inside x nonce other far t))))

  -- a copy of A's frame is taken
  by_ours : (place : ℕ) (d : Copy) (p : Port) (a : Arrival) (rest : List Copy) → Takes s.bench x nonce d p a rest
      → Steps s.bench p.switch a rest (after s (Take place)).bench (happens_at s (Take place)).happened.answer → LosesNone x (happens_at s (Take place)).happened.answer
      → Further (Take place)
  by_ours place d p a rest t w room =
      next (Take place) w.network w.up
      (carried w (λ e m. v.carries.each e (t.were e m)) (λ other. absurd (other t.ours.source))
      (λ q named mine. says (ours_sent known t.stands.switch t.ours q named)))
      (receives_as_sent known w x)
      (goes_on known A t w room (host_of s.bench.network A).port h (happened s (Take place)) refl v.recording)
    where
      says : {g : Header} → g ≡ a.header → Says nonce g
      says e = subst (Says nonce) (sym e) (record { l = t.ours.l; f = t.ours.f; nonce = t.ours.nonce })

  -- any event that is provided for
  event : (e : Event) → Provided A x (triple x nonce 1) s e → Further e
  unfolding address_of_host
  event e provided =
      by_cases (ℕ_discrete (event_refusal s.bench s.counters e) 0) (λ ok. ⊎_elim (λ no. absurd (no ok)) (accepted e provided.room provided.kept ok) provided.others)
      (λ no. idle e (same_bench (refused_bench s e no)) (λ t p. ap (sends_by x t p) (refused_answer s e no)) (λ i. ap (receives_by x i) (refused_answer s e no)))
    where
      -- another host has another address
      other_host : (i : ℕ) → i < s.bench.network.nhosts → i ≢ A → (host_of s.bench.network i).address ≢ x
      other_host i l d e = d (address_once s.bench.network v.fine i A l v.there (e ∙ sym v.address))

      accepted : (e : Event) → LosesNone x (happens_at s e).happened.answer → KeepsRecord x (triple x nonce 1) s.bench (after s e).bench → event_refusal s.bench s.counters e ≡ 0 → OfOthers s A e
          → Further e
      accepted (Present p) room keeps ok others =
          by_others (Present p) _ _ _ (presents_steps s known p ok) (presents_inside s known p ok)
          (subst Source (sym (host_from _ _ _)) (host_source s.bench.network v.fine p.host (presents_host s known p ok)))
          (λ e. other_host p.host (presents_host s known p ok) others.0 (sym (host_from _ _ _) ∙ e)) (λ e. others.1 (sym (host_to _ _ _) ∙ e ∙ sym v.address)) (λ d m. m) (λ d m q. m) keeps
      accepted (Take place) room keeps ok others =
          by_cases (ℕ_discrete (copy_at (in_flight s.bench) place).source x)
          (λ mine. by_ours place _ _ _ _ (takes s.bench known place (takes_there s known place ok) (ours s.bench.network (v.carries.each _ (takes_member s known place ok)) mine)) (takes_steps s known place ok) room)
          (λ other. by_others (Take place) _ _ _ (takes_steps s known place ok) (takes_stands s known place ok).switch
          (subst Source (sym (copy_from _ _)) (takes_fits s known place ok).source)
          (λ e. other (sym (copy_from _ _) ∙ e)) (λ e. (v.carries.each _ (takes_member s known place ok)).away other (sym (copy_to_lem _ _) ∙ e)) (λ d m. without_member place (in_flight s.bench) m)
          (λ d m q. ⊎_elim (λ e. absurd (other (ap (λ (c : Copy). c.source) (sym e) ∙ q))) (λ n. n) (without_or_at place (in_flight s.bench) m)) keeps)
      accepted (Link e) room keeps ok others =
          let w = links_idle s known e ok (sym others) in
          idle (Link e) (same_link w) (λ t p. ap (sends_by x t p) w.cut) (λ i. ap (receives_by x i) w.cut)

-- ---- All events

-- behind each list of events that are provided for the bench is at a moment of the flood
pub flows : {n : Network} {up : List Bool} {A x nonce : ℕ} (s : State) (h : List Happened) (es : List Event) → Flowing n up A x nonce s h → AllProvided A x (triple x nonce 1) s es
    → Flowing n up A x nonce (run_of s es) (h ++ history_of s es)
unfolding run_of history_of
flows {n} {up} {A} {x} {nonce} s h [] v provided = subst (λ h. Flowing n up A x nonce s h) (sym (append-nil h)) v
flows {n} {up} {A} {x} {nonce} s h (e ∷ es) v provided =
    subst (λ h. Flowing n up A x nonce (run_of (after s e) es) h) (append_snoc h (happened s e) (history_of (after s e) es))
    (flows (after s e) (h ++ (happened s e ∷ [])) es
    (subst (λ up. Flowing n up A x nonce (after s e) (h ++ (happened s e ∷ []))) v.links
    (subst (λ n. Flowing n s.bench.up A x nonce (after s e) (h ++ (happened s e ∷ []))) v.network (event s h (at_own v) e provided.0))) provided.1)
