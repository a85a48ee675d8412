-- What callers cite of a turn. An accepted event is one that its own refusals let pass, on an accepted network, with copies in flight that fit;
-- that its host, copy or link is there, and its destination not zero, is passed on from proofs/Turning.
use Prim.Native.Nat.{ℕ, ◌+◌, ◌-◌, ◌≤◌, ◌<◌}
use mathlib.Core.Path.{◌≡◌, refl, sym, ap, subst, ◌∙◌}
use mathlib.Core.Logic.{◌↔◌, by_cases, inl, inr}
use mathlib.Core.Bool.{Bool, true, false, true≢false}
use mathlib.Core.List.{List, []}
use native.Mathlib.Decide.{dec_lt}
use native.Mathlib.Omega.{arith}
use lib.ListN.{get_or, length, set}
use lib.Seq.{ext_get_or, set-get_or}
use Rattle.std.specs.Prelude.{Ok, Option}
use Rattle.wire.specs.Address.{Source}
use Rattle.rules.specs.declared.Arrival.{Arrival}
use Rattle.rules.specs.declared.Send.{Send}
use Rattle.rules.specs.declared.Setup.{Setup}
use Rattle.rules.specs.Mask.{names}
use Rattle.rules.specs.Verdict.{sent_by}
use Rattle.network.specs.declared.Network.{Network}
use Rattle.network.specs.Checks.{network_fault}
use Rattle.network.specs.Network.{switches_of}
use Rattle.network.specs.Sound.{FineHost, Sound}
use Rattle.network.proofs.Laws.{accepted_is_sound, host_is, hosts_long, links_long}
use Rattle.cabling.specs.declared.Plug.{Plug}
use Rattle.cabling.specs.Cabling.{Stands, first_of, host_at, setup_of, switch_at}
use Rattle.cabling.proofs.Laws.{host_stands, port_stands}
use Rattle.seat.specs.declared.Seat.{Seat}
use Rattle.seat.specs.Seat.{from_host, from_link, step_of}
use Rattle.seat.specs.Words.{Formed}
use Rattle.seat.proofs.Laws.{host_arrives, host_nonce, link_arrives}
use Rattle.flight.specs.declared.Copy.{Copy}
use Rattle.flight.specs.Flight.{All, copies_in, most, pack, without}
use Rattle.flight.specs.Flight as flight
use Rattle.flight.proofs.Laws.{copies_length, copy_at_is, without_length}
use Rattle.event.specs.declared.Event.{Event}
use Rattle.event.specs.declared.Event.TheVariants.{Present, Take, Link}
use Rattle.event.specs.declared.Presented.{Presented}
use Rattle.event.specs.declared.Setting.{Setting}
use Rattle.event.specs.Event.{address_of}
use Rattle.turn.specs.declared.Report.{Report}
use Rattle.turn.specs.declared.Done.{Done}
use Rattle.turn.specs.declared.Done.TheVariants.{Stepped, Linked}
use Rattle.turn.specs.Send.{Adds, Outbox, Reaches, new_copies, nothing_sent, send_out}
use Rattle.turn.specs.Turn.{Answer, Answers, CanTurn, Laid, Small, Turn, Turns, come, copy_arrival, copy_at, end_of, gone, head_of, host_arrival, host_of, is_up, own_refusal, port_to, presents, sets, spared_by, steps, takes, told, turn_of}
use Rattle.turn.specs.Fits.{CopyFits, SeatFits}
use Rattle.turn.proofs.LawsOfAnswer.{answer_apart}
use Rattle.turn.proofs.LawsOfSending as sending
use Rattle.turn.proofs.LawsOfStep.{Comes, all_at, all_without, copies_stay, count_outbox, few_outbox, small_report, spared_all, spared_stay, step_stays, without_few}
use Rattle.turn.proofs.Turning.{fewer}
pub use Rattle.turn.proofs.Turning.{host_accepted, to_accepted, place_accepted, link_accepted}

-- ---- Whose turn it is

module _ (n : Network) (fine : network_fault n ≡ 0) where
  sound : Sound n
  sound = accepted_is_sound n fine

  -- a host's address can be a source
  pub host_source : (i : ℕ) → i < n.nhosts → Source (host_of n i).address
  unfolding host_of
  host_source i h =
      let host : FineHost (switches_of n) (host_at n i) = rw (host_is n i h) at (sound.host i (rw (hosts_long n) h)) in
      let single = host.address.single in
      record { nonzero = host.address.nonzero; below = host.address.below; single = omega arith }

  module _ (up : List Bool) (flying : List Copy) (fit : All (CopyFits n up) flying) where
    -- the copy that an accepted event takes fits
    pub copy_fits_lem : (place : ℕ) → own_refusal n (length flying) (Take place) ≡ 0 → CopyFits n up (copy_at flying place)
    copy_fits_lem place free = all_at fit place (place_accepted n (length flying) place free)

    -- the port that an accepted event's frame arrives on is there: its host's, or that of the end which receives its copy
    pub host_port : (p : Presented) → own_refusal n (length flying) (Present p) ≡ 0 → Stands n (host_of n p.host).port
    unfolding host_of
    host_port p free = host_stands n fine p.host (host_accepted n (length flying) p free)

    pub copy_port : (place : ℕ) → own_refusal n (length flying) (Take place) ≡ 0 → Stands n (port_to n (copy_at flying place))
    unfolding port_to
    copy_port place free = port_stands n fine (end_of (copy_at flying place)) (copy_fits_lem place free).link

    -- what the turn at an accepted event asks
    pub can_turn : (e : Event) → own_refusal n (length flying) e ≡ 0 → CanTurn n flying e
    can_turn (Present p) free = omega (arith, (host_port p free).few)
    can_turn (Take place) free =
        record { there = place_accepted n (length flying) place free; port = omega (arith, (copy_port place free).few); hops = (copy_fits_lem place free).hops_few }
    can_turn (Link s) free = omega (arith, link_accepted n (length flying) s free, links_long n, sound.few_links)

    -- the head whose turn it is is there
    pub head_there : (e : Event) → own_refusal n (length flying) e ≡ 0 → head_of n flying e < n.nswitches
    unfolding head_of
    head_there (Present p) free = (host_port p free).switch
    head_there (Take place) free = (copy_port place free).switch
    head_there (Link s) free = (port_stands n fine (first_of s.link) (link_accepted n (length flying) s free)).switch

    -- ---- What a turn keeps

    module _ (s : Seat) where
      ports_of : {k : ℕ} → SeatFits n up k s → s.switch.setup.ports ≡ (switch_at n k).ports
      unfolding setup_of
      ports_of fits = ap (λ (x : Setup). x.ports) fits.setup

      host_comes : (p : Presented) → own_refusal n (length flying) (Present p) ≡ 0 → SeatFits n up (host_of n p.host).port.switch s → Comes s (host_arrival s (host_of n p.host) (address_of p.to))
      unfolding host_arrival from_host
      host_comes p free fits =
          let h = host_of n p.host in
          let to = to_accepted n (length flying) p free in
          record {
            arrives = host_arrives s h.port.number h.address (address_of p.to) (host_source p.host (host_accepted n (length flying) p free))
                (rw (ports_of fits) (host_port p free).number);
            nonce = host_nonce s h.port.number h.address (address_of p.to) fits.formed;
            some = to.0;
            below = to.1;
          }

      copy_comes : (place : ℕ) → own_refusal n (length flying) (Take place) ≡ 0 → SeatFits n up (port_to n (copy_at flying place)).switch s → Comes s (copy_arrival n (copy_at flying place))
      unfolding copy_arrival from_link
      copy_comes place free fits =
          let c = copy_at flying place in
          let v = copy_fits_lem place free in
          record {
            arrives = link_arrives (port_to n c).number c.source c.destination c.header v.source (rw (ports_of fits) (copy_port place free).number);
            nonce = v.nonce;
            some = v.destination_some;
            below = v.destination_below;
          }

      -- the head stays well-formed
      pub turn_formed : (e : Event) → own_refusal n (length flying) e ≡ 0 → SeatFits n up (head_of n flying e) s → Formed (turn_of n up s flying e).seat
      unfolding head_of turn_of presents takes sets steps
      turn_formed (Present p) free fits = step_stays n fine up (host_of n p.host).port.switch s fits (host_arrival s (host_of n p.host) (address_of p.to)) (host_comes p free fits)
      turn_formed (Take place) free fits = step_stays n fine up (port_to n (copy_at flying place)).switch s fits (copy_arrival n (copy_at flying place)) (copy_comes place free fits)
      turn_formed (Link l) free fits = fits.formed

      -- the copies in flight fit the links' states
      pub turn_keeps : (e : Event) → own_refusal n (length flying) e ≡ 0 → SeatFits n up (head_of n flying e) s
          → All (CopyFits n (turn_of n up s flying e).up) (turn_of n up s flying e).flying
      unfolding head_of turn_of presents takes sets steps
      turn_keeps (Present p) free fits =
          copies_stay n fine up (host_of n p.host).port.switch s fits (host_arrival s (host_of n p.host) (address_of p.to)) (host_comes p free fits) flying fit
      turn_keeps (Take place) free fits =
          copies_stay n fine up (port_to n (copy_at flying place)).switch s fits (copy_arrival n (copy_at flying place)) (copy_comes place free fits) (without place flying) (all_without fit place)
      turn_keeps (Link l) free fits = spared_stay n up flying fit l.link (is_up l.state)

-- ---- What a turn does, whatever the network

same_small : {q r : Report} → ◌≡◌ {A = Done} (Stepped q) (Stepped r) → Small q → Small r
same_small {q} {r} e v = let same : q ≡ r = cc in subst Small same v

linked : {cut : ℕ} {r : Report} → ◌≡◌ {A = Done} (Linked cut) (Stepped r) → ⊥
linked e = cc

module _ (n : Network) (up : List Bool) (s : Seat) (flying : List Copy) where
  -- the head's setup stays
  pub turn_setup : (e : Event) → (turn_of n up s flying e).seat.switch.setup ≡ s.switch.setup
  unfolding turn_of presents takes sets steps step_of
  turn_setup (Present p) = refl
  turn_setup (Take place) = refl
  turn_setup (Link l) = refl

  -- an event that is let pass is answered, and not refused
  pub turn_accepts : (e : Event) → Answers e (Ok (turn_of n up s flying e).done)
  unfolding turn_of presents takes sets steps
  turn_accepts (Present p) = (_, refl)
  turn_accepts (Take place) = (_, refl)
  turn_accepts (Link l) = (_, refl)

  -- at most 512 copies stay in flight
  pub turn_few : (e : Event) → length flying ≤ most → length (turn_of n up s flying e).flying ≤ most
  unfolding turn_of presents takes sets steps without
  turn_few (Present p) h = few_outbox n _ _ _ flying h
  turn_few (Take place) h = few_outbox n _ _ _ (without place flying) (omega (arith, h, without_few place flying))
  turn_few (Link l) h = by_state (is_up l.state)
    where
      by_state : (b : Bool) → length (spared_by b l.link flying) ≤ most
      by_state true = h
      by_state false = omega (arith, fewer l.link flying)

  -- those in flight and those that come are those then in flight and those that went
  pub turn_count : (e : Event) → own_refusal n (length flying) e ≡ 0
      → length flying + come (Ok (turn_of n up s flying e).done) ≡ length (turn_of n up s flying e).flying + gone e (Ok (turn_of n up s flying e).done)
  unfolding turn_of presents takes sets steps
  turn_count (Present p) free = none_gone (count_outbox n _ _ _ flying)
    where
      none_gone : {x y : ℕ} → x ≡ y → x ≡ y + 0
      none_gone e = omega arith
  turn_count (Take place) free = one_gone _ _ (count_outbox n _ _ _ (without place flying))
    where
      one_gone : (y z : ℕ) → length (without place flying) + y ≡ z → length flying + y ≡ z + 1
      one_gone y z e = omega (arith, without_length place flying (place_accepted n (length flying) place free))
  turn_count (Link l) free = by_state (is_up l.state)
    where
      by_state : (b : Bool) → length flying + 0 ≡ length (spared_by b l.link flying) + (length flying - length (spared_by b l.link flying))
      by_state true = omega arith
      by_state false = omega (arith, fewer l.link flying)

  -- a step's report is small
  pub turn_small : (e : Event) (r : Report) → (turn_of n up s flying e).done ≡ Stepped r → Small r
  unfolding turn_of presents takes sets steps
  turn_small (Present p) r e = same_small e (small_report n _ _ _ flying)
  turn_small (Take place) r e = same_small e (small_report n _ _ _ (without place flying))
  turn_small (Link l) r e = absurd (linked e)

  -- a link set to the state that it has
  pub already_so : (l : Setting) → All (CopyFits n up) flying → get_or up l.link false ≡ is_up l.state
      → turn_of n up s flying (Link l) ≡ record { up = up; seat = s; flying = flying; done = Linked 0 }
  unfolding turn_of sets
  already_so l fit e =
      let states : set up l.link (is_up l.state) ≡ up = ap (set up l.link) (sym e) ∙ set-get_or up l.link false in
      let copies : spared_by (is_up l.state) l.link flying ≡ flying = by_state (is_up l.state) e in
      (λ i. record { up = states i; seat = s; flying = copies i; done = Linked (length flying - length (copies i)) })
      ∙ ap (λ cut. record { up = up; seat = s; flying = flying; done = Linked cut }) (omega arith)
    where
      by_state : (b : Bool) → get_or up l.link false ≡ b → spared_by b l.link flying ≡ flying
      by_state true live = refl
      by_state false down = spared_all l.link flying (λ c m on. true≢false (sym (fit.each c m).live ∙ ap (λ i. get_or up i false) on ∙ down))

-- ---- What goes out

module _ (plug : ℕ → Plug) (a : Arrival) (g : Option Send) where
  -- the copies in flight are those before, followed by as many of the new ones as there was room for: these are placed, the others lost
  pub sent_list : (x : Outbox) → Adds (new_copies plug a g) x (send_out plug a g x)
  sent_list = sending.adds_out plug a g

  -- bit i of the hosts that received is set exactly if a port that the mask names is host i's
  pub received_by_lem : (flying : List Copy) (i : ℕ) → (names (send_out plug a g (nothing_sent flying)).received i ≡ true) ↔ Reaches plug (sent_by g).mask i
  received_by_lem = sending.heard_out plug a g

-- ---- One outcome

-- different answers tell different numbers or values
pub told_apart : (a b : Answer) → told a ≡ told b → a ≡ b
told_apart = answer_apart

module _ {t : Turn} {up₁ up₂ : List Bool} {s₁ s₂ : Seat} {words₁ words₂ : List (List ℕ)} {n₁ n₂ : ℕ} {a₁ a₂ : Done} (front before : List (List ℕ)) where
  -- so a turn has one outcome, with all that the array then holds
  pub one_outcome : Turns t up₁ s₁ words₁ n₁ a₁ → Turns t up₂ s₂ words₂ n₂ a₂ → Laid front before n₁ words₁ → Laid front before n₂ words₂
      → (up₁ ≡ up₂) × (s₁ ≡ s₂) × (words₁ ≡ words₂) × (n₁ ≡ n₂) × (a₁ ≡ a₂)
  one_outcome x y v w =
      let same : n₁ ≡ n₂ = sym (long x) ∙ ap length (x.copies ∙ sym y.copies) ∙ long y in
      (x.up ∙ sym y.up, x.seat ∙ sym y.seat, ext_get_or [] words₁ words₂ (v.long ∙ sym w.long) (λ i _. at same i), same, x.done ∙ sym y.done)
    where
      long : {up : List Bool} {s : Seat} {words : List (List ℕ)} {n : ℕ} {a : Done} → Turns t up s words n a → length (copies_in n words) ≡ n
      long {words = words} {n = n} z = copies_length n words (omega (arith, z.whole, z.few))

      carried : {up : List Bool} {s : Seat} {words : List (List ℕ)} {n : ℕ} {a : Done} → Turns t up s words n a → (i : ℕ) → i < n → flight.copy_at words i ≡ copy_at t.flying i
      carried {words = words} {n = n} z i h = sym (copy_at_is n i words h) ∙ ap (λ cs. copy_at cs i) z.copies

      at : n₁ ≡ n₂ → (i : ℕ) → get_or words₁ i [] ≡ get_or words₂ i []
      at same i =
          by_cases (dec_lt i (length front)) (λ h. v.others i (inl h) ∙ sym (w.others i (inl h)))
          (λ h. by_cases (dec_lt i n₁)
          (λ k. v.new i (omega arith) k ∙ ap pack (carried x i k ∙ sym (carried y i (omega arith))) ∙ sym (w.new i (omega arith) (omega arith)))
          (λ k. v.others i (inr (omega arith)) ∙ sym (w.others i (inr (omega arith)))))
