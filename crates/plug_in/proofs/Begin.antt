-- A sends its frame: where nothing names A the flood begins at its switch, and its record is A's own port, one hop away.
use Prim.Native.Nat.{ℕ, ◌<◌}
use mathlib.Core.Path.{◌≡◌, refl, sym, ap, subst, ◌∙◌}
use mathlib.Core.Logic.{inl, by_cases}
use mathlib.Core.Bool.{true, false}
use mathlib.Core.List.{List, [], ◌∷◌}
use native.Mathlib.Decide.{dec_lt, ℕ_discrete}
use native.Mathlib.Omega.{arith}
use borrow.Author.Tests.{le-ltb}
use Rattle.std.proofs.lemmas.Bool.{false_from_ne_true}
use Rattle.std.proofs.lemmas.Option.{none-some, same_Some}
use Rattle.wire.specs.Wire.{bytes_of}
use Rattle.wire.specs.Address.{Source}
use Rattle.network.specs.declared.Port.{Port}
use Rattle.table.specs.declared.Entry.{Entry}
use Rattle.std.specs.Prelude.{Some, None}
use Rattle.table.specs.Table.{entry_of, lookup_of}
use Rattle.table.proofs.Laws.{absent_iff, empty_absent}
use Rattle.filter.specs.Filter.{empty, holds}
use Rattle.filter.specs.Triple.{triple}
use Rattle.filter.proofs.Laws.{held_names, is_triple, triple_some, zeros_hold_none}
use Rattle.frame.specs.declared.Header.{Header}
use Rattle.rules.specs.Rules.{too_old}
use Rattle.rules.specs.declared.Arrival.{Arrival}
use Rattle.cabling.specs.declared.Plug.TheVariants.{Host as OfHost}
use Rattle.cabling.specs.Cabling.{Stands, most_ports}
use Rattle.seat.specs.declared.Seat.{Seat}
use Rattle.seat.specs.Seat.{cell_bytes, fresh_seat}
use Rattle.seat.proofs.Laws.{unknown_host_floods}
use Rattle.turn.specs.Turn.{Answer, host_arrival, host_of, plug_of}
use Rattle.bench.specs.declared.Bench.{Bench}
use Rattle.bench.specs.Bench.{in_flight, no_seat, seat_at}
use Rattle.counters.specs.History.{Moment as Happened}
use Rattle.flood.specs.Delivery.{Begins}
use Rattle.flood.specs.Records.{Home, Recording, Root, rooted}
use Rattle.plug_in.specs.Words.{LosesNone, NamesNowhere, times}
use Rattle.plug_in.proofs.Flooding.{cable_port, host_or_link, host_port, one_host, sends_on}
use Rattle.plug_in.proofs.Happening.{Steps}
use Rattle.plug_in.proofs.Mesh.{Cable, same_port}
use Rattle.plug_in.proofs.Ours.{Ours, first_floods, first_found, first_held}
use Rattle.plug_in.proofs.Reached.{Reached, host_at_lem, host_from}
use Rattle.plug_in.proofs.Stand.{host_plugged, host_source, host_stands}
use Rattle.plug_in.proofs.Stepping.{found_after, held_after, held_at, moment_in, records_in, start_in}
use Rattle.plug_in.proofs.View.{found_in, head_beyond, head_inside, head_at, held_in, hops_of, found_elsewhere, moment, records}

-- what arrives when host A sends to an address, and where
abbrev pub home_in : Bench → ℕ → Port
home_in b A = (host_of b.network A).port

-- what arrives there when A sends to an address
abbrev pub first_in : Bench → ℕ → ℕ → Arrival
first_in b A to = host_arrival (seat_at b (home_in b A).switch) (host_of b.network A) to

-- A's address
abbrev pub address_in : Bench → ℕ → ℕ
address_in b A = (host_of b.network A).address

-- its nonce is the next one of that switch
abbrev pub nonce_in : Bench → ℕ → ℕ
nonce_in b A = (seat_at b (home_in b A).switch).switch.nonce

-- a key is not all zeros
some_key : {x : ℕ} (nonce : ℕ) → Source x → empty (triple x nonce 1) ≡ false
some_key {x} nonce s = triple_some refl (is_triple x nonce 1 s.below s.nonzero s.single (omega arith))

module _ (b : Bench) (r : Reached b) (A to : ℕ) (there : A < b.network.nhosts) (nowhere : NamesNowhere (address_in b A) b) where
  -- A's address is a source
  source : Source (address_in b A)
  source = host_source b.network r.shape.described A there

  -- its port is there
  stands : Stands b.network (home_in b A)
  stands = host_stands b.network r.shape.described A there

  -- filters know its frame by this
  abbrev key : List ℕ
  key = triple (address_in b A) (nonce_in b A) 1

  -- no filter holds the frame
  unheard : (t : ℕ) → held_in b.network b key t ≡ false
  unfolding held_in fresh_seat
  unheard t = by_cases (dec_lt t b.network.nswitches) (λ h. inside h) (λ h. beyond (head_at b.network b t) (head_beyond b.network b (omega arith)))
    where
      inside : t < b.network.nswitches → held_in b.network b key t ≡ false
      inside h =
          false_from_ne_true _
          (λ e. nowhere.records t h (held_names (seat_at b t).cells (seat_at b t).switch.setup.salt key (bytes_of 6 (address_in b A)) refl
          (sym (held_at b t h key) ∙ e)))

      beyond : (s : Seat) → s ≡ no_seat → holds s.cells s.switch.setup.salt key ≡ false
      beyond s e =
          ap (λ (s : Seat). holds s.cells s.switch.setup.salt key) e
          ∙ zeros_hold_none cell_bytes 0 key (some_key (nonce_in b A) source)

  -- no table has an entry
  unknown : (t : ℕ) → found_in b.network b (address_in b A) t ≡ None
  unfolding found_in fresh_seat
  unknown t =
      by_cases (dec_lt t b.network.nswitches)
      (λ h. ap (λ (s : Seat). lookup_of s.switch.table (address_in b A)) (head_inside b.network b h)
      ∙ (absent_iff (r.shape.seats t h).formed.table.sized (address_in b A)).1 (nowhere.entries t h))
      (λ h. ap (λ (s : Seat). lookup_of s.switch.table (address_in b A)) (head_beyond b.network b (omega arith)) ∙ empty_absent (address_in b A))

  -- so it starts as a flood
  header : (first_in b A to).header ≡ record { l = true; f = true; hc = 1; nonce = nonce_in b A }
  unfolding host_arrival
  header =
      unknown_host_floods (seat_at b (home_in b A).switch) (home_in b A).number (address_in b A) to
      ((absent_iff (r.shape.seats (home_in b A).switch stands.switch).formed.table.sized (address_in b A)).1 (nowhere.entries (home_in b A).switch stands.switch))

  -- it is A's frame
  pub first_ours : Ours (address_in b A) (nonce_in b A) (first_in b A to)
  first_ours =
      record {
        source = host_from _ _ _;
        l = ap (λ (h : Header). h.l) header;
        f = ap (λ (h : Header). h.f) header;
        nonce = ap (λ (h : Header). h.nonce) header;
      }

  -- one hop is within any limit
  young : too_old (seat_at b (home_in b A).switch).switch.setup (first_in b A to) ≡ false
  young =
      le-ltb (seat_at b (home_in b A).switch).switch.setup.limit (first_in b A to).header.hc
      (omega (arith, (r.shape.seats (home_in b A).switch stands.switch).formed.some_limit, ap (λ (h : Header). h.hc) header))

  -- at its port nothing but A is plugged in
  here_plugged : {p : Port} → p.switch ≡ (home_in b A).switch → p.number ≡ (first_in b A to).port → plug_of b.network (home_in b A).switch p.number ≡ OfHost A
  here_plugged {p} here at =
      ap (plug_of b.network (home_in b A).switch) (at ∙ host_at_lem _ _ _) ∙ host_plugged b.network r.shape.described A there

  -- no cable is at its port
  no_cable : (e f : Port) → e.switch ≡ (home_in b A).switch → e.number ≡ (first_in b A to).port → Cable b.network b.up e f → ⊥
  no_cable e f here at cable = host_or_link (here_plugged here at) (cable_port b.network r.shape.described b.up cable here).1

  -- its port is the flood's home
  home : Home (start_in b r (address_in b A) A) (home_in b A)
  home = record { own = refl; outside = λ f cable. no_cable (home_in b A) f refl (sym (host_at_lem _ _ _)) cable }

  module _ {c : Bench} {told : Answer} (v : Steps b (home_in b A).switch (first_in b A to) (in_flight b) c told) where
    -- its switch learns A at its port, one hop away
    entered : found_in b.network c (address_in b A) (home_in b A).switch ≡ Some (entry_of (home_in b A).number 1)
    entered =
        found_after v stands.switch (address_in b A)
        ∙ first_found r stands.switch first_ours young (unheard (home_in b A).switch) (λ e. source.nonzero (sym first_ours.source ∙ e))
        ∙ ap (λ p. Some (entry_of p (first_in b A to).header.hc)) (host_at_lem _ _ _)
        ∙ ap (λ (h : Header). Some (entry_of (home_in b A).number h.hc)) header

    -- and no other switch has a record
    root : Root (start_in b r (address_in b A) A) (home_in b A) (records_in b r (address_in b A) c)
    unfolding records
    root =
        record {
          named = (1, entered);
          only = λ e n. by_cases (ℕ_discrete e.switch (home_in b A).switch)
              (λ q. same_port q (ap (λ (e : Entry). e.port) (same_Some _ _ (sym n.1 ∙ ap (found_in b.network c (address_in b A)) q ∙ entered))))
              (λ d. absurd (none-some _ (sym (unknown e.switch) ∙ sym (found_elsewhere v (address_in b A) e.switch d) ∙ n.1)));
          hops = ap hops_of entered;
        }

    -- its switch sends the frame on over all its cables
    begins : LosesNone (address_in b A) told → (m : Happened) → m.answer ≡ told
        → Begins (start_in b r (address_in b A) A)
        (moment_in b r (address_in b A) (nonce_in b A) b [])
        (moment_in b r (address_in b A) (nonce_in b A) c (m ∷ []))
    unfolding moment times
    begins room m said =
        record {
          in_mesh = stands.switch;
          unheard = unheard;
          quiet = λ p j w. (nowhere.copies.each w.copy w.there).0 w.mine;
          unsent = λ p. refl;
          sends =
              sends_on r A (nonce_in b A) v stands.switch first_ours.source
              (subst (λ p. p < most_ports) (sym (host_at_lem _ _ _)) stands.few)
              (first_floods r stands.switch first_ours young (unheard (home_in b A).switch))
              1 (ap (λ (h : Header). h.hc) header)
              (held_after v stands.switch key
              ∙ first_held r stands.switch first_ours young (unheard (home_in b A).switch))
              (subst (LosesNone (address_in b A)) v.answer room first_ours.source) (λ e. ⊥) no_cable
              (λ i l other e at here q. other (one_host (host_port b.network r.shape.described i l at here).1 (here_plugged here q)))
              (λ d m. m) (λ d m. inl m) [] m said;
        }

    -- the flood begins
    pub begun : LosesNone (address_in b A) told → (m : Happened) → m.answer ≡ told
        → Recording (start_in b r (address_in b A) A) (home_in b A)
        (moment_in b r (address_in b A) (nonce_in b A) c (m ∷ []))
        (records_in b r (address_in b A) c)
    begun room m said = rooted home (begins room m said) root
