-- A head that floods A's frame sends it on, in the flood's sense: over each of its live links but the one that it came over, and to each host but the one
-- that it came from.
use Prim.Native.Nat.{ℕ, ◌<◌}
use mathlib.Core.Path.{◌≡◌, refl, sym, ap, ◌∙◌}
use mathlib.Core.Logic.{◌⊎◌, ◌≢◌, inl, inr, ⊎_elim, by_cases}
use mathlib.Core.Bool.{Bool, true, false, ◌&&◌}
use mathlib.Core.List.{List, [], ◌∷◌, ◌++◌, Memᴰ}
use native.Mathlib.Decide.{ℕ_discrete}
use native.Mathlib.Omega.{arith}
use lib.Dec.{eqb}
use lib.ListN.{get_or}
use borrow.Author.Tests.{eq-eqb, ne_eqb}
use Rattle.network.specs.declared.Network.{Network}
use Rattle.network.specs.declared.Port.{Port}
use Rattle.network.specs.Checks.{network_fault}
use Rattle.filter.specs.Triple.{triple}
use Rattle.rules.specs.Mask.{names}
use Rattle.rules.specs.Rules.{flood, sends}
use Rattle.rules.specs.declared.Arrival.{Arrival}
use Rattle.rules.specs.declared.Send.{Send}
use Rattle.rules.specs.declared.Setup.{Setup}
use Rattle.rules.proofs.Laws.{names_all_but}
use Rattle.cabling.specs.declared.End.{End}
use Rattle.cabling.specs.declared.Plug.{Plug}
use Rattle.cabling.specs.declared.Plug.TheVariants.{Host as OfHost, Link as OfLink}
use Rattle.cabling.specs.Cabling.{is_live, most_ports, other_end}
use Rattle.cabling.proofs.Laws.{port_stands}
use Rattle.seat.proofs.Laws.{step_mask_live}
use Rattle.flight.specs.declared.Copy.{Copy}
use Rattle.turn.specs.Send.{copy_to}
use Rattle.turn.specs.Turn.{Answer, host_of, plug_of, port_to}
use Rattle.bench.specs.declared.Bench.{Bench}
use Rattle.bench.specs.Bench.{in_flight, seat_at}
use Rattle.counters.specs.History.{Moment as Happened}
use Rattle.flood.specs.Delivery.{SendsOn, Reaches}
use Rattle.plug_in.specs.Words.{sends_by}
use Rattle.plug_in.proofs.Happening.{Steps, out_in, sent_in, step_kept, step_new, step_placed}
use Rattle.plug_in.proofs.Mesh.{Cable, same_port}
use Rattle.plug_in.proofs.Reached.{Reached}
use Rattle.plug_in.proofs.Sent.{WentOut}
use Rattle.plug_in.proofs.Stand.{end_plugged, end_there, host_plugged, host_stands, live_is}
use Rattle.plug_in.proofs.Stepping.{mesh_in, moment_in, sends_is, start_in, times_few, times_not, times_one}
use Rattle.plug_in.proofs.View.{Flies, held_elsewhere, held_in, moment, still_flies}

-- ---- What is plugged into a port that there is

-- a live port's plug is live
plug_live : (b : Bench) → Reached b → (k : ℕ) → k < b.network.nswitches → (p : ℕ) → names (seat_at b k).switch.setup.live p ≡ is_live b.up (plug_of b.network k p)
plug_live b r k inside p =
    ap (λ (s : Setup). names s.live p) (r.shape.seats k inside).setup ∙ live_is b.network r.shape.described b.up k p

-- a host's port has its plug, and is live
pub host_port : (n : Network) → network_fault n ≡ 0 → (i : ℕ) → i < n.nhosts → {p : Port} → (host_of n i).port ≡ p → {k : ℕ} → p.switch ≡ k → (p.number < most_ports) × (plug_of n k p.number ≡ OfHost i)
host_port n fine i there at here = rw (← here, ← at) ((host_stands n fine i there).few, host_plugged n fine i there)

-- so has the port of a live cable
pub cable_port : (n : Network) → network_fault n ≡ 0 → (up : List Bool) {p q : Port} (c : Cable n up p q) {k : ℕ} → p.switch ≡ k
    → (p.number < most_ports) × (plug_of n k p.number ≡ OfLink c.near)
cable_port n fine up c here = rw (← here, ← c.from) ((port_stands n fine c.near c.there).few, end_plugged n fine c.near c.there)

-- a host's plug is no link's, nor another host's
pub host_or_link : {i : ℕ} {e : End} {plug : Plug} → plug ≡ OfHost i → plug ≡ OfLink e → ⊥
host_or_link p q = let z : ◌≡◌ {A = ℕ} 0 1 = cc in omega arith

-- a plug is of one host
pub one_host : {i j : ℕ} {plug : Plug} → plug ≡ OfHost i → plug ≡ OfHost j → i ≡ j
one_host p q = cc

-- a host's plug is live
live_host : (up : List Bool) {plug : Plug} {i : ℕ} → plug ≡ OfHost i → is_live up plug ≡ true
unfolding is_live
live_host up e = rw e

-- a link's is as the link is
live_link : (up : List Bool) {plug : Plug} {e : End} → plug ≡ OfLink e → is_live up plug ≡ get_or up e.link false
unfolding is_live
live_link up e = rw e

-- ---- The step

module _ {b : Bench} (r : Reached b) (A : ℕ) {x : ℕ} (nonce : ℕ) {k : ℕ} {a : Arrival} {rest : List Copy} {c : Bench} {told : Answer} (v : Steps b k a rest c told)
    (inside : k < b.network.nswitches) (mine : a.source ≡ x) (port : a.port < most_ports) (floods : sent_in b k a ≡ sends (flood (seat_at b k).switch.setup a) a.header) where
  -- each live port but the arrival port sends
  flooded : (p : ℕ) → p < most_ports → p ≢ a.port → is_live b.up (plug_of b.network k p) ≡ true → names (sent_in b k a).mask p ≡ true
  flooded p within other live =
      ap (λ (s : Send). names s.mask p) floods
      ∙ names_all_but a.port (seat_at b k).switch.setup.live p (omega arith) (omega arith)
      ∙ rw (plug_live b r k inside p ∙ live, ne_eqb p a.port other)

  -- the answer tells which ports of the head sent the frame
  says : (m : Happened) → m.answer ≡ told → (t p : ℕ) → sends_by x t p m.answer ≡ (eqb k t && names (sent_in b k a).mask p)
  says m said t p = ap (sends_by x t p) said ∙ sends_is v x t p ∙ rw (eq-eqb a.source x mine)

  -- a new copy came over a live link of the head
  reaches : {p : Port} {j : ℕ} (w : Flies b.network x c p j) → WentOut (plug_of b.network k) a (sent_in b k a).mask (sent_in b k a).header w.copy
      → Reaches (mesh_in b r) k p × (j ≡ a.header.hc)
  unfolding port_to
  reaches w o =
      let e = end_there b.network r.shape.described k o.port o.end o.plugged in (
        record {
          from = record { switch = k; number = o.port };
          own = refl;
          cable =
              record {
                near = o.end;
                there = e.0;
                live = sym (live_link b.up o.plugged) ∙ sym (plug_live b r k inside o.port) ∙ step_mask_live (seat_at b k) a o.port o.named;
                from = same_port e.1 e.2;
                to = sym (ap (port_to b.network) o.is) ∙ w.to;
              };
        },
        sym w.hops ∙ ap (λ (d : Copy). d.header.hc) o.is ∙ ap (λ (s : Send). s.header.hc) floods,
      )

  module _ (hops : ℕ) (count : a.header.hc ≡ hops) (held : held_in b.network c (triple x nonce 1) k ≡ true) (room : (out_in b k a rest).lost ≡ 0) (Spared : Port → Type 0)
      (spare : (e f : Port) → e.switch ≡ k → e.number ≡ a.port → Cable b.network b.up e f → Spared e)
      (aside : (i : ℕ) → i < b.network.nhosts → i ≢ A → (e : Port) → (host_of b.network i).port ≡ e → e.switch ≡ k → e.number ≢ a.port)
      (were : (d : Copy) → Memᴰ d rest → Memᴰ d (in_flight b))
      (left : (d : Copy) → Memᴰ d (in_flight b) → Memᴰ d rest ⊎ ((port_to b.network d).switch ≡ k)) where
    -- over each other cable a copy is in flight then
    carried : (e f : Port) → e.switch ≡ k → e.number ≢ a.port → Cable b.network b.up e f → Flies b.network x c f hops
    unfolding port_to
    carried e f here other cable =
        let p = cable_port b.network r.shape.described b.up cable here in
        record {
          copy = copy_to (other_end cable.near) a (sent_in b k a).header;
          there = step_placed v e.number p.0 (flooded e.number p.0 other (live_link b.up p.1 ∙ cable.live)) p.1 room;
          mine = mine;
          to = cable.to;
          hops = ap (λ (s : Send). s.header.hc) floods ∙ count;
        }

    -- all that the flood asks of a switch that sends on
    pub sends_on : (h : List Happened) (m : Happened) → m.answer ≡ told
        → SendsOn (start_in b r x A) k hops Spared
        (moment_in b r x nonce b h) (moment_in b r x nonce c (h ++ (m ∷ [])))
    unfolding moment
    sends_on h m said =
        record {
          noted = held;
          others = λ t d. held_elsewhere v (triple x nonce 1) t d;
          placed = λ e f here cable. by_cases (ℕ_discrete e.number a.port) (λ q. inl (spare e f here q cable)) (λ q. inr (carried e f here q cable));
          only = λ f j w. ⊎_elim (λ o. inl (still_flies w (were w.copy o))) (λ o. let z = reaches w o in inr (z.0, z.1 ∙ count)) (step_new v w.there);
          gone = λ f j w. ⊎_elim (λ o. inl (still_flies w (step_kept v o))) (λ o. inr (sym (ap (λ (p : Port). p.switch) w.to) ∙ o)) (left w.copy w.there);
          at_most = λ e here. let few = times_few (sends_by x e.switch e.number) h m in omega arith;
          due = λ e here d. let one = times_one (sends_by x e.switch e.number) h m (owed e here d) in omega arith;
          silent = λ e d. times_not (sends_by x e.switch e.number) h m (says m said e.switch e.number ∙ rw (ne_eqb k e.switch (λ q. d (sym q))));
        }
      where
        owed : (e : Port) → e.switch ≡ k → (i : ℕ) × (i < b.network.nhosts) × (i ≢ A) × ((host_of b.network i).port ≡ e) → sends_by x e.switch e.number m.answer ≡ true
        owed e here d =
            let p = host_port b.network r.shape.described d.0 d.1 d.3 here in
            says m said e.switch e.number
            ∙ rw (eq-eqb k e.switch (sym here)) (flooded e.number p.0 (aside d.0 d.1 d.2 e d.3 here) (live_host b.up p.1))
