-- A copy of A's frame that is dropped, being too old or heard before: the frame isn't sent, no filter changes, and a record moves at most to fewer hops.
use Prim.Native.Nat.{ℕ, suc, ◌≤◌}
use mathlib.Core.Path.{◌≡◌, sym, ap, subst, ◌∙◌}
use mathlib.Core.Logic.{◌⊎◌, inl, inr, ⊎_elim, by_cases}
use mathlib.Core.Bool.{true, false, ◌&&◌, true≢false}
use mathlib.Core.List.{List, [], ◌∷◌, ◌++◌, Memᴰ}
use native.Mathlib.Decide.{ℕ_discrete}
use native.Mathlib.Omega.{arith}
use lib.Dec.{eqb}
use borrow.Author.Tests.{ltb-true}
use Rattle.std.proofs.Math.Bool.{and-false}
use Rattle.network.specs.declared.Port.{Port}
use Rattle.network.specs.Network.{limit_of}
use Rattle.std.specs.Prelude.{Some}
use Rattle.table.specs.Table.{entry_of, lookup_of}
use Rattle.filter.specs.Triple.{triple}
use Rattle.rules.specs.Mask.{names}
use Rattle.rules.specs.Rules.{too_old}
use Rattle.rules.specs.declared.Arrival.{Arrival}
use Rattle.rules.specs.declared.Setup.{Setup}
use Rattle.cabling.specs.Cabling.{setup_of, switch_at}
use Rattle.flight.specs.declared.Copy.{Copy}
use Rattle.turn.specs.Turn.{Answer, port_to}
use Rattle.bench.specs.declared.Bench.{Bench}
use Rattle.bench.specs.Bench.{in_flight, seat_at}
use Rattle.counters.specs.History.{Moment as Happened}
use Rattle.flood.specs.Delivery.{Passes}
use Rattle.flood.specs.Records.{Relearns}
use Rattle.flood.proofs.Laws.{moves, stays}
use Rattle.plug_in.specs.Words.{sends_by}
use Rattle.plug_in.proofs.Happening.{Steps, sent_in, step_kept, step_new}
use Rattle.plug_in.proofs.Ours.{Moves, again_filter, again_found, again_silent, old_filter, old_silent, old_table}
use Rattle.plug_in.proofs.Reached.{Reached}
use Rattle.plug_in.proofs.Stepping.{found_at, found_stays, held_after, held_at, keeps, moment_in, records_in, ruled, same_in, sends_is, times_not}
use Rattle.plug_in.proofs.Taken.{Takes, entered}
use Rattle.plug_in.proofs.View.{Flies, alone, found_elsewhere, found_in, held_elsewhere, held_in, hops_of, moment, records, still_flies}

module _ {b : Bench} (r : Reached b) {x nonce : ℕ} {d : Copy} {p : Port} {a : Arrival} {rest : List Copy} (t : Takes b x nonce d p a rest) {c : Bench} {told : Answer} (v : Steps b p.switch a rest c told) where
  -- ---- Nothing is sent, and the filter is as before

  module _ (silent : (q : ℕ) → names (sent_in b p.switch a).mask q ≡ false) (same : (ruled b p.switch a).filter ≡ (seat_at b p.switch).cells) where
    -- no filter changes for the frame
    held_same : (k : ℕ) → held_in b.network c (triple x nonce 1) k ≡ held_in b.network b (triple x nonce 1) k
    held_same k =
        by_cases (ℕ_discrete k p.switch) (λ e. rw e here) (held_elsewhere v (triple x nonce 1) k)
      where
        here : held_in b.network c (triple x nonce 1) p.switch ≡ held_in b.network b (triple x nonce 1) p.switch
        here =
            held_after v t.stands.switch (triple x nonce 1) ∙ ap (λ cells. keeps b p.switch cells (triple x nonce 1)) same
            ∙ sym (held_at b p.switch t.stands.switch (triple x nonce 1))

    -- the copy is gone, for a reason
    dropped : (held_in b.network b (triple x nonce 1) p.switch ≡ true) ⊎ (limit_of (switch_at b.network p.switch) ≤ d.header.hc) → (h : List Happened) (m : Happened) → m.answer ≡ told
        → Passes (moment_in b r x nonce b h) (moment_in b r x nonce c (h ++ (m ∷ [])))
    unfolding moment
    dropped why h m said =
        record {
          gone = λ q j w. ⊎_elim (λ n. inl (still_flies w (step_kept v n))) (λ e. inr (lost w e)) (t.left w.copy w.there);
          only = λ q j w. record { copy = w.copy; there = old w; mine = w.mine; to = w.to; hops = w.hops };
          kept = λ q j w k held. held_same k ∙ held;
          unmade = λ k free. held_same k ∙ free;
          silent = λ q. times_not (sends_by x q.switch q.number) h m (ap (sends_by x q.switch q.number) said ∙ sends_is v x q.switch q.number
              ∙ rw (silent q.number) (and-false (eqb a.source x && eqb p.switch q.switch)));
        }
      where
        lost : {q : Port} {j : ℕ} (w : Flies b.network x b q j) → w.copy ≡ d → (held_in b.network b (triple x nonce 1) q.switch ≡ true) ⊎ (limit_of (switch_at b.network q.switch) ≤ j)
        lost {q} {j} w e =
            let at : p ≡ q = sym t.to ∙ sym (ap (port_to b.network) e) ∙ w.to in
            let hops : d.header.hc ≡ j = sym (ap (λ (d : Copy). d.header.hc) e) ∙ w.hops in
            ⊎_elim (λ y. inl (subst (λ (p : Port). held_in b.network b (triple x nonce 1) p.switch ≡ true) at y))
            (λ y. inr (subst (λ j. limit_of (switch_at b.network q.switch) ≤ j) hops (subst (λ (p : Port). limit_of (switch_at b.network p.switch) ≤ d.header.hc) at y))) why

        old : {q : Port} {j : ℕ} (w : Flies b.network x c q j) → Memᴰ w.copy (in_flight b)
        old w = ⊎_elim (t.were w.copy) (λ o. absurd (true≢false (sym o.named ∙ silent o.port))) (step_new v w.there)

  -- ---- Too old: it had reached the limit, and its switch keeps its record

  module _ (old : too_old (seat_at b p.switch).switch.setup a ≡ true) where
    -- it had reached the limit of its switch
    at_limit : limit_of (switch_at b.network p.switch) ≤ d.header.hc
    unfolding setup_of
    at_limit =
        let above = ltb-true (seat_at b p.switch).switch.setup.limit a.header.hc old in
        let limit : (seat_at b p.switch).switch.setup.limit ≡ limit_of (switch_at b.network p.switch) = ap (λ (s : Setup). s.limit) (r.shape.seats p.switch t.stands.switch).setup in
        omega (arith, t.counts)

    -- so the frame passes
    pub old_passes : (h : List Happened) (m : Happened) → m.answer ≡ told → Passes (moment_in b r x nonce b h) (moment_in b r x nonce c (h ++ (m ∷ [])))
    old_passes = dropped (old_silent r t.stands.switch t.ours old) (old_filter r t.stands.switch t.ours old) (inr at_limit)

    -- and no record changes
    pub old_keeps : (k : ℕ) → found_in b.network c x k ≡ found_in b.network b x k
    old_keeps = found_stays v t.stands.switch x (ap (λ u. lookup_of u x) (old_table r t.stands.switch t.ours old))

  -- ---- Heard before: the record stays, or moves to fewer hops

  module _ (young : too_old (seat_at b p.switch).switch.setup a ≡ false) (again : held_in b.network b (triple x nonce 1) p.switch ≡ true) where
    -- the frame passes
    pub again_passes : (h : List Happened) (m : Happened) → m.answer ≡ told → Passes (moment_in b r x nonce b h) (moment_in b r x nonce c (h ++ (m ∷ [])))
    again_passes = dropped (again_silent r t.stands.switch t.ours young again) (again_filter r t.stands.switch t.ours young again) (inl again)

    -- its switch still holds the frame
    still : held_in b.network c (triple x nonce 1) p.switch ≡ true
    still =
        held_same (again_silent r t.stands.switch t.ours young again) (again_filter r t.stands.switch t.ours young again) p.switch ∙ again

    -- the record moves to where this copy came from
    moved : (h g : List Happened) → Moves b p.switch a x
        → Relearns (moment_in b r x nonce b h) (moment_in b r x nonce c g) (records_in b r x b) (records_in b r x c) p.switch
    unfolding moment records
    moved h g q =
        moves p d.header.hc t.flew still (alone b.network b.up r.shape.described x c p (suc d.header.hc) (entered t v q.entry))
        (λ has.
        let e : found_in b.network b x p.switch ≡ Some (entry_of has.end.number has.named.0) =
        subst (λ k. found_in b.network b x k ≡ Some (entry_of has.end.number has.named.0)) has.own has.named.1 in
        let few = q.nearer (entry_of has.end.number has.named.0) (sym (found_at b p.switch t.stands.switch x) ∙ e) in
        let hops : hops_of (found_in b.network b x p.switch) ≡ has.named.0 = ap hops_of e in
        omega (arith, t.counts))

    -- each record stays, or moves so
    pub again_relearns : (h g : List Happened) (k : ℕ) → Relearns (moment_in b r x nonce b h) (moment_in b r x nonce c g) (records_in b r x b) (records_in b r x c) k
    again_relearns h g k =
        ⊎_elim (λ q. stays (same_in r x c k (found_stays v t.stands.switch x q k)))
        (λ q. by_cases (ℕ_discrete k p.switch) (λ e. rw e (moved h g q)) (λ other. stays (same_in r x c k (found_elsewhere v x k other))))
        (again_found r t.stands.switch t.ours young again t.nonzero)
