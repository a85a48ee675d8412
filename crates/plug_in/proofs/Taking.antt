-- A copy of A's frame is taken: the flood goes on, by a first copy, which is flooded and learned, or by one that is dropped.
use Prim.Native.Nat.{ℕ, suc, ◌<◌}
use mathlib.Core.Path.{◌≡◌, sym, ap, subst, ◌∙◌}
use mathlib.Core.Logic.{inl, inr, ⊎_elim}
use mathlib.Core.Bool.{false}
use mathlib.Core.List.{List, [], ◌∷◌, ◌++◌}
use Rattle.std.proofs.lemmas.Bool.{cases_Bool}
use Rattle.network.specs.declared.Port.{Port}
use Rattle.filter.specs.Triple.{triple}
use Rattle.rules.specs.Rules.{too_old}
use Rattle.rules.specs.declared.Arrival.{Arrival}
use Rattle.cabling.specs.Cabling.{most_ports}
use Rattle.flight.specs.declared.Copy.{Copy}
use Rattle.turn.specs.Turn.{Answer, plug_of, port_to}
use Rattle.bench.specs.declared.Bench.{Bench}
use Rattle.bench.specs.Bench.{seat_at}
use Rattle.counters.specs.History.{Moment as Happened}
use Rattle.flood.specs.Delivery.{First}
use Rattle.flood.specs.Records.{Learns, Recording, learned, relearned}
use Rattle.flood.proofs.Laws.{stays}
use Rattle.plug_in.specs.Words.{LosesNone}
use Rattle.plug_in.proofs.Dropping.{again_passes, again_relearns, old_keeps, old_passes}
use Rattle.plug_in.proofs.Flooding.{host_or_link, host_port, sends_on}
use Rattle.plug_in.proofs.Happening.{Steps}
use Rattle.plug_in.proofs.Mesh.{same_port}
use Rattle.plug_in.proofs.Ours.{first_floods, first_found, first_held}
use Rattle.plug_in.proofs.Reached.{Reached}
use Rattle.plug_in.proofs.Stepping.{held_after, moment_in, records_in, same_in, start_in}
use Rattle.plug_in.proofs.Taken.{Takes, entered}
use Rattle.plug_in.proofs.View.{alone, found_elsewhere, held_in, moment}

module _ {b : Bench} (r : Reached b) (A : ℕ) {x nonce : ℕ} {d : Copy} {p : Port} {a : Arrival} {rest : List Copy} (t : Takes b x nonce d p a rest) {c : Bench} {told : Answer} (v : Steps b p.switch a rest c told)
    (room : LosesNone x told) where
  -- ---- The first copy

  module _ (young : too_old (seat_at b p.switch).switch.setup a ≡ false) (new : held_in b.network b (triple x nonce 1) p.switch ≡ false) where
    -- it is sent on over all cables but the one that it came over
    first : (h : List Happened) (m : Happened) → m.answer ≡ told → First (start_in b r x A) p d.header.hc (moment_in b r x nonce b h) (moment_in b r x nonce c (h ++ (m ∷ [])))
    unfolding moment
    first h m said =
        record {
          taken = t.flew;
          new = new;
          sends =
              sends_on r A nonce v t.stands.switch t.ours.source (subst (λ q. q < most_ports) (sym t.at) t.stands.few)
              (first_floods r t.stands.switch t.ours young new) (suc d.header.hc) t.counts
              (held_after v t.stands.switch (triple x nonce 1) ∙ first_held r t.stands.switch t.ours young new)
              (subst (LosesNone x) v.answer room t.ours.source) (λ f. f ≡ p) (λ e f here q cable. same_port here (q ∙ t.at))
              (λ i l other e at here q. host_or_link (host_port b.network r.shape.described i l at here).1 (ap (plug_of b.network p.switch) (q ∙ t.at) ∙ t.plugged)) t.were
              (λ e n. ⊎_elim inl (λ q. inr (ap (λ (e : Copy). (port_to b.network e).switch) q ∙ ap (λ (p : Port). p.switch) t.to)) (t.left e n)) h m said;
        }

    -- and the port that it came to is recorded
    learns : (h g : List Happened) → Learns p d.header.hc (moment_in b r x nonce b h) (moment_in b r x nonce c g) (records_in b r x b) (records_in b r x c)
    learns h g =
        record {
          own =
              alone b.network b.up r.shape.described x c p (suc d.header.hc)
              (entered t v (first_found r t.stands.switch t.ours young new t.nonzero));
          others = λ k other. stays (same_in r x c k (found_elsewhere v x k other));
        }

  -- ---- The flood goes on

  -- whichever it is
  pub goes_on : (home : Port) (h : List Happened) (m : Happened) → m.answer ≡ told → Recording (start_in b r x A) home (moment_in b r x nonce b h) (records_in b r x b)
      → Recording (start_in b r x A) home (moment_in b r x nonce c (h ++ (m ∷ []))) (records_in b r x c)
  goes_on home h m said before =
      ⊎_elim (λ old. relearned before (old_passes r t v old h m said) (λ k. stays (same_in r x c k (old_keeps r t v old k))))
      (λ young. ⊎_elim (λ again. relearned before (again_passes r t v young again h m said) (again_relearns r t v young again h (h ++ (m ∷ []))))
      (λ new. learned before (first young new h m said) (learns young new h (h ++ (m ∷ []))))
      (cases_Bool (held_in b.network b (triple x nonce 1) p.switch)))
      (cases_Bool (too_old (seat_at b p.switch).switch.setup a))
