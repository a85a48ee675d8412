-- A copy of A's frame, as it is taken: where it was in flight to, how it arrives, and what is left in flight.
use Prim.Native.Nat.{ℕ, suc, ◌<◌}
use mathlib.Core.Path.{◌≡◌, refl, sym, ap, ◌∙◌}
use mathlib.Core.Logic.{◌⊎◌, ◌≢◌, inl, inr, ⊎_elim}
use mathlib.Core.List.{List, Memᴰ}
use native.Mathlib.Omega.{arith}
use lib.ListN.{length}
use Rattle.frame.specs.declared.Header.{Header}
use Rattle.network.specs.declared.Port.{Port}
use Rattle.std.specs.Prelude.{Some}
use Rattle.table.specs.Table.{entry_of, lookup_of}
use Rattle.rules.specs.declared.Arrival.{Arrival}
use Rattle.cabling.specs.declared.Plug.TheVariants.{Link as OfLink}
use Rattle.cabling.specs.Cabling.{Stands}
use Rattle.cabling.proofs.Laws.{port_stands}
use Rattle.flight.specs.declared.Copy.{Copy}
use Rattle.flight.specs.Flight.{without}
use Rattle.flight.proofs.Laws.{at_member, without_member, without_or_at}
use Rattle.turn.specs.Turn.{Answer, copy_arrival, copy_at, end_of, plug_of, port_to}
use Rattle.bench.specs.declared.Bench.{Bench}
use Rattle.bench.specs.Bench.{in_flight}
use Rattle.plug_in.proofs.Happening.{Steps}
use Rattle.plug_in.proofs.Ours.{Ours}
use Rattle.plug_in.proofs.Reached.{Reached, copy_at_lem, copy_from, copy_header}
use Rattle.plug_in.proofs.Stand.{end_plugged}
use Rattle.plug_in.proofs.Stepping.{found_after, ruled}
use Rattle.plug_in.proofs.View.{Flies, found_in}

-- copy d of A's frame is taken at port p, where it arrives as a; rest are the others
pub record Takes (b : Bench) (x nonce : ℕ) (d : Copy) (p : Port) (a : Arrival) (rest : List Copy) : Type 0 where
  pub ours : Ours x nonce a
  pub nonzero : a.source ≢ 0
  pub stands : Stands b.network p
  pub at : a.port ≡ p.number
  pub counts : a.header.hc ≡ suc d.header.hc
  pub to : port_to b.network d ≡ p
  pub plugged : plug_of b.network p.switch p.number ≡ OfLink (end_of d)
  pub flew : Flies b.network x b p d.header.hc
  pub were : (e : Copy) → Memᴰ e rest → Memᴰ e (in_flight b)
  pub left : (e : Copy) → Memᴰ e (in_flight b) → Memᴰ e rest ⊎ (e ≡ d)

-- as the copy at a place is
pub takes : (b : Bench) → Reached b → {x nonce : ℕ} (place : ℕ) → place < length (in_flight b) → Ours x nonce (copy_arrival b.network (copy_at (in_flight b) place))
    → Takes b x nonce (copy_at (in_flight b) place) (port_to b.network (copy_at (in_flight b) place)) (copy_arrival b.network (copy_at (in_flight b) place)) (without place (in_flight b))
unfolding port_to
takes b r place there o =
    let d : Copy = copy_at (in_flight b) place in
    let member : Memᴰ d (in_flight b) = at_member place (in_flight b) there in
    let fits = r.shape.copies.each d member in
    record {
      ours = o;
      nonzero = λ e. fits.source.nonzero (sym (copy_from b.network d) ∙ e);
      stands = port_stands b.network r.shape.described (end_of d) fits.link;
      at = copy_at_lem b.network d;
      counts = ap (λ (h : Header). h.hc) (copy_header b.network d) ∙ omega arith;
      to = refl;
      plugged = end_plugged b.network r.shape.described (end_of d) fits.link;
      flew = record { copy = d; there = member; mine = sym (copy_from b.network d) ∙ o.source; to = refl; hops = refl };
      were = λ e m. without_member place (in_flight b) m;
      left = λ e m. ⊎_elim inr inl (without_or_at place (in_flight b) m);
    }

-- where it is learned, its switch has an entry at p with one hop more than it said
pub entered : {b : Bench} {x nonce : ℕ} {d : Copy} {p : Port} {a : Arrival} {rest : List Copy} → Takes b x nonce d p a rest → {c : Bench} {told : Answer} → Steps b p.switch a rest c told
    → lookup_of (ruled b p.switch a).table x ≡ Some (entry_of a.port a.header.hc) → found_in b.network c x p.switch ≡ Some (entry_of p.number (suc d.header.hc))
entered {x} {d} {p} {a} t v e =
    found_after v t.stands.switch x ∙ e ∙ ap (λ q. Some (entry_of q a.header.hc)) t.at ∙ ap (λ h. Some (entry_of p.number h)) t.counts
