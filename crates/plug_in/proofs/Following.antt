-- Following the recorded ports: each leads to A or to a switch with fewer hops, so the way ends at A and visits no switch twice.
use Prim.Native.Nat.{ℕ, zero, suc, ◌≤◌, ◌<◌}
use mathlib.Core.Path.{◌≡◌, refl, sym, ap, subst, ◌∙◌}
use mathlib.Core.Logic.{◌⊎◌, ⊎_elim}
use mathlib.Core.List.Memᴰ
use mathlib.Core.List.{List, [], ◌∷◌, Memᴰ}
use native.Mathlib.Omega.{arith}
use Rattle.network.specs.declared.Port.{Port}
use Rattle.std.specs.Prelude.{Some}
use Rattle.table.specs.Table.{entry_of}
use Rattle.filter.specs.Triple.{triple}
use Rattle.cabling.specs.declared.Plug.TheVariants.{Host as OfHost}
use Rattle.turn.specs.Turn.{host_of, plug_of}
use Rattle.counters.specs.History.{Moment as Happened, State}
use Rattle.flood.specs.Records.{Down, Has, LeadsHome}
use Rattle.flood.proofs.Laws.{records_lead_home}
use Rattle.plug_in.specs.Words as words
use Rattle.plug_in.specs.Words.{HasRecord, NoneTwice, Way}
use Rattle.plug_in.proofs.Flooding.{cable_port}
use Rattle.plug_in.proofs.Mesh.{cable_back, cable_inside}
use Rattle.plug_in.proofs.Run.{Flowing}
use Rattle.plug_in.proofs.Stand.{host_plugged}
use Rattle.plug_in.proofs.Stepping.{found_at}
use Rattle.plug_in.proofs.View.{found_in, hops_of, moment, records, start}

module _ {A x nonce : ℕ} {s : State} {h : List Happened} (v : Flowing s.bench.network s.bench.up A x nonce s h) where
  -- the second half of the flood theorem
  pub leads : LeadsHome (start s.bench.network s.bench.up v.fine x A) (host_of s.bench.network A).port
      (moment s.bench.network s.bench.up v.fine x (triple x nonce 1) s.bench h) (records s.bench.network s.bench.up v.fine x s.bench)
  leads = records_lead_home _ _ _ _ _ v.recording

  -- the hop count of a switch's record
  hops : ℕ → ℕ
  hops k = hops_of (found_in s.bench.network s.bench x k)

  -- a record is one in the flood's sense, and the other way round
  found : {k : ℕ} (r : HasRecord x s.bench k) → found_in s.bench.network s.bench x k ≡ Some r.entry
  found {k} r = found_at s.bench k r.in_stand x ∙ r.found

  -- one in the flood's sense is a record
  pub recorded : {k : ℕ} → k < s.bench.network.nswitches → Has (records s.bench.network s.bench.up v.fine x s.bench) k → HasRecord x s.bench k
  unfolding records
  recorded {k} inside r =
      record {
        in_stand = inside;
        entry = entry_of r.end.number r.named.0;
        found = sym (found_at s.bench k inside x) ∙ sym (ap (found_in s.bench.network s.bench x) r.own) ∙ r.named.1;
      }

  -- a recorded port is A's, or leads to a switch with fewer hops
  down : {k : ℕ} (r : HasRecord x s.bench k)
      → (◌≡◌ {A = Port} (record { switch = k; number = r.entry.port }) (host_of s.bench.network A).port)
      ⊎ Down (records s.bench.network s.bench.up v.fine x s.bench) (record { switch = k; number = r.entry.port })
  unfolding records
  down {k} r = leads.down (record { switch = k; number = r.entry.port }) (r.entry.hops, found r)

  -- a way from a switch, on which none has more hops than it
  abbrev WayFrom : ℕ → Type 0
  WayFrom k = (ks : List ℕ) × Way A x s.bench k ks × NoneTwice ks × ((j : ℕ) → Memᴰ j ks → hops j ≤ hops k)

  -- there is one from each that has a record
  way : (fuel k : ℕ) → hops k < fuel → HasRecord x s.bench k → WayFrom k
  unfolding records hops
  way zero k few r = absurd (omega arith)
  way (suc fuel) k few r = ⊎_elim ends (on (way fuel)) (down r)
    where
      ends : ◌≡◌ {A = Port} (record { switch = k; number = r.entry.port }) (host_of s.bench.network A).port
          → WayFrom k
      ends e = (
        k ∷ [],
        words.home r (subst (λ (p : Port). plug_of s.bench.network p.switch p.number ≡ OfHost A) (sym e) (host_plugged s.bench.network v.fine A v.there)),
        (Memᴰ.not-nil, tt),
        λ j m. ⊎_elim (λ q. omega (arith, ap hops q)) (λ n. absurd (Memᴰ.not-nil n)) (Memᴰ.cases_cons m),
      )

      on : ((t : ℕ) → hops t < fuel → HasRecord x s.bench t → WayFrom t)
          → Down (records s.bench.network s.bench.up v.fine x s.bench) (record { switch = k; number = r.entry.port })
          → WayFrom k
      on go d =
          let inside = cable_inside s.bench.network s.bench.up v.fine d.far _ (cable_back s.bench.network s.bench.up _ d.far d.cable) in
          let fewer : hops d.far.switch < hops k = d.fewer in
          let rest = go d.far.switch (omega arith) (recorded inside d.recorded) in (
            k ∷ rest.0,
            words.on r d.cable.near (cable_port s.bench.network v.fine s.bench.up d.cable refl).1 d.cable.live (ap (λ (p : Port). p.switch) d.cable.to) rest.1,
            ((λ m. omega (arith, rest.3 k m)), rest.2),
            λ j m. ⊎_elim (λ q. omega (arith, ap hops q)) (λ n. omega (arith, rest.3 j n)) (Memᴰ.cases_cons m),
          )

  -- it leads to A and visits no switch twice
  pub leads_home : (k : ℕ) → HasRecord x s.bench k → (ks : List ℕ) × Way A x s.bench k ks × NoneTwice ks
  leads_home k r = let w = way (suc (hops k)) k (omega arith) r in (w.0, w.1, w.2)
