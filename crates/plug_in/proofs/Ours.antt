-- What the rules do with a copy of A's frame, which has L and F set: too old, it is dropped and nothing changes; heard before, it is dropped, and moves the
-- record if it has come by fewer hops; else it is recorded, learned and flooded.
use Prim.Native.Nat.{ℕ, ◌≤◌, ◌<◌}
use mathlib.Core.Path.{◌≡◌, refl, sym, ap, subst, ◌∙◌}
use mathlib.Core.Logic.{◌⊎◌, ◌≢◌, inl, inr, ⊎_elim, by_cases}
use mathlib.Core.Bool.{Bool, true, false}
use Rattle.std.proofs.lemmas.Bool.{both_ways, cases_Bool}
use native.Mathlib.Decide.{dec_lt}
use native.Mathlib.Omega.{arith}
use Rattle.std.proofs.lemmas.Option.{none-some, same_Some}
use Rattle.table.specs.declared.Entry.{Entry}
use Rattle.std.specs.Prelude.{Option, Some, None}
use Rattle.table.specs.Table.{Sized, entry_of, lookup_of}
use Rattle.filter.specs.Triple.{triple}
use Rattle.frame.specs.Header.{bit}
use Rattle.rules.specs.Mask.{names}
use Rattle.rules.specs.Rules.{flood, learns, sends, too_old, triple_of}
use Rattle.rules.specs.Verdict.{sending_of, sent_by}
use Rattle.rules.specs.Words.{Floods, heard}
use Rattle.rules.specs.declared.Arrival.{Arrival}
use Rattle.rules.specs.declared.Report.{Report}
use Rattle.rules.specs.declared.Verdict.{Verdict}
use Rattle.rules.proofs.Laws.{flood_again, flood_again_filter, flood_first, flood_held, flood_kept, flood_learned, flood_old, learns_absent, learns_local, learns_nearer, learns_not}
use Rattle.seat.proofs.Laws.{step_report_lem}
use Rattle.bench.specs.declared.Bench.{Bench}
use Rattle.bench.specs.Bench.{seat_at}
use Rattle.plug_in.proofs.Happening.{sent_in}
use Rattle.plug_in.proofs.Reached.{Reached}
use Rattle.plug_in.proofs.Sent.{names_nothing}
use Rattle.plug_in.proofs.Stepping.{has_room, held_at, keeps, ruled}
use Rattle.plug_in.proofs.View.{held_in}

-- an arrival is A's frame: its source, L and F set, and its nonce
pub record Ours (x next : ℕ) (a : Arrival) : Type 0 where
  pub source : a.source ≡ x
  pub l : a.header.l ≡ true
  pub f : a.header.f ≡ true
  pub nonce : a.header.nonce ≡ next

-- the record of an address moves to where a copy arrives, which has come by no more hops
pub record Moves (b : Bench) (k : ℕ) (a : Arrival) (x : ℕ) : Type 0 where
  pub entry : lookup_of (ruled b k a).table x ≡ Some (entry_of a.port a.header.hc)
  pub nearer : (e : Entry) → lookup_of (seat_at b k).switch.table x ≡ Some e → a.header.hc ≤ e.hops

-- filters know it by its key
ours_key : {x nonce : ℕ} {a : Arrival} → Ours x nonce a → triple_of a a.header ≡ triple x nonce 1
ours_key {x} {nonce} {a} o =
    ap (λ y. triple y a.header.nonce (bit a.header.l)) o.source ∙ ap (λ y. triple x y (bit a.header.l)) o.nonce ∙ ap (λ y. triple x nonce (bit y)) o.l

module _ {b : Bench} (r : Reached b) {k : ℕ} (inside : k < b.network.nswitches) where
  -- what a verdict sends
  verdict_sends : (a : Arrival) {w : Verdict} → (ruled b k a).report.verdict ≡ w → sent_in b k a ≡ sent_by (sending_of w)
  verdict_sends a e = ap (λ w. sent_by (sending_of w)) (ap (λ (p : Report). p.verdict) (step_report_lem (seat_at b k) a) ∙ e)

  module _ {x nonce : ℕ} {a : Arrival} (o : Ours x nonce a) where
    -- the filter tells if it was heard before
    heard_is : heard (seat_at b k).switch.setup (seat_at b k).cells a ≡ held_in b.network b (triple x nonce 1) k
    heard_is = ap (keeps b k (seat_at b k).cells) (ours_key o) ∙ sym (held_at b k inside (triple x nonce 1))

    -- ---- Too old

    module _ (old : too_old (seat_at b k).switch.setup a ≡ true) where
      -- nothing is sent
      pub old_silent : (p : ℕ) → names (sent_in b k a).mask p ≡ false
      old_silent p = ap (λ s. names s.mask p) (verdict_sends a (ap (λ w. w.report.verdict) (flood_old _ _ _ a old o.f))) ∙ names_nothing p

      -- the filter stays
      pub old_filter : (ruled b k a).filter ≡ (seat_at b k).cells
      old_filter = ap (λ w. w.filter) (flood_old _ _ _ a old o.f)

      -- the table stays
      pub old_table : (ruled b k a).table ≡ (seat_at b k).switch.table
      old_table = ap (λ w. w.table) (flood_old _ _ _ a old o.f)

    -- ---- Within the limit

    module _ (young : too_old (seat_at b k).switch.setup a ≡ false) where
      -- it is a flood's copy within the limit
      floods : Floods (seat_at b k).switch.setup a
      floods = record { young = young; flag = o.f }

      -- the table has its slots
      sized : Sized (seat_at b k).switch.table
      sized = (r.shape.seats k inside).formed.table.sized

      -- what is learned
      learned : a.source ≢ 0 → learns a (heard (seat_at b k).switch.setup (seat_at b k).cells a) (lookup_of (seat_at b k).switch.table a.source) ≡ true
          → lookup_of (ruled b k a).table x ≡ Some (entry_of a.port a.header.hc)
      learned some e = subst (λ y. lookup_of (ruled b k a).table y ≡ Some (entry_of a.port a.header.hc)) o.source (flood_learned _ _ _ a floods sized some e (has_room b k inside r a))

      -- ---- heard before

      module _ (again : held_in b.network b (triple x nonce 1) k ≡ true) where
        -- the rules find it a duplicate
        was : heard (seat_at b k).switch.setup (seat_at b k).cells a ≡ true
        was = heard_is ∙ again

        -- nothing is sent
        pub again_silent : (p : ℕ) → names (sent_in b k a).mask p ≡ false
        again_silent p = ap (λ s. names s.mask p) (verdict_sends a (flood_again _ _ _ a floods was)) ∙ names_nothing p

        -- the filter stays
        pub again_filter : (ruled b k a).filter ≡ (seat_at b k).cells
        again_filter = flood_again_filter _ _ _ a floods was

        -- the record stays, or moves to where this copy came from, by fewer hops
        pub again_found : a.source ≢ 0 → (lookup_of (ruled b k a).table x ≡ lookup_of (seat_at b k).switch.table x) ⊎ Moves b k a x
        again_found some = by_found (lookup_of (seat_at b k).switch.table a.source) refl
          where
            here : lookup_of (seat_at b k).switch.table a.source ≡ lookup_of (seat_at b k).switch.table x
            here = ap (lookup_of (seat_at b k).switch.table) o.source

            tells : {found : Option Entry} → lookup_of (seat_at b k).switch.table a.source ≡ found → {v : Bool} → learns a true found ≡ v
                → learns a (heard (seat_at b k).switch.setup (seat_at b k).cells a) (lookup_of (seat_at b k).switch.table a.source) ≡ v
            tells {found} e q = ap (λ w. learns a w (lookup_of (seat_at b k).switch.table a.source)) was ∙ ap (learns a true) e ∙ q

            by_found : (found : Option Entry) → lookup_of (seat_at b k).switch.table a.source ≡ found
                → (lookup_of (ruled b k a).table x ≡ lookup_of (seat_at b k).switch.table x) ⊎ Moves b k a x
            by_found None e = inr (record { entry = learned some (tells e (learns_absent a true)); nearer = λ f q. absurd (none-some _ (sym e ∙ here ∙ q)) })
            by_found (Some f) e =
                by_cases (dec_lt a.header.hc f.hops)
                (λ near. inr (record {
                  entry = learned some (tells e (learns_nearer a true f near));
                  nearer = λ g q. let same : f.hops ≡ g.hops = ap (λ (e : Entry). e.hops) (same_Some _ _ (sym e ∙ here ∙ q)) in omega arith;
                }))
                (λ far. inl (subst (λ y. lookup_of (ruled b k a).table y ≡ lookup_of (seat_at b k).switch.table y) o.source
                (flood_kept _ _ _ a floods sized (inr o.l) (tells e (learns_not a true f (omega arith) (inr refl))))))

      -- ---- not heard before

      module _ (new : held_in b.network b (triple x nonce 1) k ≡ false) where
        -- the rules find it no duplicate
        first : heard (seat_at b k).switch.setup (seat_at b k).cells a ≡ false
        first = heard_is ∙ new

        -- all live ports but the arrival port send it
        pub first_floods : sent_in b k a ≡ sends (flood (seat_at b k).switch.setup a) a.header
        first_floods = verdict_sends a (flood_first _ _ _ a floods first)

        -- the filter then holds it
        pub first_held : keeps b k (ruled b k a).filter (triple x nonce 1) ≡ true
        first_held = ap (keeps b k (ruled b k a).filter) (sym (ours_key o)) ∙ flood_held _ _ _ a floods (r.shape.seats k inside).formed.filter

        -- its source is learned where it came from
        pub first_found : a.source ≢ 0 → lookup_of (ruled b k a).table x ≡ Some (entry_of a.port a.header.hc)
        first_found some = learned some (ap (λ w. learns a w (lookup_of (seat_at b k).switch.table a.source)) first ∙ learns_local a (lookup_of (seat_at b k).switch.table a.source) o.l)

    -- what is sent of it has its header
    pub ours_sent : (p : ℕ) → names (sent_in b k a).mask p ≡ true → (sent_in b k a).header ≡ a.header
    ours_sent p named =
        ⊎_elim (λ old. absurd (both_ways _ (old_silent old p) named))
        (λ young. ⊎_elim (λ again. absurd (both_ways _ (again_silent young again p) named)) (λ new. ap (λ s. s.header) (first_floods young new))
        (cases_Bool (held_in b.network b (triple x nonce 1) k)))
        (cases_Bool (too_old (seat_at b k).switch.setup a))
