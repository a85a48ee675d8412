-- The ways through rules 2 to 11, one for each verdict and two for X: what a way asks of the arrival, and what it leaves.
use mathlib.Core.Path.{◌≡◌, refl, sym, ap, subst, ◌∙◌}
use mathlib.Core.Logic.{◌≢◌, ◌⊎◌, inl, inr}
use mathlib.Core.Bool.{Bool, true, false, cond, ◌&&◌, or-false, true≢false}
use mathlib.Core.List.{List}
use Prim.Native.Nat.{ℕ}
use lib.Dec.{eqb}
use borrow.Author.Tests.{eqb-true, eqb-false, ltb-false}
use Rattle.std.specs.Prelude.{Option, Some, None}
use Rattle.table.specs.declared.Table.{Table}
use Rattle.table.specs.declared.Entry.{Entry}
use Rattle.table.specs.Table.{Learned, erase_of, learn_of, lookup_of}
use Rattle.frame.specs.declared.Header.{Header}
use Rattle.rules.proofs.Cases.{forwarding_flood, forwarding_onward}
use Rattle.rules.proofs.LawsOfMask.{all_but_within, only_within}
use Rattle.rules.specs.Verdict.{sending_of}
use Rattle.rules.specs.Words.{Fair, Floods, heard}
use Rattle.rules.proofs.Words.{Because, FairBy, Directed, RecordsOnce, ending, noted, replaces}
use Rattle.rules.specs.Mask.{names, only}
use Rattle.rules.specs.Rules.{After, Ruled, erases, flagged, flood, forwarding, from_learning, if_up, is_duplicate, learning, learns, onward, onward_by, overwrote3, reading, reported, rule10, rule11, rule2, rule3, rule5, rule6, rule9, rules, sends, standing, too_old}
use Rattle.rules.specs.declared.Setup.{Setup}
use Rattle.rules.specs.declared.Arrival.{Arrival}
use Rattle.rules.specs.declared.Send.{Send}
use Rattle.rules.specs.declared.Verdict.TheVariants.{X, D, G, E, F, N, B, H, U}

-- a test decides: what holds of both sides holds of the choice
pub by_test : {A : Type 0} (P : A → Type 0) (test : Bool) {x y : A} → (test ≡ true → P x) → (test ≡ false → P y) → P (cond test x y)
by_test P true p q = p refl
by_test P false p q = q refl

pub data Way (s : Setup) (t : Table) (f : List ℕ) (a : Arrival) : Ruled → Type 0 where
  old_flood : too_old s a ≡ true → a.header.f ≡ true → Way s t f a (ending t f false false X)
  old : too_old s a ≡ true → a.header.f ≡ false → Way s t f a (ending (erase_of t a.destination) f false false X)
  gives_D : Floods s a → heard s f a ≡ true → Way s t f a (ending (learning t a true).table (noted s f a a.header) (learning t a true).full (replaces s f a a.header) D)
  gives_F : Floods s a → heard s f a ≡ false
      → Way s t f a (ending (learning t a false).table (noted s f a a.header) (learning t a false).full (replaces s f a a.header) (F (sends (flood s a) a.header)))
  gives_G : Directed s a → a.header.l ≡ false → Way s t f a (ending (learning t a false).table f (learning t a false).full false G)
  gives_N : Directed s a → a.header.l ≡ true → a.header.hc ≡ 1
      → Way s t f a (ending (learning t a false).table (noted s f a (flagged true true a.header)) (learning t a false).full (replaces s f a (flagged true true a.header)) (N (sends (flood s a) (flagged true true a.header))))
  gives_B : Directed s a → a.header.l ≡ true → a.header.hc ≢ 1
      → Way s t f a (ending (learning t a false).table (noted s f a (flagged false true a.header)) (learning t a false).full (replaces s f a (flagged false true a.header)) (B (sends s.live (flagged false true a.header))))
  gives_H : Directed s a → a.header.l ≡ true → names s.live a.port ≡ true
      → Way s t f a (ending (learning t a false).table f (learning t a false).full false (H (sends (only a.port) (flagged false a.header.f a.header))))
  gives_E : Directed s a → a.header.l ≡ false → Way s t f a (ending (erase_of (learning t a false).table a.destination) f (learning t a false).full false E)
  gives_U : Directed s a → (p : ℕ) → names s.live p ≡ true → p ≢ a.port → Way s t f a (ending (learning t a false).table f (learning t a false).full false (U (sends (only p) a.header)))

module _ (s : Setup) (t : Table) (f : List ℕ) (a : Arrival) where
  -- an entry that stands names a port that is up
  standing_up : (found : Option Entry) (P : Option Entry → Type 0) → P None → ((e : Entry) → names s.live e.port ≡ true → P (Some e)) → P (if_up s.live found)
  standing_up None P none some = none
  standing_up (Some e) P none some = by_test P (names s.live e.port) (some e) (λ _. none)

  pub rules_old : {flag : Bool} → too_old s a ≡ true → a.header.f ≡ flag → rules s t f a ≡ ending (cond flag t (erase_of t a.destination)) f false false X
  unfolding rules rule2
  rules_old above e = rw above (ap (λ b. ending (cond b t (erase_of t a.destination)) f false false X) e)

  rules_young : too_old s a ≡ false → rules s t f a ≡ from_learning s (rule3 s f a) a (is_duplicate s f a) (overwrote3 s f a) (learning t a (is_duplicate s f a))
  unfolding rules
  rules_young e = rw e

  -- rule 3 by the flag F
  duplicate_by : {flag : Bool} → a.header.f ≡ flag → is_duplicate s f a ≡ (flag && heard s f a)
  unfolding is_duplicate
  duplicate_by e = ap (λ b. b && heard s f a) e

  overwrote_by : {flag : Bool} → a.header.f ≡ flag → overwrote3 s f a ≡ (flag && replaces s f a a.header)
  unfolding overwrote3
  overwrote_by e = ap (λ b. b && replaces s f a a.header) e

  recorded_by : {flag : Bool} → a.header.f ≡ flag → rule3 s f a ≡ cond flag (noted s f a a.header) f
  unfolding rule3
  recorded_by e = ap (λ b. cond b (noted s f a a.header) f) e

  module _ (k : Learned) (f₃ : List ℕ) (overwrote : Bool) where
    flooding : (dup : Bool) → a.header.f ≡ true
        → reported k.full overwrote (forwarding s k.table f₃ a dup) ≡ ending k.table f₃ k.full overwrote (cond dup D (F (sends (flood s a) a.header)))
    unfolding forwarding
    flooding true e = ap (λ o. ending k.table f₃ k.full o D) (or-false overwrote)
    flooding false e =
        ap (reported k.full overwrote) (forwarding_flood s k.table f₃ a false refl e)
        ∙ ap (λ o. ending k.table f₃ k.full o (F (sends (flood s a) a.header))) (or-false overwrote)

  pub rules_flood : Floods s a
      → rules s t f a
      ≡ ending (learning t a (heard s f a)).table (noted s f a a.header) (learning t a (heard s f a)).full (replaces s f a a.header) (cond (heard s f a) D (F (sends (flood s a) a.header)))
  rules_flood h =
      rules_young h.young
      ∙ rw (duplicate_by h.flag, overwrote_by h.flag, recorded_by h.flag)
      (flooding (learning t a (heard s f a)) (noted s f a a.header) (replaces s f a a.header) (heard s f a) h.flag)

  rules_onward : Directed s a → rules s t f a ≡ reported (learning t a false).full false (onward s (learning t a false).table f a)
  rules_onward h =
      rules_young h.young
      ∙ rw (duplicate_by h.flag, overwrote_by h.flag, recorded_by h.flag)
      (ap (reported (learning t a false).full false) (forwarding_onward s (learning t a false).table f a false refl h.flag))

  onward_way : Directed s a → Way s t f a (reported (learning t a false).full false (onward s (learning t a false).table f a))
  unfolding onward standing rule9 rule10 rule11
  onward_way h =
      let P : After → Type 0 = λ w. Way s t f a (reported (learning t a false).full false w) in
      standing_up (lookup_of (learning t a false).table a.destination) (λ found. P (onward_by s (learning t a false).table f a found))
      (by_test P a.header.l (λ l. by_test P (eqb a.header.hc 1) (λ one. gives_N h l (eqb-true _ _ one)) (λ one. gives_B h l (eqb-false _ _ one))) (λ l. gives_G h l))
      (λ e up. by_test P (eqb e.port a.port)
      (λ same. by_test P a.header.l (λ l. gives_H h l (subst (λ p. names s.live p ≡ true) (eqb-true _ _ same) up)) (λ l. gives_E h l))
      (λ other. gives_U h e.port up (eqb-false _ _ other)))

  flood_way : Floods s a → (dup : Bool) → heard s f a ≡ dup
      → Way s t f a (ending (learning t a dup).table (noted s f a a.header) (learning t a dup).full (replaces s f a a.header) (cond dup D (F (sends (flood s a) a.header))))
  flood_way h true e = gives_D h e
  flood_way h false e = gives_F h e

  pub way : Way s t f a (rules s t f a)
  way = by_limit (too_old s a) a.header.f refl refl
    where
      by_limit : (above flag : Bool) → too_old s a ≡ above → a.header.f ≡ flag → Way s t f a (rules s t f a)
      by_limit true true e i = rw (rules_old e i) (old_flood e i)
      by_limit true false e i = rw (rules_old e i) (old e i)
      by_limit false true e i = let h : Floods s a = record { young = e; flag = i } in rw (rules_flood h) (flood_way h (heard s f a) refl)
      by_limit false false e i = let h : Directed s a = record { young = e; flag = i } in rw (rules_onward h) (onward_way h)

module _ (s : Setup) (t : Table) (f : List ℕ) (a : Arrival) where
  -- what the rules do to the table is erase the destination, and learn the source within the limit
  module _ (P : Table → Type 0) (before : P t) (erasing : (u : Table) → P u → P (erase_of u a.destination))
      (teaching : too_old s a ≡ false → (u : Table) → P u → P (learn_of u a.source a.port a.header.hc).table) where
    learning_keeps : (dup : Bool) → too_old s a ≡ false → P (learning t a dup).table
    unfolding learning rule5 rule6
    learning_keeps dup young =
        let t₅ : Table = cond (erases a dup (reading t a)) (erase_of t a.destination) t in
        let p : P t₅ = by_test P (erases a dup (reading t a)) (λ _. erasing t before) (λ _. before) in
        by_test (λ (k : Learned). P k.table) (learns a dup (reading t a)) (λ _. teaching young t₅ p) (λ _. p)

    pub table_keeps : {w : Ruled} → Way s t f a w → P w.table
    table_keeps (old_flood _ _) = before
    table_keeps (old _ _) = erasing t before
    table_keeps (gives_D h _) = learning_keeps true h.young
    table_keeps (gives_F h _) = learning_keeps false h.young
    table_keeps (gives_G h _) = learning_keeps false h.young
    table_keeps (gives_N h _ _) = learning_keeps false h.young
    table_keeps (gives_B h _ _) = learning_keeps false h.young
    table_keeps (gives_H h _ _) = learning_keeps false h.young
    table_keeps (gives_E h _) = erasing (learning t a false).table (learning_keeps false h.young)
    table_keeps (gives_U h _ _ _) = learning_keeps false h.young

  pub records_once : {w : Ruled} → Way s t f a w → RecordsOnce s f a w
  records_once (old_flood _ _) = record { filter = refl; overwrote = refl }
  records_once (old _ _) = record { filter = refl; overwrote = refl }
  records_once (gives_D _ _) = record { filter = refl; overwrote = refl }
  records_once (gives_F _ _) = record { filter = refl; overwrote = refl }
  records_once (gives_G _ _) = record { filter = refl; overwrote = refl }
  records_once (gives_N _ _ _) = record { filter = refl; overwrote = refl }
  records_once (gives_B _ _ _) = record { filter = refl; overwrote = refl }
  records_once (gives_H _ _ _) = record { filter = refl; overwrote = refl }
  records_once (gives_E _ _) = record { filter = refl; overwrote = refl }
  records_once (gives_U _ _ _ _) = record { filter = refl; overwrote = refl }

  pub because : {w : Ruled} → Way s t f a w → Because s f a w.report.verdict
  because (old_flood e _) = e
  because (old e _) = e
  because (gives_D h e) = (h, e)
  because (gives_F h e) = (h, e, refl)
  because (gives_G h l) = (h, l)
  because (gives_N h l one) = (h, l, one, refl)
  because (gives_B h l more) = (h, l, more, refl)
  because (gives_H h l up) = (h, l, up, refl)
  because (gives_E h l) = (h, l)
  because (gives_U h p up other) = (h, (p, up, other, refl))

  module _ (young : too_old s a ≡ false) where
    fair_header : (mask : ℕ) (l flag : Bool) → ((p : ℕ) → names mask p ≡ true → names s.live p ≡ true) → Fair s a (sends mask (flagged l flag a.header))
    fair_header mask l flag up = record { live = up; limit = ltb-false s.limit a.header.hc young; hc = refl; nonce = refl }

    fair_flood : (l flag : Bool) → Fair s a (sends (flood s a) (flagged l flag a.header))
    fair_flood l flag = fair_header (flood s a) l flag (all_but_within a.port s.live)

    fair_only : (q : ℕ) (l flag : Bool) → names s.live q ≡ true → Fair s a (sends (only q) (flagged l flag a.header))
    fair_only q l flag up = fair_header (only q) l flag (λ p. only_within q s.live p up)

  pub fair : {w : Ruled} → Way s t f a w → FairBy s a (sending_of w.report.verdict)
  fair (old_flood _ _) = tt
  fair (old _ _) = tt
  fair (gives_D _ _) = tt
  fair (gives_F h _) = fair_flood h.young a.header.l a.header.f
  fair (gives_G _ _) = tt
  fair (gives_N h _ _) = fair_flood h.young true true
  fair (gives_B h _ _) = fair_header h.young s.live false true (λ p up. up)
  fair (gives_H h _ up) = fair_only h.young a.port false a.header.f up
  fair (gives_E _ _) = tt
  fair (gives_U h q up _) = fair_only h.young q a.header.l a.header.f up

  -- what the rules do to the filter is record a triple of the source, and report if that overwrote
  pub filter_keeps : (P : List ℕ → Bool → Type 0) → P f false → ((h : Header) → P (noted s f a h) (replaces s f a h)) → {w : Ruled} → Way s t f a w → P w.filter w.report.overwrote
  filter_keeps P before noting (old_flood _ _) = before
  filter_keeps P before noting (old _ _) = before
  filter_keeps P before noting (gives_D _ _) = noting a.header
  filter_keeps P before noting (gives_F _ _) = noting a.header
  filter_keeps P before noting (gives_G _ _) = before
  filter_keeps P before noting (gives_N _ _ _) = noting (flagged true true a.header)
  filter_keeps P before noting (gives_B _ _ _) = noting (flagged false true a.header)
  filter_keeps P before noting (gives_H _ _ _) = before
  filter_keeps P before noting (gives_E _ _) = before
  filter_keeps P before noting (gives_U _ _ _ _) = before

  -- a report says full only where learning did
  pub full_told : ((dup : Bool) → (learning t a dup).full ≡ false) → {w : Ruled} → Way s t f a w → w.report.full ≡ false
  full_told room (old_flood _ _) = refl
  full_told room (old _ _) = refl
  full_told room (gives_D _ _) = room true
  full_told room (gives_F _ _) = room false
  full_told room (gives_G _ _) = room false
  full_told room (gives_N _ _ _) = room false
  full_told room (gives_B _ _ _) = room false
  full_told room (gives_H _ _ _) = room false
  full_told room (gives_E _ _) = room false
  full_told room (gives_U _ _ _ _) = room false

  -- with F clear only N and B record
  pub clear_records : a.header.f ≡ false → {w : Ruled} → Way s t f a w
      → (w.filter ≡ f) ⊎ ((c : Send) × ((w.report.verdict ≡ N c) ⊎ (w.report.verdict ≡ B c)) × (w.filter ≡ noted s f a c.header))
  clear_records clear (old_flood _ _) = inl refl
  clear_records clear (old _ _) = inl refl
  clear_records clear (gives_D h _) = absurd (true≢false (sym h.flag ∙ clear))
  clear_records clear (gives_F h _) = absurd (true≢false (sym h.flag ∙ clear))
  clear_records clear (gives_G _ _) = inl refl
  clear_records clear (gives_N _ _ _) = inr (sends (flood s a) (flagged true true a.header), inl refl, refl)
  clear_records clear (gives_B _ _ _) = inr (sends s.live (flagged false true a.header), inr refl, refl)
  clear_records clear (gives_H _ _ _) = inl refl
  clear_records clear (gives_E _ _) = inl refl
  clear_records clear (gives_U _ _ _ _) = inl refl
