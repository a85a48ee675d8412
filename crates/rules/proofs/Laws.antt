-- What a caller may know of the rules, in place of their text: of masks, of rules 2 to 11 on an arrival, of rule 6, of the nonce.
use mathlib.Core.Path.{◌≡◌, refl, sym, ap, subst, ◌∙◌}
use mathlib.Core.Logic.{◌⊎◌, ◌≢◌, inl, inr, ⊎_elim, by_cases}
use mathlib.Core.Bool.{Bool, true, false, cond, not, ◌&&◌, ◌||◌, true≢false, or-true}
use mathlib.Core.List.{List, Memᴰ}
use Prim.Native.Nat.{ℕ, ◌+◌, ◌%◌, ◌^◌, ◌<◌, ◌≤◌}
use native.Mathlib.Decide.{ℕ_discrete}
use native.Mathlib.Omega.{arith}
use lib.Dec.{eqb}
use borrow.Author.Tests.{le-ltb, lt-ltb}
use lib.ListN.{length}
use Rattle.std.specs.Prelude.{Option, Some, None}
use Rattle.wire.specs.Address.{Source}
use Rattle.wire.specs.Wire.{bytes_of}
use Rattle.table.specs.declared.Table.{Table}
use Rattle.table.specs.declared.Entry.{Entry}
use Rattle.table.specs.Table as table
use Rattle.table.specs.Table.{Holds, Sized, entry_of, erase_of, lookup_of, most_hops, slots}
use Rattle.table.proofs.Laws as table_laws
use Rattle.filter.specs.Filter.{Names, empty, holds}
use Rattle.filter.specs.Triple as filter
use Rattle.filter.specs.Triple.{width}
use Rattle.filter.proofs.Laws as filter_laws
use Rattle.frame.specs.declared.Header.{Header}
use Rattle.frame.specs.Header.{bit}
use Rattle.rules.specs.Mask.{names, only, all_but}
use Rattle.rules.specs.Rules.{flood, is_duplicate, is_nearer, learning, learns, nonce_on, on_host_port, rules, sends, too_old, triple_of}
use Rattle.rules.specs.Verdict.{sending_of, sent_by}
use Rattle.rules.specs.declared.Setup.{Setup}
use Rattle.rules.specs.declared.Arrival.{Arrival}
use Rattle.rules.specs.declared.Send.{Send}
use Rattle.rules.specs.declared.Verdict.TheVariants.{X, D, F, N, B}
use Rattle.rules.proofs.Bits.{names_below, names_none}
use Rattle.rules.proofs.Cases.{and_false}
use Rattle.rules.specs.Words.{Arrives, Fair, Floods, heard}
use Rattle.rules.proofs.Words.{Because, FairBy, RecordsOnce, ending, noted, replaces}
use Rattle.rules.proofs.Ways as ways
use Rattle.rules.proofs.Ways.{by_test, way}
use Rattle.rules.proofs.LawsOfMask as masks
use Rattle.rules.proofs.LawsOfTable as tables

-- ---- Masks

-- a port alone names itself
pub names_only : (q p : ℕ) → names (only q) p ≡ eqb p q
names_only = masks.names_only

-- all but a port name what the mask names, and not the port
pub names_all_but : (q mask p : ℕ) → q < 16 → p < 16 → names (all_but q mask) p ≡ (names mask p && not (eqb p q))
names_all_but = masks.names_all_but

-- ---- Rules 2 to 11

module _ (s : Setup) (t : Table) (f : List ℕ) (a : Arrival) where
  -- each verdict has its cause, and sends what it should
  pub verdict_because : Because s f a (rules s t f a).report.verdict
  verdict_because = ways.because s t f a (way s t f a)

  fairly : FairBy s a (sending_of (rules s t f a).report.verdict)
  fairly = ways.fair s t f a (way s t f a)

  -- what is sent goes to live ports only and carries the arrival's hop count, within the limit, and its nonce
  pub sent_fairly : (c : Send) → sending_of (rules s t f a).report.verdict ≡ Some c → Fair s a c
  sent_fairly c e = subst (FairBy s a) e fairly

  -- the mask names live ports only
  pub mask_live : (p : ℕ) → names (sent_by (sending_of (rules s t f a).report.verdict)).mask p ≡ true → names s.live p ≡ true
  mask_live p = by_sending (sending_of (rules s t f a).report.verdict) fairly
    where
      by_sending : (g : Option Send) → FairBy s a g → names (sent_by g).mask p ≡ true → names s.live p ≡ true
      by_sending None ok e = absurd (true≢false (sym e ∙ names_none 0 0 p (omega arith) (omega arith)))
      by_sending (Some c) ok e = ok.live p e

  pub mask_within : {n : ℕ} → s.live < 2 ^ n → (p : ℕ) → names (sent_by (sending_of (rules s t f a).report.verdict)).mask p ≡ true → p < n
  mask_within {n} fits p e = names_below n s.live p fits (mask_live p e)

  -- ---- the table

  module _ (sized : Sized t) where
    -- it keeps its 64 slots
    pub stays_sized : Sized (rules s t f a).table
    stays_sized = tables.sized_keeps s t f a Sized sized sized (λ u z _. table_laws.erase_sized z a.destination) (λ u z _. table_laws.learn_sized z a.source a.port a.header.hc)

    -- a frame that is neither from an address nor to it leaves its entry
    pub bystander_kept : (y : ℕ) → y ≢ a.source → y ≢ a.destination → lookup_of (rules s t f a).table y ≡ lookup_of t y
    bystander_kept y other far =
        tables.sized_keeps s t f a (λ u. lookup_of u y ≡ lookup_of t y) refl sized
        (λ u z e. table_laws.erase_other z a.destination y far ∙ e)
        (λ u z e. table_laws.learn_other z a.source a.port a.header.hc y other ∙ e)

    -- what stands in a slot afterwards is the source, or stood in one before
    pub stood_before : (y : ℕ) → Holds (rules s t f a).table y → (y ≡ a.source) ⊎ Holds t y
    stood_before y =
        tables.sized_keeps s t f a (λ u. Holds u y → (y ≡ a.source) ⊎ Holds t y) inr sized
        (λ u z k h. k (table_laws.erase_holds z a.destination h))
        (λ u z k h. ⊎_elim inl k (table_laws.learn_holds z a.source a.port a.header.hc h))

  module _ {n : ℕ} (formed : table.WellFormed n t) where
    module _ (low : s.limit ≤ most_hops) (arrives : Arrives n a) where
      -- it stays well-formed
      pub table_formed : table.WellFormed n (rules s t f a).table
      table_formed = (tables.formed_keeps s t f a (λ _. Unit {0}) tt formed low arrives (λ _ _ _. tt) (λ _ _ _. tt)).0

      -- every entry that a step adds or changes is for the source, and nothing is erased but the destination
      pub others_kept : (y : ℕ) → y ≢ a.source → (lookup_of (rules s t f a).table y ≡ lookup_of t y) ⊎ ((y ≡ a.destination) × (lookup_of (rules s t f a).table y ≡ None))
      others_kept y other =
          by_cases (ℕ_discrete y a.destination)
          (λ e. (tables.formed_keeps s t f a (λ u. (lookup_of u y ≡ lookup_of t y) ⊎ ((y ≡ a.destination) × (lookup_of u y ≡ None))) (inl refl) formed low arrives
          (λ u w _. inr (e, rw e (table_laws.erase_same w a.destination)))
          (λ u w k. rw (table_laws.learn_other w.sized a.source a.port a.header.hc y other) k)).1)
          (λ far. inl (bystander_kept formed.sized y other far))

    -- where every address in a slot is of a list shorter than 64, the table isn't full
    pub never_full : (hosts : List ℕ) → length hosts < slots → ((y : ℕ) → Holds t y → Memᴰ y hosts) → (rules s t f a).report.full ≡ false
    never_full hosts few named = ways.full_told s t f a (λ dup. tables.learning_room t a dup formed hosts few named) (way s t f a)

  -- ---- the filter

  -- the one record of a step is its verdict's, and so is the report of an overwrite
  pub records_once : RecordsOnce s f a (rules s t f a)
  records_once = ways.records_once s t f a (way s t f a)

  -- with F clear nothing is a duplicate, and only N and B record, the triple of their header
  pub clear_fresh : a.header.f ≡ false → is_duplicate s f a ≡ false
  unfolding is_duplicate
  clear_fresh e = ap (λ b. b && heard s f a) e

  pub clear_records : a.header.f ≡ false
      → ((rules s t f a).filter ≡ f)
      ⊎ ((c : Send) × (((rules s t f a).report.verdict ≡ N c) ⊎ ((rules s t f a).report.verdict ≡ B c)) × ((rules s t f a).filter ≡ noted s f a c.header))
  clear_records e = ways.clear_records s t f a e (way s t f a)

  -- of the keys of ten bytes, those that are held afterwards were held before, or are a triple of the source
  pub held_before : (key : List ℕ) → length key ≡ width → holds (rules s t f a).filter s.salt key ≡ true → (holds f s.salt key ≡ true) ⊎ ((h : Header) × (key ≡ triple_of a h))
  held_before key long =
      ways.filter_keeps s t f a (λ g _. holds g s.salt key ≡ true → (holds f s.salt key ≡ true) ⊎ ((h : Header) × (key ≡ triple_of a h))) inl
      (λ h held. ⊎_elim inl (λ e. inr (h, e)) (filter_laws.held_before f s.salt key (triple_of a h) long held)) (way s t f a)

  -- and those that were held stay so, unless the report says that a record was overwritten
  pub held_stays : (key : List ℕ) → length key ≡ width → empty key ≡ false → holds f s.salt key ≡ true
      → (holds (rules s t f a).filter s.salt key ≡ true) ⊎ ((rules s t f a).report.overwrote ≡ true)
  held_stays key long some held =
      ways.filter_keeps s t f a (λ g overwrote. (holds g s.salt key ≡ true) ⊎ (overwrote ≡ true)) (inl held)
      (λ h. ⊎_elim inl (λ lost. inr lost.0) (filter_laws.stays_held f s.salt key (triple_of a h) long some held)) (way s t f a)

  -- no other source is named anew
  pub names_no_other : {x : ℕ} → a.source < 2 ^ 48 → x < 2 ^ 48 → a.source ≢ x → Names width (bytes_of 6 x) (rules s t f a).filter → Names width (bytes_of 6 x) f
  names_no_other {x} below below_x other =
      ways.filter_keeps s t f a (λ g _. Names width (bytes_of 6 x) g → Names width (bytes_of 6 x) f) (λ k. k)
      (λ h. filter_laws.names_no_other f s.salt a.source h.nonce (bit h.l) below below_x other) (way s t f a)

  -- it stays well-formed
  pub filter_formed : Source a.source → filter.WellFormed f → filter.WellFormed (rules s t f a).filter
  filter_formed source formed =
      ways.filter_keeps s t f a (λ g _. filter.WellFormed g) formed
      (λ h. filter_laws.well_formed_kept s.salt (triple_of a h) refl (filter_laws.is_triple a.source h.nonce (bit h.l) source.below source.nonzero source.single (bit_small h.l)) formed)
      (way s t f a)
    where
      bit_small : (b : Bool) → bit b < 2
      bit_small true = omega arith
      bit_small false = omega arith

  -- ---- floods: F set

  -- a copy above the limit changes nothing
  pub flood_old : too_old s a ≡ true → a.header.f ≡ true → rules s t f a ≡ ending t f false false X
  flood_old = ways.rules_old s t f a

  -- above the limit and F clear, the destination is erased
  pub clear_old : too_old s a ≡ true → a.header.f ≡ false → rules s t f a ≡ ending (erase_of t a.destination) f false false X
  clear_old = ways.rules_old s t f a

  module _ (floods : Floods s a) where
    -- within the limit: a duplicate is dropped, any other flooded; the triple is recorded and the source's entry brought up to date
    pub flood_young : rules s t f a
        ≡ ending (learning t a (heard s f a)).table (noted s f a a.header) (learning t a (heard s f a)).full (replaces s f a a.header)
        (cond (heard s f a) D (F (sends (flood s a) a.header)))
    flood_young = ways.rules_flood s t f a floods

    pub flood_again : heard s f a ≡ true → (rules s t f a).report.verdict ≡ D
    flood_again e = rw (flood_young, e)

    pub flood_first : heard s f a ≡ false → (rules s t f a).report.verdict ≡ F (sends (flood s a) a.header)
    flood_first e = rw (flood_young, e)

    -- a duplicate changes nothing in the filter
    pub flood_again_filter : heard s f a ≡ true → (rules s t f a).filter ≡ f
    flood_again_filter e = rw flood_young (filter_laws.recorded_again f s.salt (triple_of a a.header) e)

    -- the filter then holds the triple
    pub flood_held : filter.WellFormed f → holds (rules s t f a).filter s.salt (triple_of a a.header) ≡ true
    flood_held formed = rw flood_young (filter_laws.recorded_held f s.salt (triple_of a a.header) (filter_laws.well_formed_has_cell (triple_of a a.header) refl formed))

    -- the source is then found where this copy came from, if rule 6 learns and the table has room
    pub flood_learned : Sized t → a.source ≢ 0 → learns a (heard s f a) (lookup_of t a.source) ≡ true → (rules s t f a).report.full ≡ false
        → lookup_of (rules s t f a).table a.source ≡ Some (entry_of a.port a.header.hc)
    flood_learned sized some e = rw flood_young (tables.learned_entry t a (heard s f a) sized some e)

    -- and else as before, unless rule 5 could erase it
    pub flood_kept : Sized t → (a.source ≢ a.destination) ⊎ (a.header.l ≡ true) → learns a (heard s f a) (lookup_of t a.source) ≡ false
        → lookup_of (rules s t f a).table a.source ≡ lookup_of t a.source
    flood_kept sized safe e = rw flood_young (tables.kept_entry t a (heard s f a) sized safe e)

-- ---- Rule 6: no entry, or HC less than the entry's, or L set and not a duplicate; and nothing else learns

module _ (a : Arrival) where
  pub learns_absent : (dup : Bool) → learns a dup None ≡ true
  unfolding learns
  learns_absent dup = refl

  pub learns_nearer : (dup : Bool) (e : Entry) → a.header.hc < e.hops → learns a dup (Some e) ≡ true
  unfolding learns
  learns_nearer dup e nearer = rw (lt-ltb a.header.hc e.hops nearer)

  pub learns_local : (found : Option Entry) → a.header.l ≡ true → learns a false found ≡ true
  unfolding learns
  learns_local found l = ap (λ b. is_nearer a.header.hc found || (b && true)) l ∙ or-true (is_nearer a.header.hc found)

  pub learns_not : (dup : Bool) (e : Entry) → e.hops ≤ a.header.hc → (a.header.l ≡ false) ⊎ (dup ≡ true) → learns a dup (Some e) ≡ false
  unfolding learns
  learns_not dup e far why = rw (le-ltb a.header.hc e.hops far) (⊎_elim (λ l. ap (λ b. b && not dup) l) (λ d. rw d (sym (and_false a.header.l))) why)

-- ---- The nonce: on a host port the next one, else the same

module _ (s : Setup) (nonce port : ℕ) where
  pub nonce_on_host : on_host_port s port ≡ true → nonce_on s nonce port ≡ (nonce + 1) % 2 ^ 24
  unfolding nonce_on
  nonce_on_host e = rw e

  pub nonce_elsewhere : on_host_port s port ≡ false → nonce_on s nonce port ≡ nonce
  unfolding nonce_on
  nonce_elsewhere e = rw e

  pub nonce_small : nonce < 2 ^ 24 → nonce_on s nonce port < 2 ^ 24
  unfolding nonce_on
  nonce_small below = by_test (λ m. m < 2 ^ 24) (on_host_port s port) (λ _. omega arith) (λ _. below)
