-- Refusal 28's tests hold exactly where what they are named for is so.
use Prim.Native.Nat.{ℕ, ◌+◌, ◌^◌, ◌<◌, ◌≤◌}
use mathlib.Core.Path.{◌≡◌, refl, sym, ap, ◌∙◌}
use mathlib.Core.Logic.{◌↔◌, by_cases}
use mathlib.Core.Bool.{Bool, true, false, not, ◌&&◌, and_assoc, and-eq-true_iff, true≢false}
use mathlib.Core.List.{List}
use native.Mathlib.Decide.{ℕ_discrete}
use native.Mathlib.Numerals.{add-one}
use native.Mathlib.Omega.{arith}
use lib.Dec.{eqb, leb, ltb}
use lib.ListN.{get_or, length, take}
use lib.Seq.{get_or-take, length-take-le}
use borrow.Author.Tests.{eq-eqb, eqb-true, eqb-false, ne_eqb, lt-ltb, ltb-true, not-true, le-leb, leb-true}
use Rattle.std.specs.Prelude.{EachIndex, IsTrue, Result}
use Rattle.std.specs.Result.{is_ok}
use Rattle.refusal.specs.Refusal.{first, outside}
use Rattle.refusal.specs.Number.{refused_as}
use Rattle.refusal.specs.declared.Refusal.{Refusal}
use Rattle.refusal.proofs.Told.{is_ok_as}
use Rattle.refusal.proofs.Laws.{inside, not_outside}
use Rattle.wire.specs.Address.{is_source}
use Rattle.wire.specs.Below.{all_below}
use Rattle.wire.proofs.Below.{all_below_lem, each_below, not_below}
use Rattle.wire.proofs.Laws.{source_iff}
use Rattle.table.specs.Table as table
use Rattle.network.specs.declared.Network.{Network}
use Rattle.network.specs.Checks.{network_fault}
use Rattle.rules.specs.declared.Setup.{Setup}
use Rattle.head.specs.Switch.{switch_causes}
use Rattle.cabling.specs.Cabling.{plugs_of, setup_of}
use Rattle.seat.specs.declared.Seat.{Seat}
use Rattle.seat.proofs.Laws.{formed_passes, refusal_formed}
use Rattle.flight.specs.declared.Copy.{Copy}
use Rattle.flight.specs.Flight.{All, most, no_copy}
use Rattle.flight.proofs.Laws.{all_at, all_places}
use Rattle.turn.specs.Fits.{CopyFits, SeatFits}
use Rattle.bench.specs.declared.Bench.{Bench}
use Rattle.bench.specs.Bench.{in_flight, no_seat, seat_at}
use Rattle.bench.specs.Shape.{InShape, Sized, in_shape, copies_fit, copy_fits, has_addresses, on_live_link, same_setup, seat_fits, seats_fit}

-- both of two tests
halves : (a b : Bool) → (a && b) ≡ true → (a ≡ true) × (b ≡ true)
halves a b = (and-eq-true_iff a b).0

join : (a b : Bool) → a ≡ true → b ≡ true → (a && b) ≡ true
join a b p q = (and-eq-true_iff a b).1 (p, q)

-- ---- An answer

-- a call that is answered has the number 0
pub none_found : {A : Type 0} (a : Result A Refusal) {n : ℕ} {r : Bool} → r ≡ is_ok a → refused_as a ≡ n → r ≡ true → n ≡ 0
none_found a {n} is e t = eqb-true n 0 (sym (rw (← e) (is ∙ is_ok_as a)) ∙ t)

-- ---- A head

-- the fields of two setups are compared from the first on
abbrev pub same_in_turn : Setup → Setup → Bool
same_in_turn a b = eqb a.ports b.ports && (eqb a.live b.live && (eqb a.host b.host && (eqb a.limit b.limit && eqb a.salt b.salt)))

in_turn_same : (a b : Setup) → same_in_turn a b ≡ same_setup a b
in_turn_same a b = five (eqb a.ports b.ports) (eqb a.live b.live) _ _ _
  where
    five : (p l h m s : Bool) → (p && (l && (h && (m && s)))) ≡ (p && l && h && m && s)
    five true true h m s = sym (and_assoc h m s)
    five true false h m s = refl
    five false l h m s = refl

pub same_setup_lem : (a b : Setup) → same_setup a b ≡ true → a ≡ b
same_setup_lem a b e =
    let ports = eqb a.ports b.ports in
    let live = eqb a.live b.live in
    let host = eqb a.host b.host in
    let limit = eqb a.limit b.limit in
    let (e₄, s) = halves (ports && live && host && limit) (eqb a.salt b.salt) e in
    let (e₃, m) = halves (ports && live && host) limit e₄ in
    let (e₂, h) = halves (ports && live) host e₃ in
    let (p, l) = halves ports live e₂ in
    λ i. record {
      ports = eqb-true a.ports b.ports p i;
      live = eqb-true a.live b.live l i;
      host = eqb-true a.host b.host h i;
      limit = eqb-true a.limit b.limit m i;
      salt = eqb-true a.salt b.salt s i;
    }

setup_same : (a b : Setup) → a ≡ b → same_setup a b ≡ true
setup_same a b e =
    rw (e, eq-eqb b.ports b.ports refl, eq-eqb b.live b.live refl, eq-eqb b.host b.host refl, eq-eqb b.limit b.limit refl, eq-eqb b.salt b.salt refl)

module _ (n : Network) (up : List Bool) (k : ℕ) (s : Seat) where
  asked : ℕ
  asked = first (switch_causes s.switch s.cells)

  pub seat_passes : SeatFits n up k s → seat_fits n up k s ≡ true
  unfolding seat_fits asked
  seat_passes f = join _ (eqb asked 0) (setup_same _ _ f.setup) (eq-eqb asked 0 (formed_passes f.formed))

  -- where its table has the 64 slots of its type
  pub seat_found : table.Sized s.switch.table → seat_fits n up k s ≡ true → SeatFits n up k s
  unfolding seat_fits asked
  seat_found sized e =
      let (a, b) = halves (same_setup s.switch.setup (setup_of n (plugs_of n) up k)) (eqb asked 0) e in
      record { setup = same_setup_lem _ _ a; formed = (refusal_formed s sized).0 (eqb-true asked 0 b) }

  -- the code asks for the setup, and where it fits for refusal 1
  module _ {ps : List ℕ} {w : Setup} (p : ps ≡ plugs_of n) (q : w ≡ setup_of n ps up k) where
    setup_is : w ≡ setup_of n (plugs_of n) up k
    setup_is = q ∙ ap (λ l. setup_of n l up k) p

    pub setup_fits : (a : Result (Unit {0}) Refusal) {r : Bool} → same_in_turn s.switch.setup w ≡ true → r ≡ is_ok a → refused_as a ≡ first (switch_causes s.switch s.cells) → r ≡ seat_fits n up k s
    unfolding seat_fits
    setup_fits a same test e = test ∙ is_ok_as a ∙ rw (e, ← setup_is, ← in_turn_same s.switch.setup w, same)

    pub setup_follows : same_in_turn s.switch.setup w ≡ true → s.switch.setup ≡ setup_of n (plugs_of n) up k
    setup_follows same = same_setup_lem s.switch.setup w (sym (in_turn_same s.switch.setup w) ∙ same) ∙ setup_is

    pub setup_differs : same_in_turn s.switch.setup w ≡ false → false ≡ seat_fits n up k s
    unfolding seat_fits
    setup_differs other = rw (← setup_is, ← in_turn_same s.switch.setup w, other)

-- ---- Those from 0 on

-- a loop over them, which stops at the first that fails: all so far pass the test, and what that means of each
pub record Passing (test : ℕ → Bool) (P : ℕ → Type 0) (k : ℕ) : Type 0 where
  pub so_far : all_below test k ≡ true
  pub passed : (j : ℕ) → j < k → P j

module _ {test : ℕ → Bool} {P : ℕ → Type 0} where
  pub passing_starts : Passing test P 0
  unfolding all_below
  passing_starts = record { so_far = refl; passed = λ j h. absurd (omega arith) }

  pub passing_next : {k : ℕ} → Passing test P k → test k ≡ true → P k → Passing test P (k + 1)
  unfolding all_below
  passing_next {k} v e means = record {
    so_far = rw (add-one, v.so_far, e);
    passed = λ j h. by_cases (ℕ_discrete j k) (λ d. rw d means) (λ d. v.passed j (omega arith));
  }

-- the heads one by one, each as the code reads it
module _ (n : Network) (up : List Bool) (seats : List Seat) where
  abbrev fits_at : ℕ → Bool
  fits_at j = seat_fits n up j (get_or seats j no_seat)

  pub seat_next : {k : ℕ} {s : Seat} → Passing fits_at (λ j. SeatFits n up j (get_or seats j no_seat)) k → s ≡ get_or seats k no_seat
      → seat_fits n up k s ≡ true → SeatFits n up k s
      → Passing fits_at (λ j. SeatFits n up j (get_or seats j no_seat)) (k + 1)
  seat_next {k} v is e means = passing_next v (rw is at e) (rw is at means)

  pub seat_fails : {k : ℕ} {s : Seat} → k < n.nswitches → s ≡ get_or seats k no_seat → false ≡ seat_fits n up k s → false ≡ seats_fit n up seats n.nswitches
  seat_fails {k} h is e = sym (not_below fits_at n.nswitches k h (sym (rw is at e)))

-- ---- A copy

module _ (n : Network) (up : List Bool) where
  pub copy_tested : (c : Copy) → (copy_fits n.nlinks up c ≡ true) ↔ CopyFits n up c
  unfolding copy_fits on_live_link has_addresses
  copy_tested c = (
    there,
    λ f. rw (
      lt-ltb c.link n.nlinks f.link,
      f.live,
      not_outside f.hops_some f.hops_few,
      lt-ltb c.header.nonce (2 ^ 24) f.nonce,
      (source_iff c.source).1 f.source,
      ne_eqb c.destination 0 (λ e. omega (arith, f.destination_some)),
      lt-ltb c.destination (2 ^ 48) f.destination_below,
    ),
  )
    where
      there : copy_fits n.nlinks up c ≡ true → CopyFits n up c
      there e =
          let live = on_live_link n.nlinks up c.link in
          let hops = not (outside 1 63 c.header.hc) in
          let nonce = ltb c.header.nonce (2 ^ 24) in
          let some = not (eqb c.destination 0) in
          let (e₃, a) = halves (live && hops && nonce) (has_addresses c.source c.destination) e in
          let (e₂, w) = halves (live && hops) nonce e₃ in
          let (l, h) = halves live hops e₂ in
          let (link, up) = halves (ltb c.link n.nlinks) (get_or up c.link false) l in
          let (s, below) = halves (is_source c.source && some) (ltb c.destination (2 ^ 48)) a in
          let (source, to) = halves (is_source c.source) some s in
          let (low, high) = inside 1 63 c.header.hc (not-true (outside 1 63 c.header.hc) h) in
          let zero = eqb-false c.destination 0 (not-true (eqb c.destination 0) to) in
          record {
            link = ltb-true c.link n.nlinks link;
            live = up;
            source = (source_iff c.source).0 source;
            destination_some = omega arith;
            destination_below = ltb-true c.destination (2 ^ 48) below;
            hops_some = low;
            hops_few = high;
            nonce = ltb-true c.header.nonce (2 ^ 24) w;
          }

  copies_tested : (copies : List Copy) (m : ℕ) → m ≤ length copies → (copies_fit n.nlinks up copies m ≡ true) ↔ All (CopyFits n up) (take m copies)
  copies_tested copies m h = (there, back)
    where
      test : ℕ → Bool
      test i = copy_fits n.nlinks up (get_or copies i no_copy)

      there : copies_fit n.nlinks up copies m ≡ true → All (CopyFits n up) (take m copies)
      there e = all_places (take m copies) (λ i l.
          let short : i < m = omega (arith, length-take-le m copies h) in
          rw (get_or-take m copies i no_copy short) ((copy_tested _).0 (each_below test m e i short)))

      back : All (CopyFits n up) (take m copies) → copies_fit n.nlinks up copies m ≡ true
      back fit = all_below_lem test m (λ i l.
          (copy_tested _).1 (rw (get_or-take m copies i no_copy l) at (all_at fit i (omega (arith, length-take-le m copies h)))))

-- ---- The bench

module _ (b : Bench) (sized : Sized b) where
  abbrev seats : Bool
  seats = seats_fit b.network b.up b.seats b.network.nswitches

  abbrev copies : Bool
  copies = copies_fit b.network.nlinks b.up b.copies b.flying

  -- with what the test of the heads means of each
  pub found_in_shape : (seats ≡ true → (k : ℕ) → k < b.network.nswitches → SeatFits b.network b.up k (get_or b.seats k no_seat)) → in_shape b ≡ true → InShape b
  unfolding in_shape in_flight seat_at
  found_in_shape fit e =
      let fine = eqb (network_fault b.network) 0 in
      let few = leb b.flying most in
      let (e₃, c) = halves (fine && seats && few) copies e in
      let (e₂, f) = halves (fine && seats) few e₃ in
      let (d, s) = halves fine seats e₂ in
      let short : b.flying ≤ most = leb-true b.flying most f in
      record {
        described = eqb-true (network_fault b.network) 0 d;
        seats = fit s;
        few = short;
        copies = (copies_tested b.network b.up b.copies b.flying (omega (arith, sized.copies))).0 c;
      }

  pub passes_in_shape : InShape b → in_shape b ≡ true
  unfolding in_shape in_flight seat_at
  passes_in_shape v = rw (
    eq-eqb (network_fault b.network) 0 v.described,
    all_below_lem (λ k. seat_fits b.network b.up k (get_or b.seats k no_seat)) b.network.nswitches (λ k h. seat_passes b.network b.up k _ (v.seats k h)),
    le-leb b.flying most v.few,
    (copies_tested b.network b.up b.copies b.flying (omega (arith, sized.copies, v.few))).1 v.copies,
  )

-- ---- The code asks one behind the other

-- whether the writer takes the description and its heads fit, with what that means of each head
pub record Heads (b : Bench) (v : Bool) : Type 0 where
  pub test : v ≡ (eqb (network_fault b.network) 0 && seats_fit b.network b.up b.seats b.network.nswitches)
  pub fit : v ≡ true → (k : ℕ) → k < b.network.nswitches → SeatFits b.network b.up k (get_or b.seats k no_seat)

-- a test that is made where the one before holds
pub also : {v w one : Bool} → v ≡ true → w ≡ one → w ≡ (v && one)
also h e = e ∙ rw h

pub not_even : {v w : Bool} (one : Bool) → v ≡ false → w ≡ v → w ≡ (v && one)
not_even one h e = rw (e, h)

-- two tests that hold together are the same
same_test : (a b : Bool) → (a ≡ true) ↔ (b ≡ true) → a ≡ b
same_test true b f = sym (f.0 refl)
same_test false true f = f.1 refl
same_test false false f = refl

module _ {b : Bench} where
  pub heads_asked : {v s : Bool} → network_fault b.network ≡ 0 → v ≡ s → s ≡ seats_fit b.network b.up b.seats b.network.nswitches
      → (s ≡ true → (k : ℕ) → k < b.network.nswitches → SeatFits b.network b.up k (get_or b.seats k no_seat)) → Heads b v
  heads_asked fine is e fit = record { test = is ∙ e ∙ rw (eq-eqb (network_fault b.network) 0 fine); fit = λ t. fit (sym is ∙ t) }

  pub heads_unasked : {A : Type 0} (a : Result A Refusal) {v r : Bool} → r ≡ is_ok a → refused_as a ≡ network_fault b.network → r ≡ false → v ≡ r → Heads b v
  heads_unasked a found e fails is = record {
    test = not_even _ fails is ∙ ap (λ d. d && seats_fit b.network b.up b.seats b.network.nswitches) (found ∙ is_ok_as a ∙ ap (λ n. eqb n 0) e);
    fit = λ t. absurd (true≢false (sym t ∙ is ∙ fails));
  }

  module _ {v u : Bool} (sized : Sized b) (heads : Heads b v) (few : u ≡ (v && leb b.flying most)) where
    last_asked : in_shape b ≡ (u && copies_fit b.network.nlinks b.up b.copies b.flying)
    unfolding in_shape
    last_asked = rw (few, heads.test)

    pub shape_unasked : u ≡ false → u ≡ in_shape b
    shape_unasked fails = let e : in_shape b ≡ false = last_asked ∙ rw fails refl in fails ∙ sym e

    module _ {r : Bool} (holds : u ≡ true) (each : IsTrue r ↔ EachIndex (take b.flying b.copies) (λ k. IsTrue (copy_fits b.network.nlinks b.up (get_or (take b.flying b.copies) k no_copy)))) where
      both : (v ≡ true) × (leb b.flying most ≡ true)
      both = halves v (leb b.flying most) (sym few ∙ holds)

      long : length (take b.flying b.copies) ≡ b.flying
      long = length-take-le b.flying b.copies (omega (arith, leb-true b.flying most both.1, sized.copies))

      last : r ≡ copies_fit b.network.nlinks b.up b.copies b.flying
      last = same_test r _ (
        λ t. all_below_lem _ b.flying (λ k h. rw (← get_or-take b.flying b.copies k no_copy h) (each.0 t k (omega (arith, long)))),
        λ t. each.1 (λ k h. let l : k < b.flying = omega (arith, long) in rw (get_or-take b.flying b.copies k no_copy l) (each_below _ b.flying t k l)),
      )

      pub shape_tested : r ≡ in_shape b
      shape_tested = last ∙ sym (last_asked ∙ rw holds)

      pub shape_found : r ≡ true → InShape b
      shape_found t = found_in_shape b sized (λ _. heads.fit both.0) (sym shape_tested ∙ t)
