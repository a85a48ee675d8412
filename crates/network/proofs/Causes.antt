-- A record, the reader and the writer take the first of their causes, and each cause is a test that says what its words say.
use Prim.Native.Nat.{ℕ, zero, suc, ◌+◌, ◌-◌, ◌<◌, ◌≤◌, ◌^◌}
use mathlib.Core.Path.{◌≡◌, refl, sym, ap, subst, ◌∙◌}
use mathlib.Core.Logic.{◌↔◌, ◌⊎◌, ◌≢◌, inl, inr, ⊎_elim, by_cases}
use mathlib.Core.Bool.{Bool, true, false, cond, not, ◌&&◌, true≢false, false≢true}
use mathlib.Core.List.Memᴰ
use mathlib.Core.List.{List, [], ◌∷◌, ◌++◌, map, Memᴰ}
use native.Mathlib.Decide.{ℕ_discrete}
use native.Mathlib.Omega.{arith}
use lib.Dec.{eqb, leb, ltb}
use lib.ListN.{length, get_or, drop, length-drop}
use lib.Seq.{drop-drop}
use borrow.Author.Tests.{leb-true, leb-false, le-leb, lt-leb, eqb-true, eqb-false, eq-eqb, ne_eqb, ltb-false}
use Rattle.refusal.specs.Refusal.{Cause, when}
use Rattle.refusal.specs.Exact.{Decides, NoneHolds, Outside}
use Rattle.refusal.proofs.Laws.{for_its_cause_only}
use Rattle.refusal.proofs.Words.{at_most, both, either, equal, is_not, less}
use Rattle.wire.specs.Address.{address_bound, group_bit}
use Rattle.wire.specs.Wire.{AreBytes, number, part}
use Rattle.wire.proofs.Laws.{byte_at}
use Rattle.network.specs.declared.Port.{Port}
use Rattle.network.specs.declared.Switch.{Switch}
use Rattle.network.specs.declared.Host.{Host}
use Rattle.network.specs.declared.Link.{Link}
use Rattle.network.specs.declared.Network.{Network}
use Rattle.network.specs.declared.Record.{Record}
use Rattle.network.specs.declared.Record.TheVariants.{Switch as OfSwitch, Host as OfHost, Link as OfLink}
use Rattle.std.specs.Prelude.{Ok, Err, Some as Just, None}
use Rattle.refusal.specs.declared.Refusal.{Refusal}
use Rattle.refusal.specs.declared.Refusal.TheVariants.{BadRecord as Bad}
use Rattle.network.specs.Network.{most_switches, most_hosts, most_links, no_switch, no_host, no_link, switches_of, hosts_of, links_of, empty_network, add, built, records}
use Rattle.network.specs.Format.{Start, port_bytes, port_in, encode, record_of, length_of, length_in, kind_in, body_in, is_event, headless, misfit, start_of}
use Rattle.network.specs.Checks.{any, place, taken, stands, not_above, too_many, out_of_order, switch_out, out_of_range, port_taken, address_out, bad_address, causes, record_fault, records_fault, network_fault}
use Rattle.network.specs.Describe.{Scan, version, scanned, scan, scan_of, versionless, read_causes, read_fault, image, write_causes, write_fault}
use Rattle.network.specs.Sound.{FineSwitch, Standing}
use Rattle.network.specs.Causes.{AllInBytes, BadAddress, BadRecord, Below, FirstFaulty, FirstFaultyDecides, FirstFaultyInWords, InBytes, OutOfOrder, OutOfRange, PortTaken, ReadCausesInWords, ReadsForItsCauseOnly, RecordCausesInWords, RecordsForItsCauseOnly, Some, Taken, TooMany, WriteCausesInWords, WritesForItsCauseOnly, last_host, last_link}
use Rattle.network.proofs.Lists.{up_to_long, up_to_at, at_member}
use Rattle.network.proofs.Bytes.{neither, starts, starts_room, encode_least, bytes_drop}
use Rattle.network.proofs.Built.{built_records}
use Rattle.network.proofs.Faults.{numbered, fault_here, fault_behind, none_here, none_behind}

pub records_for_its_cause_only : RecordsForItsCauseOnly
unfolding record_fault
records_for_its_cause_only n r = for_its_cause_only (causes n r)

pub reads_for_its_cause_only : ReadsForItsCauseOnly
unfolding read_fault
reads_for_its_cause_only b = for_its_cause_only (read_causes b)

pub writes_for_its_cause_only : WritesForItsCauseOnly
unfolding write_fault
writes_for_its_cause_only n room = for_its_cause_only (write_causes n room)

-- what isn't false is true
not_false_true : (t : Bool) → (t ≡ false → ⊥) → t ≡ true
not_false_true true n = refl
not_false_true false n = absurd (n refl)

-- ---- One of a list

-- one passes a test exactly if one is as the test's words say
some_words : {A : Type 0} {test : A → Bool} {So : A → Type 0} (xs : List A) → ((x : A) → Memᴰ x xs → (test x ≡ true) ↔ So x) → (any test xs ≡ true) ↔ Some So xs
unfolding any
some_words [] h = (λ e. absurd (false≢true e), λ s. absurd (Memᴰ.not-nil s.there))
some_words {A} {test} {So} (x ∷ xs) h =
    let one = either (h x (Memᴰ.head refl)) (some_words {test = test} {So = So} xs (λ y m. h y (Memᴰ.tail m))) in (
      λ e. ⊎_elim (λ p. record { one = x; there = Memᴰ.head refl; so = p }) (λ s. record { one = s.one; there = Memᴰ.tail s.there; so = s.so }) (one.0 e),
      λ s. one.1 (⊎_elim (λ e. inl (rw (← e) s.so)) (λ m. inr (record { one = s.one; there = m; so = s.so })) (Memᴰ.cases_cons s.there)),
    )

map_member : {A B : Type 0} (f : A → B) {x : A} {xs : List A} → Memᴰ x xs → Memᴰ (f x) (map f xs)
map_member f (Memᴰ.head e) = Memᴰ.head (ap f e)
map_member f (Memᴰ.tail m) = Memᴰ.tail (map_member f m)

-- ---- Ports, compared as numbers

module _ (p q : Port) (a : AreBytes (port_bytes p)) (b : AreBytes (port_bytes q)) where
  below_place : Below p q → place p < place q
  below_place = ⊎_elim (λ h. omega (arith, a.1.0)) (λ h. omega arith)

  place_below : place p < place q → Below p q
  place_below h = by_cases (ℕ_discrete p.switch q.switch) (λ e. inr (e, omega arith)) (λ e. inl (omega (arith, b.1.0)))

  not_below_words : (leb (place q) (place p) ≡ true) ↔ (Below p q → ⊥)
  not_below_words = (λ e h. turned (leb-true _ _ e) (below_place h), λ n. not_false_true _ (λ e. n (place_below (leb-false _ _ e))))
    where
      turned : place q ≤ place p → place p < place q → ⊥
      turned h l = omega arith

  same_words : (eqb (place p) (place q) ≡ true) ↔ (p ≡ q)
  same_words = (λ e. same (eqb-true _ _ e), λ e. (equal (place p) (place q)).1 (ap place e))
    where
      same : place p ≡ place q → p ≡ q
      same e =
          let switches : p.switch ≡ q.switch = omega (arith, a.1.0, b.1.0) in
          let numbers : p.number ≡ q.number = omega (arith, a.1.0, b.1.0) in
          λ i. record { switch = switches i; number = numbers i }

-- ---- A record's causes

more_words : (most count : ℕ) → (leb most count ≡ true) ↔ (most < count + 1)
more_words most count = (λ e. let h = leb-true most count e in omega arith, λ h. le-leb most count (omega arith))

pub switch_fine : (s : Switch) → switch_out s ≡ false → FineSwitch s
unfolding switch_out
switch_fine s e =
    let limit = neither _ (ltb 62 s.limit) e in
    let most = neither _ (ltb 8 s.ports) limit.0 in
    let least = neither (leb (2 ^ 32) s.salt) (ltb s.ports 1) most.0 in
    record {
      least = ltb-false s.ports 1 least.1;
      most = ltb-false 8 s.ports most.1;
      limit = ltb-false 62 s.limit limit.1;
      salt = leb-false (2 ^ 32) s.salt least.0;
    }

switch_words : (s : Switch) → (switch_out s ≡ true) ↔ (FineSwitch s → ⊥)
unfolding switch_out
switch_words s = (
  λ e fine.
      ⊎_elim (⊎_elim (⊎_elim (λ h. omega (arith, fine.salt)) (λ h. omega (arith, fine.least))) (λ h. omega (arith, fine.most))) (λ h. omega (arith, fine.limit))
      ((either (either (either (at_most (2 ^ 32) s.salt) (less s.ports 1)) (less 8 s.ports)) (less 62 s.limit)).0 e),
  λ n. not_false_true _ (λ e. n (switch_fine s e)),
)

module _ (n : Network) where
  pub standing_words : (p : Port) → (stands n p ≡ true) ↔ Standing (switches_of n) p
  unfolding stands switches_of
  standing_words p =
      let tests = both (less p.switch n.nswitches) (less p.number (get_or n.switches p.switch no_switch).ports) in
      let long = up_to_long no_switch n.nswitches n.switches in (
        λ e.
            let v = tests.0 e in
            record { switch = rw long v.0; number = rw (up_to_at no_switch n.nswitches n.switches p.switch v.0) v.1 },
        λ v.
            let here : p.switch < n.nswitches = rw long at v.switch in
            tests.1 (here, rw (up_to_at no_switch n.nswitches n.switches p.switch here) at v.number),
      )

  many_words : (r : Record) → (too_many n r ≡ true) ↔ TooMany n r
  unfolding too_many
  many_words (OfSwitch s) = more_words most_switches n.nswitches
  many_words (OfHost h) = more_words most_hosts n.nhosts
  many_words (OfLink l) = more_words most_links n.nlinks

  range_words : (r : Record) → (out_of_range n r ≡ true) ↔ OutOfRange n r
  unfolding out_of_range
  range_words (OfSwitch s) = switch_words s
  range_words (OfHost h) = either (is_not (standing_words h.port)) (at_most address_bound h.address)
  range_words (OfLink l) = either (is_not (standing_words l.first)) (is_not (standing_words l.second))

  address_words : (r : Record) → (bad_address n r ≡ true) ↔ BadAddress n r
  unfolding bad_address address_out
  address_words (OfSwitch s) = (λ e. false≢true e, λ z. absurd z)
  address_words (OfHost h) = either (either (equal h.address 0) (equal (group_bit h.address) 1)) (some_words (hosts_of n) (λ other m. equal other.address h.address))
  address_words (OfLink l) = (λ e. false≢true e, λ z. absurd z)

  -- there is a last one, and a port isn't above its
  last_words : (count : ℕ) (last p : Port) → (count ≢ 0 → AreBytes (port_bytes last)) → AreBytes (port_bytes p) → (not_above count last p ≡ true) ↔ ((count ≢ 0) × (Below last p → ⊥))
  unfolding not_above
  last_words count last p a b =
      by_cases (ℕ_discrete count 0)
      (λ e. (λ q. absurd (false≢true (rw (eq-eqb count 0 e) at q)), λ w. absurd (w.0 e)))
      (λ d. both (is_not (equal count 0)) (not_below_words last p (a d) b))

  module _ (v : AllInBytes (records n)) where
    host_bytes_lem : (h : Host) → Memᴰ h (hosts_of n) → AreBytes (port_bytes h.port)
    unfolding records
    host_bytes_lem h m = v (OfHost h) (Memᴰ.append_right (map (λ s. OfSwitch s) (switches_of n)) (Memᴰ.append_left (map (λ l. OfLink l) (links_of n)) (map_member (λ h. OfHost h) m)))

    link_bytes_lem : (l : Link) → Memᴰ l (links_of n) → AreBytes (port_bytes l.first) × AreBytes (port_bytes l.second)
    unfolding records
    link_bytes_lem l m = v (OfLink l) (Memᴰ.append_right (map (λ s. OfSwitch s) (switches_of n)) (Memᴰ.append_right (map (λ h. OfHost h) (hosts_of n)) (map_member (λ l. OfLink l) m)))

    last_host_bytes : n.nhosts ≢ 0 → AreBytes (port_bytes (last_host n).port)
    unfolding hosts_of
    last_host_bytes some =
        let here : n.nhosts - 1 < n.nhosts = omega (arith, some) in
        rw (up_to_at no_host n.nhosts n.hosts (n.nhosts - 1) here) at (host_bytes_lem _ (at_member no_host (n.nhosts - 1) (hosts_of n) (rw (up_to_long no_host n.nhosts n.hosts) here)))

    last_link_bytes : n.nlinks ≢ 0 → AreBytes (port_bytes (last_link n).first)
    unfolding links_of
    last_link_bytes some =
        let here : n.nlinks - 1 < n.nlinks = omega (arith, some) in
        rw (up_to_at no_link n.nlinks n.links (n.nlinks - 1) here) at (link_bytes_lem _ (at_member no_link (n.nlinks - 1) (links_of n) (rw (up_to_long no_link n.nlinks n.links) here))).0

    order_words : (r : Record) → InBytes r → (out_of_order n r ≡ true) ↔ OutOfOrder n r
    unfolding out_of_order
    order_words (OfSwitch s) b = either (less 0 n.nhosts) (less 0 n.nlinks)
    order_words (OfHost h) b = either (less 0 n.nlinks) (last_words n.nhosts (last_host n).port h.port last_host_bytes b)
    order_words (OfLink l) b = either (not_below_words l.first l.second b.0 b.1) (last_words n.nlinks (last_link n).first l.first last_link_bytes b.0)

    taken_words : (p : Port) → AreBytes (port_bytes p) → (taken n p ≡ true) ↔ Taken n p
    unfolding taken
    taken_words p b =
        either (some_words (hosts_of n) (λ h m. same_words h.port p (host_bytes_lem h m) b))
        (some_words (links_of n) (λ l m. either (same_words l.first p (link_bytes_lem l m).0 b) (same_words l.second p (link_bytes_lem l m).1 b)))

    port_words : (r : Record) → InBytes r → (port_taken n r ≡ true) ↔ PortTaken n r
    unfolding port_taken
    port_words (OfSwitch s) b = (λ e. false≢true e, λ z. absurd z)
    port_words (OfHost h) b = taken_words h.port b
    port_words (OfLink l) b = either (taken_words l.first b.0) (taken_words l.second b.1)

pub record_causes_in_words : RecordCausesInWords
record_causes_in_words n r v b = (
  refl,
  many_words n r,
  (refl, order_words n v r b, (refl, range_words n r, (refl, port_words n v r b, (refl, address_words n r, tt)))),
)

-- ---- The first faulty record

module _ (n : Network) (r : Record) (rs : List Record) {number : ℕ} where
  faulty_here : number ≢ 0 → record_fault n r ≡ number → FirstFaulty n (r ∷ rs) number
  unfolding record_fault records_fault built
  faulty_here some e = record { before = []; faulty = r; behind = rs; listed = refl; none_before = refl; decides = (for_its_cause_only (causes n r)).refused number some e }

  faulty_behind : record_fault n r ≡ 0 → FirstFaulty (add n r) rs number → FirstFaulty n (r ∷ rs) number
  unfolding built
  faulty_behind fine f =
      record {
        before = r ∷ f.before;
        faulty = f.faulty;
        behind = f.behind;
        listed = ap (λ l. r ∷ l) f.listed;
        none_before = fault_behind n r f.before fine ∙ f.none_before;
        decides = f.decides;
      }

find_faulty : (rs : List Record) (n : Network) (number : ℕ) → number ≢ 0 → records_fault n rs ≡ number → FirstFaulty n rs number
unfolding records_fault
find_faulty [] n number some e = absurd (some (sym e))
find_faulty (r ∷ rs) n number some e = by_test (eqb (record_fault n r) 0) refl (λ q. find_faulty rs (add n r) number some q)
  where
    by_test : (t : Bool) → eqb (record_fault n r) 0 ≡ t → (records_fault (add n r) rs ≡ number → FirstFaulty (add n r) rs number) → FirstFaulty n (r ∷ rs) number
    by_test true q go = let fine = eqb-true (record_fault n r) 0 q in faulty_behind n r rs fine (go (sym (fault_behind n r rs fine) ∙ e))
    by_test false q go = faulty_here n r rs some (sym (fault_here n r rs (eqb-false (record_fault n r) 0 q)) ∙ e)

faulty_decides : (before : List Record) (n : Network) (faulty : Record) (behind : List Record) {number : ℕ} → number ≢ 0
    → records_fault n before ≡ 0 → Decides number (causes (built n before) faulty) → records_fault n (before ++ (faulty ∷ behind)) ≡ number
unfolding built record_fault
faulty_decides [] n faulty behind {number} some none d =
    let e : record_fault n faulty ≡ number = (for_its_cause_only (causes n faulty)).decided number d in
    fault_here n faulty behind (λ z. some (sym e ∙ z)) ∙ e
faulty_decides (r ∷ before) n faulty behind some none d =
    fault_behind n r (before ++ (faulty ∷ behind)) (none_here n r before none) ∙ faulty_decides before (add n r) faulty behind some (none_behind n r before none) d

pub first_faulty_decides : FirstFaultyDecides
first_faulty_decides n rs number some =
    (find_faulty rs n number some, λ f. rw f.listed (faulty_decides f.before n f.faulty f.behind some f.none_before f.decides))

pub first_faulty_in_words : FirstFaultyInWords
first_faulty_in_words rs number f all =
    let each : AllInBytes (f.before ++ (f.faulty ∷ f.behind)) = subst AllInBytes f.listed all in
    record_causes_in_words (built empty_network f.before) f.faulty
    (subst AllInBytes (sym (built_records f.before f.none_before)) (λ r m. each r (Memᴰ.append_left (f.faulty ∷ f.behind) m)))
    (each f.faulty (Memᴰ.append_right f.before (Memᴰ.head refl)))

-- no record is refused with 0
holds_none : (before behind : List Cause) → NoneHolds (before ++ (when 0 true ∷ behind)) → ⊥
holds_none [] behind none = true≢false none.0
holds_none (c ∷ before) behind none = holds_none before behind none.1

not_zero : (n : Network) (r : Record) → Decides 0 (causes n r) → ⊥
not_zero n r d =
    let all = for_its_cause_only (causes n r) in
    holds_none d.before d.behind (subst (λ cs. NoneHolds cs) d.listed (all.only_then (numbered n r) (all.decided 0 d)))

checked_words : (n : Network) (rs : List Record) → (not (eqb (records_fault n rs) 0) ≡ true) ↔ FirstFaulty n rs (records_fault n rs)
checked_words n rs =
    let some = is_not (equal (records_fault n rs) 0) in
    (λ e. find_faulty rs n (records_fault n rs) (some.0 e) refl, λ f. some.1 (λ z. not_zero (built n f.before) f.faulty (rw z at f.decides)))

-- ---- Records found in bytes have their ports in bytes

record_bytes : (kind : ℕ) (body : List ℕ) → AreBytes body → InBytes (record_of kind body)
unfolding record_of
record_bytes kind body h = by_kind (eqb kind 1) (eqb kind 2)
  where
    at : (k : ℕ) → AreBytes (port_bytes (port_in k body))
    at k = (byte_at body h k, (byte_at body h (k + 1), tt))

    by_kind : (a b : Bool) → InBytes (cond a (OfSwitch (record { ports = get_or body 0 0; limit = get_or body 1 0; salt = number (part 2 4 body) }))
        (cond b (OfHost (record { port = port_in 0 body; address = number (part 2 6 body) })) (OfLink (record { first = port_in 0 body; second = port_in 2 body }))))
    by_kind true b = tt
    by_kind false true = at 0
    by_kind false false = (at 0, at 2)

scan_bytes : (turns at : ℕ) (b : List ℕ) → AreBytes b → AllInBytes (scan turns at b).found
unfolding scan
scan_bytes zero at b h = λ r m. absurd (Memᴰ.not-nil m)
scan_bytes (suc turns) at b h = by_start (start_of b) refl (λ r. scan_bytes turns (at + length (encode r)) (drop (length (encode r)) b) (bytes_drop (length (encode r)) b h))
  where
    behind : Record → Scan
    behind r = scan turns (at + length (encode r)) (drop (length (encode r)) b)

    by_start : (p : Start) → start_of b ≡ p → ((r : Record) → AllInBytes (behind r).found) → AllInBytes (scanned p at behind).found
    by_start (Ok None) q go r m = absurd (Memᴰ.not-nil m)
    by_start (Err f) q go r m = absurd (Memᴰ.not-nil m)
    by_start (Ok (Just s)) q go r m =
        let here : InBytes s = rw (starts b s q).is (record_bytes (kind_in b) (body_in b) (bytes_drop 3 b h)) in
        ⊎_elim (λ (e : r ≡ s). rw e here) (λ n. go s r n) (Memᴰ.cases_cons m)

pub found_in_bytes : (b : List ℕ) → AreBytes b → AllInBytes (scan_of b).found
unfolding scan_of
found_in_bytes b h = scan_bytes (suc (length b)) 1 (drop 1 b) (bytes_drop 1 b h)

-- ---- What is no record

module _ (b : List ℕ) where
  pub headless_words : (headless b ≡ true) ↔ ((length b < 3) ⊎ (length_in b ≡ 0))
  unfolding headless
  headless_words = either (less (length b) 3) (equal (length_in b) 0)

  misfit_words : (misfit b ≡ true) ↔ ((length_in b ≢ length_of (kind_in b)) ⊎ (length b < length_in b + 2))
  unfolding misfit
  misfit_words = either (is_not (equal (length_in b) (length_of (kind_in b)))) (less (length b) (length_in b + 2))

event_none : (kind : ℕ) → Outside 4 6 kind → is_event kind ≡ false
unfolding is_event
event_none kind (inl h) = rw (lt-leb 4 kind h)
event_none kind (inr h) = rw (le-leb 4 kind (omega arith), lt-leb kind 6 h)

no_event : (kind : ℕ) → is_event kind ≡ false → Outside 4 6 kind
unfolding is_event
no_event kind e = by_tests (leb 4 kind) (leb kind 6) refl refl e
  where
    by_tests : (a b : Bool) → leb 4 kind ≡ a → leb kind 6 ≡ b → (a && b) ≡ false → Outside 4 6 kind
    by_tests true true p q e = absurd (true≢false e)
    by_tests true false p q e = inr (leb-false kind 6 q)
    by_tests false b p q e = inl (leb-false 4 kind p)

unknown_length : (kind : ℕ) → Outside 1 3 kind → length_of kind ≡ 0
unfolding length_of
unknown_length kind out = rw (ne_eqb kind 1 (other 1 (omega arith) (omega arith)), ne_eqb kind 2 (other 2 (omega arith) (omega arith)), ne_eqb kind 3 (other 3 (omega arith) (omega arith)))
  where
    other : (k : ℕ) → 1 ≤ k → k ≤ 3 → kind ≢ k
    other k low high e = ⊎_elim (λ (h : kind < 1). omega arith) (λ (h : 3 < kind). omega arith) out

end_not_bad : {x : Start} {f : Refusal} → x ≡ Ok None → x ≡ Err f → ⊥
end_not_bad p q = let z : ◌≡◌ {A = ℕ} 0 1 = cc in omega arith

got_not_bad : {x : Start} {r : Record} {f : Refusal} → x ≡ Ok (Just r) → x ≡ Err f → ⊥
got_not_bad p q = let z : ◌≡◌ {A = ℕ} 0 1 = cc in omega arith

module _ (b : List ℕ) where
  start_bad : {f : Refusal} → start_of b ≡ Err f → BadRecord b
  unfolding start_of
  start_bad {f} q = by_tests (eqb (length b) 0) (headless b) (is_event (kind_in b)) (misfit b) refl refl refl refl q
    where
      by_tests : (none head event fit : Bool) → eqb (length b) 0 ≡ none → headless b ≡ head → is_event (kind_in b) ≡ event → misfit b ≡ fit
          → cond none (Ok None) (cond head (Err Bad) (cond event (Ok None) (cond fit (Err Bad) (Ok (Just (record_of (kind_in b) (body_in b))))))) ≡ Err f
          → BadRecord b
      by_tests true head event fit n h k m q = absurd (end_not_bad refl q)
      by_tests false true event fit n h k m q = record { some = eqb-false (length b) 0 n; bad = inl ((headless_words b).0 h) }
      by_tests false false true fit n h k m q = absurd (end_not_bad refl q)
      by_tests false false false true n h k m q = record { some = eqb-false (length b) 0 n; bad = inr (no_event (kind_in b) k, inr ((misfit_words b).0 m)) }
      by_tests false false false false n h k m q = absurd (got_not_bad refl q)

  bad_starts : BadRecord b → start_of b ≡ Err Bad
  unfolding start_of
  bad_starts v = rw (ne_eqb (length b) 0 v.some) (by_test (headless b) refl v.bad)
    where
      fits_not : headless b ≡ false → Outside 1 3 (kind_in b) ⊎ (length_in b ≢ length_of (kind_in b)) ⊎ (length b < length_in b + 2) → misfit b ≡ true
      fits_not h (inl out) = (misfit_words b).1 (inl (λ e. true≢false (sym ((headless_words b).1 (inr (e ∙ unknown_length (kind_in b) out))) ∙ h)))
      fits_not h (inr w) = (misfit_words b).1 w

      by_test : (head : Bool) → headless b ≡ head
          → ((length b < 3) ⊎ (length_in b ≡ 0)) ⊎ (Outside 4 6 (kind_in b) × (Outside 1 3 (kind_in b) ⊎ (length_in b ≢ length_of (kind_in b)) ⊎ (length b < length_in b + 2)))
          → cond head (Err Bad) (cond (is_event (kind_in b)) (Ok None) (cond (misfit b) (Err Bad) (Ok (Just (record_of (kind_in b) (body_in b)))))) ≡ Err Bad
      by_test true h w = refl
      by_test false h (inl w) = absurd (true≢false (sym ((headless_words b).1 w) ∙ h))
      by_test false h (inr w) = rw (event_none (kind_in b) w.0, fits_not h w.1)

-- the records of a list of bytes, from a place on, end before what is none, unless they end the description
bad_behind : (turns at : ℕ) (b : List ℕ) → length (drop at b) < turns → (not (scan turns at (drop at b)).whole ≡ true) ↔ BadRecord (drop (scan turns at (drop at b)).end b)
unfolding scan
bad_behind zero at b h = absurd (omega arith)
bad_behind (suc turns) at b h =
    by_start (start_of (drop at b)) refl (λ r q.
    bad_behind turns (at + length (encode r)) b (omega (arith, h, starts_room (drop at b) r q, encode_least r, length-drop at b, length-drop (at + length (encode r)) b)))
  where
    behind : Record → Scan
    behind r = scan turns (at + length (encode r)) (drop (length (encode r)) (drop at b))

    by_start : (p : Start) → start_of (drop at b) ≡ p
        → ((r : Record) → start_of (drop at b) ≡ Ok (Just r)
        → (not (scan turns (at + length (encode r)) (drop (at + length (encode r)) b)).whole ≡ true)
        ↔ BadRecord (drop (scan turns (at + length (encode r)) (drop (at + length (encode r)) b)).end b))
        → (not (scanned p at behind).whole ≡ true) ↔ BadRecord (drop (scanned p at behind).end b)
    by_start (Ok None) q go = (λ e. absurd (false≢true e), λ v. absurd (end_not_bad q (bad_starts (drop at b) v)))
    by_start (Err f) q go = (λ e. start_bad (drop at b) q, λ v. refl)
    by_start (Ok (Just r)) q go = rw (drop-drop (length (encode r)) at b) (go r q)

pub read_causes_in_words : ReadCausesInWords
unfolding versionless scan_of
read_causes_in_words b = (
  refl,
  less 60000 (length b),
  (
    refl,
    either (equal (length b) 0) (is_not (equal (get_or b 0 0) version)),
    (
      refl,
      checked_words empty_network (scan_of b).found,
      (refl, bad_behind (suc (length b)) 1 b (omega (arith, length-drop 1 b)), tt),
    ),
  ),
)

pub write_causes_in_words : WriteCausesInWords
unfolding network_fault
write_causes_in_words n room = (refl, checked_words empty_network (records n), (refl, less room (length (image n)), tt))
