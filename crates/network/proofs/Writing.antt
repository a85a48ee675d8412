-- The records of a network, by number; the loops that check and write them.
use Prim.Native.Nat.{ℕ, zero, suc, ◌+◌, ◌-◌, ◌*◌, ◌<◌, ◌≤◌}
use mathlib.Core.Path.{◌≡◌, refl, sym, ap, ◌∙◌}
use mathlib.Core.List.{List, [], ◌∷◌, ◌++◌, append_assoc, append-nil, map}
use native.Mathlib.Nat.{le_of_suc-le-suc, not-suc-le-zero}
use native.Mathlib.Numerals.{add-one}
use native.Mathlib.Omega.{arith}
use lib.ListN.{length, get_or, take, drop, take-append-drop, length-append, length-take, length-map, length-drop, drop_of_length-le, get_or-append, get_or-map}
use lib.Seq.{drop-cons, take-suc, get_or-append-add, take_all}
use borrow.Author.Tests.{eq-eqb, ne_eqb, lt-ltb, le-ltb}
use Rattle.refusal.specs.Refusal.{answered}
use Rattle.wire.specs.Wire.{put, put_in}
use Rattle.wire.proofs.Laws.{put_put, put_fits}
use Rattle.network.specs.declared.Switch.{Switch}
use Rattle.network.specs.declared.Host.{Host}
use Rattle.network.specs.declared.Link.{Link}
use Rattle.network.specs.declared.Network.{Network}
use Rattle.network.specs.declared.Record.{Record}
use Rattle.network.specs.declared.Record.TheVariants.{Switch as OfSwitch, Host as OfHost, Link as OfLink}
use Rattle.std.specs.Prelude.{Result, Ok, Err}
use Rattle.refusal.specs.Number.{number_of, told}
use Rattle.refusal.specs.declared.Refusal.{Refusal}
use Rattle.refusal.specs.declared.Refusal.TheVariants.{NoRoomToWrite}
use Rattle.network.specs.Network.{no_switch, no_host, no_link, up_to, switches_of, hosts_of, links_of, records, add, empty_network}
use Rattle.network.specs.Format.{encode, kind_of, length_of, body_of}
use Rattle.network.specs.Checks.{record_fault, records_fault, network_fault}
use Rattle.network.specs.Describe.{end_values, encode_all, image, write_fault, written}
use Rattle.network.proofs.Lists.{up_to_long, up_to_at}
use Rattle.network.proofs.Faults.{some, told_refused, fault_here, fault_behind}

-- within a list the default doesn't matter
get_d_any : {A : Type 0} (l : List A) (i : ℕ) (d e : A) → i < length l → get_or l i d ≡ get_or l i e
get_d_any [] i d e h = absurd (not-suc-le-zero h)
get_d_any (x ∷ l) zero d e h = refl
get_d_any (x ∷ l) (suc i) d e h = get_d_any l i d e (le_of_suc-le-suc h)

-- the records of one kind, with those of the later kinds behind them
module _ {A : Type 0} (wrap : A → Record) (unused : A) (k : ℕ) (xs : List A) where
  kind_long : length (map wrap (up_to unused k xs)) ≡ k
  kind_long = length-map (up_to unused k xs) wrap ∙ up_to_long unused k xs

  kind_at : (ys : List Record) (i : ℕ) (d : Record) → i < k → get_or (map wrap (up_to unused k xs) ++ ys) i d ≡ wrap (get_or xs i unused)
  kind_at ys i d h =
      let inside : i < length (map wrap (up_to unused k xs)) = rw kind_long h in
      get_or-append (map wrap (up_to unused k xs)) ys d i inside
      ∙ (get_d_any (map wrap (up_to unused k xs)) i d (wrap unused) inside
      ∙ (get_or-map wrap (up_to unused k xs) i unused ∙ ap wrap (up_to_at unused k xs i h)))

  kind_behind : (ys : List Record) (j : ℕ) (d : Record) → get_or (map wrap (up_to unused k xs) ++ ys) (k + j) d ≡ get_or ys j d
  kind_behind ys j d = ap (λ m. get_or (map wrap (up_to unused k xs) ++ ys) (m + j) d) (sym kind_long) ∙ get_or-append-add (map wrap (up_to unused k xs)) ys j d

  kind_bytes : (size : ℕ) → ((x : A) → length (encode (wrap x)) ≡ size) → length (encode_all (map wrap (up_to unused k xs))) ≡ k * size
  unfolding encode_all
  kind_bytes size each = all (up_to unused k xs) ∙ ap (λ m. m * size) (up_to_long unused k xs)
    where
      all : (l : List A) → length (encode_all (map wrap l)) ≡ length l * size
      all [] = omega arith
      all (x ∷ l) = omega (arith, length-append (encode (wrap x)) (encode_all (map wrap l)), each x, all l)

module _ (n : Network) where
  pub count_is : length (records n) ≡ n.nswitches + n.nhosts + n.nlinks
  unfolding records switches_of hosts_of links_of
  count_is =
      let ss = map (λ (s : Switch). OfSwitch s) (up_to no_switch n.nswitches n.switches) in
      let hs = map (λ (h : Host). OfHost h) (up_to no_host n.nhosts n.hosts) in
      let ls = map (λ (l : Link). OfLink l) (up_to no_link n.nlinks n.links) in
      omega (
        arith,
        length-append ss (hs ++ ls),
        length-append hs ls,
        kind_long (λ (s : Switch). OfSwitch s) no_switch n.nswitches n.switches,
        kind_long (λ (h : Host). OfHost h) no_host n.nhosts n.hosts,
        kind_long (λ (l : Link). OfLink l) no_link n.nlinks n.links,
      )

  module _ (d : Record) where
    pub switch_record : (i : ℕ) → i < n.nswitches → OfSwitch (get_or n.switches i no_switch) ≡ get_or (records n) i d
    unfolding records switches_of
    switch_record i h = sym (kind_at (λ (s : Switch). OfSwitch s) no_switch n.nswitches n.switches _ i d h)

    pub host_record : (i : ℕ) → n.nswitches ≤ i → i - n.nswitches < n.nhosts → OfHost (get_or n.hosts (i - n.nswitches) no_host) ≡ get_or (records n) i d
    unfolding records switches_of hosts_of
    host_record i least h =
        let whole : n.nswitches + (i - n.nswitches) ≡ i = omega arith in
        sym (ap (λ j. get_or (records n) j d) (sym whole)
        ∙ (kind_behind (λ (s : Switch). OfSwitch s) no_switch n.nswitches n.switches _ (i - n.nswitches) d
        ∙ kind_at (λ (h : Host). OfHost h) no_host n.nhosts n.hosts _ (i - n.nswitches) d h))

    pub link_record : (i : ℕ) → n.nswitches ≤ i → n.nhosts ≤ i - n.nswitches → i < length (records n)
        → OfLink (get_or n.links (i - n.nswitches - n.nhosts) no_link) ≡ get_or (records n) i d
    unfolding records switches_of hosts_of links_of
    link_record i least past h =
        let j = i - n.nswitches - n.nhosts in
        let whole : n.nswitches + (n.nhosts + j) ≡ i = omega arith in
        let inside : j < n.nlinks = omega (arith, count_is) in
        let ls = map (λ (l : Link). OfLink l) (up_to no_link n.nlinks n.links) in
        sym (ap (λ j. get_or (records n) j d) (sym whole)
        ∙ (kind_behind (λ (s : Switch). OfSwitch s) no_switch n.nswitches n.switches _ (n.nhosts + j) d
        ∙ (kind_behind (λ (h : Host). OfHost h) no_host n.nhosts n.hosts ls j d
        ∙ (ap (λ l. get_or l j d) (sym (append-nil ls)) ∙ kind_at (λ (l : Link). OfLink l) no_link n.nlinks n.links [] j d inside))))

-- the bytes of two lists of records, one behind the other
pub all_bytes : (xs ys : List Record) → encode_all (xs ++ ys) ≡ encode_all xs ++ encode_all ys
unfolding encode_all
all_bytes [] ys = refl
all_bytes (x ∷ xs) ys = rw (all_bytes xs ys) (sym (append_assoc (encode x) (encode_all xs) (encode_all ys)))

-- how long a description is
pub image_long : (n : Network) → length (image n) ≡ 1 + n.nswitches * 9 + n.nhosts * 11 + n.nlinks * 7
unfolding image records switches_of hosts_of links_of encode kind_of body_of length_of
image_long n =
    let ss = map (λ (s : Switch). OfSwitch s) (up_to no_switch n.nswitches n.switches) in
    let hs = map (λ (h : Host). OfHost h) (up_to no_host n.nhosts n.hosts) in
    let ls = map (λ (l : Link). OfLink l) (up_to no_link n.nlinks n.links) in
    rw (all_bytes ss (hs ++ ls), all_bytes hs ls)
    (omega (
      arith,
      length-append (encode_all ss) (encode_all hs ++ encode_all ls),
      length-append (encode_all hs) (encode_all ls),
      kind_bytes (λ (s : Switch). OfSwitch s) no_switch n.nswitches n.switches 9 (λ s. refl),
      kind_bytes (λ (h : Host). OfHost h) no_host n.nhosts n.hosts 11 (λ h. refl),
      kind_bytes (λ (l : Link). OfLink l) no_link n.nlinks n.links 7 (λ l. refl),
    ))

-- record i, and those behind it
module _ (n : Network) {i : ℕ} (h : i < length (records n)) {r : Record} (e : r ≡ get_or (records n) i (OfSwitch no_switch)) where
  here : drop i (records n) ≡ r ∷ drop (i + 1) (records n)
  here = rw (e, add-one) (drop-cons (records n) i (OfSwitch no_switch) h)

  so_far : encode_all (take (i + 1) (records n)) ≡ encode_all (take i (records n)) ++ encode r
  unfolding encode_all
  so_far =
      rw (
        add-one,
        take-suc (records n) i (OfSwitch no_switch) h,
        ← e,
        all_bytes (take i (records n)) (r ∷ []),
        append-nil (encode r),
      )

-- the network of the first i records is seen, and they have no fault
pub record Checking (n seen : Network) (i : ℕ) : Type 0 where
  pub within : i ≤ length (records n)
  pub rest : network_fault n ≡ records_fault seen (drop i (records n))

pub checking_starts : (n : Network) {seen : Network} → seen ≡ empty_network → Checking n seen 0
unfolding network_fault
checking_starts n e = record { within = omega arith; rest = rw e }

module _ {n seen : Network} {i : ℕ} (v : Checking n seen i) where
  pub checking_ends : length (records n) ≤ i → 0 ≡ network_fault n
  unfolding records_fault
  checking_ends h = sym (v.rest ∙ rw (drop_of_length-le (records n) {i = i} h))

  module _ (h : i < length (records n)) {r : Record} (e : r ≡ get_or (records n) i (OfSwitch no_switch)) where
    pub checking_fault : (f : Refusal) → number_of f ≡ record_fault seen r → number_of f ≡ network_fault n
    checking_fault f p =
        p ∙ sym (v.rest ∙ rw (here n h e) (fault_here seen r (drop (i + 1) (records n)) (λ z. some f (p ∙ z))))

    pub checking_next : record_fault seen r ≡ 0 → {more : Network} → more ≡ add seen r → Checking n more (i + 1)
    checking_next f q = record { within = omega arith; rest = v.rest ∙ rw (here n h e, q) (fault_behind seen r (drop (i + 1) (records n)) f) }

put_long : (l : List ℕ) (at : ℕ) (bs : List ℕ) → at + length bs ≤ length l → length (put l at bs) ≡ length l
put_long l at bs room = simp (length-append, length-take, length-drop) (omega arith)

-- the bytes of a record, put where there is room for them
pub record_put : (l : List ℕ) (at : ℕ) {bs : List ℕ} {r same : Record} → bs ≡ encode same → r ≡ same → at + length (encode r) ≤ length l → put_in l at bs ≡ put l at (encode r)
record_put l at {bs} {r} p q room = rw (p, ← q) (put_fits l at (encode r) room)

-- the first i records stand behind the version byte of the output as it was when the loop began
pub record Filling (n : Network) (start out : List ℕ) (at i : ℕ) : Type 0 where
  pub room : length (image n) ≤ length start
  pub within : i ≤ length (records n)
  pub place : at ≡ 1 + length (encode_all (take i (records n)))
  pub holds : out ≡ put start 1 (encode_all (take i (records n)))
  pub long : length out ≡ length start

start_long : (n : Network) (o : List ℕ) {start : List ℕ} → length (image n) ≤ length o → start ≡ put_in o 0 (1 ∷ []) → length (image n) ≤ length start
unfolding image
start_long n o room p = rw (p, put_fits o 0 (1 ∷ []) (omega arith), put_long o 0 (1 ∷ []) (omega arith)) room

pub filling_starts : (n : Network) (o : List ℕ) {start : List ℕ} → length (image n) ≤ length o → start ≡ put_in o 0 (1 ∷ []) → Filling n start start 1 0
unfolding encode_all
filling_starts n o {start} room p = record { room = start_long n o room p; within = omega arith; place = refl; holds = sym (rw (append-nil (take 1 start)) (take-append-drop 1 start)); long = refl }

module _ {n : Network} {start out : List ℕ} {at i : ℕ} (v : Filling n start out at i) where
  module _ (h : i < length (records n)) {r : Record} (e : r ≡ get_or (records n) i (OfSwitch no_switch)) where
    -- the first i records and this one are a part of the description
    filling_fits : 1 + (length (encode_all (take i (records n))) + length (encode r)) ≤ length start
    unfolding image
    filling_fits =
        let parts : length (encode_all (records n)) ≡ length (encode_all (take (i + 1) (records n))) + length (encode_all (drop (i + 1) (records n))) =
        ap (λ l. length (encode_all l)) (sym (take-append-drop (i + 1) (records n)))
        ∙ (ap (λ (l : List ℕ). length l) (all_bytes (take (i + 1) (records n)) (drop (i + 1) (records n)))
        ∙ length-append (encode_all (take (i + 1) (records n))) (encode_all (drop (i + 1) (records n)))) in
        omega (arith, v.room, ap (λ (l : List ℕ). length l) (so_far n h e), length-append (encode_all (take i (records n))) (encode r))

    pub filling_room : at + length (encode r) ≤ length out
    filling_room = omega (arith, filling_fits)

    pub filling_next : {more : List ℕ} {size : ℕ} → more ≡ put out at (encode r) → size ≡ length (encode r) → Filling n start more (at + size) (i + 1)
    filling_next p q =
        record {
          room = v.room;
          within = omega arith;
          place = rw (q, v.place, so_far n h e, length-append (encode_all (take i (records n))) (encode r)) (omega arith);
          holds =
              p
              ∙ (rw (v.holds, v.place) (put_put start 1 (encode_all (take i (records n))) (encode r) filling_fits)
              ∙ ap (λ bs. put start 1 bs) (sym (so_far n h e)));
          long = ap (λ (l : List ℕ). length l) p ∙ (put_long out at (encode r) filling_room ∙ v.long);
        }

  pub filling_ends : length (records n) ≤ i → out ≡ put start 1 (encode_all (records n))
  filling_ends h = v.holds ∙ rw (take_all i (records n) h)

-- the version byte and the records are the description
pub filled : (n : Network) (o : List ℕ) {start out : List ℕ} → length (image n) ≤ length o → start ≡ put_in o 0 (1 ∷ []) → out ≡ put start 1 (encode_all (records n)) → out ≡ put o 0 (image n)
unfolding image
filled n o room p q =
    q ∙ rw (p, put_fits o 0 (1 ∷ []) (omega arith)) (put_put o 0 (1 ∷ []) (encode_all (records n)) (omega arith))

-- the writer's answer and what it leaves in the output
abbrev Writes : Network → List ℕ → Result ℕ Refusal → List ℕ → Type 0
Writes n o answer out = (told end_values answer ≡ answered (write_fault n (length o)) (length (image n) ∷ [])) × (out ≡ written n o)

module _ (n : Network) (o : List ℕ) where
  refused_unchanged : (r : Refusal) → write_fault n (length o) ≡ number_of r → Writes n o (Err r) o
  unfolding written
  refused_unchanged r e = (told_refused end_values r (length (image n) ∷ []) e, rw (e, ne_eqb (number_of r) 0 (some r)))

  pub faulty : (r : Refusal) → number_of r ≡ network_fault n → Writes n o (Err r) o
  unfolding write_fault
  faulty r e = refused_unchanged r (rw (← e, ne_eqb (number_of r) 0 (some r)))

  module _ (fine : network_fault n ≡ 0) where
    pub no_room : length o < length (image n) → Writes n o (Err NoRoomToWrite) o
    unfolding write_fault
    no_room h = refused_unchanged NoRoomToWrite (rw (eq-eqb (network_fault n) 0 fine, lt-ltb (length o) (length (image n)) h))

    pub done : length (image n) ≤ length o → {size : ℕ} {out : List ℕ} → size ≡ length (image n) → out ≡ put o 0 (image n) → Writes n o (Ok size) out
    unfolding write_fault written
    done h e p =
        let none : write_fault n (length o) ≡ 0 = rw (eq-eqb (network_fault n) 0 fine, le-ltb (length o) (length (image n)) h) in
        (rw (none, e), rw none p)
