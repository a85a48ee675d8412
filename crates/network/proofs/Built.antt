-- Networks and lists of records: what a list builds has that list's records, and a network's records build it again, unused places cleared.
use Prim.Native.Nat.{ℕ, zero, suc, ◌+◌, ◌-◌, ◌≤◌}
use mathlib.Core.Path.{◌≡◌, refl, sym, ap, ◌∙◌}
use mathlib.Core.Bool.{false}
use mathlib.Core.List.{List, [], ◌∷◌, ◌++◌, append_assoc, append-nil, map, map-append}
use native.Mathlib.Nat.{add-zero, zero-add}
use native.Mathlib.Numerals.{add-one}
use native.Mathlib.Omega.{arith}
use lib.ListN.{length, drop, set, replicate, length-set, length-replicate}
use lib.Seq.{sets, sets-eq}
use lib.Dec.{ltb}
use borrow.Author.Tests.{ltb-false}
use Rattle.network.specs.declared.Switch.{Switch}
use Rattle.network.specs.declared.Host.{Host}
use Rattle.network.specs.declared.Link.{Link}
use Rattle.network.specs.declared.Network.{Network}
use Rattle.network.specs.declared.Record.{Record}
use Rattle.network.specs.declared.Record.TheVariants.{Switch as OfSwitch, Host as OfHost, Link as OfLink}
use Rattle.network.specs.Network.{most_switches, most_hosts, most_links, no_switch, no_host, no_link, empty_network, up_to, switches_of, hosts_of, links_of, records, add, built, padded, cleared}
use Rattle.network.specs.Checks.{record_fault, records_fault, network_fault, out_of_order}
use Rattle.network.proofs.Lists.{up_to_long, up_to_front, up_to_set}
use Rattle.network.proofs.Bytes.{neither}
use Rattle.network.proofs.Faults.{passes, switch_room, host_room, link_room, none_here, none_behind}

-- the arrays have their sizes and the counts are within them
pub record Shaped (n : Network) : Type 0 where
  pub switches : length n.switches ≡ most_switches
  pub hosts : length n.hosts ≡ most_hosts
  pub links : length n.links ≡ most_links
  pub nswitches : n.nswitches ≤ most_switches
  pub nhosts : n.nhosts ≤ most_hosts
  pub nlinks : n.nlinks ≤ most_links

pub shaped_empty : Shaped empty_network
unfolding empty_network
shaped_empty = record { switches = refl; hosts = refl; links = refl; nswitches = omega arith; nhosts = omega arith; nlinks = omega arith }

pub shaped_add : (n : Network) (r : Record) → Shaped n → record_fault n r ≡ 0 → Shaped (add n r)
unfolding add
shaped_add n (OfSwitch s) v e =
    record {
      switches = length-set n.switches n.nswitches s ∙ v.switches;
      hosts = v.hosts;
      links = v.links;
      nswitches = omega (arith, switch_room n {r = OfSwitch s} refl e);
      nhosts = v.nhosts;
      nlinks = v.nlinks;
    }
shaped_add n (OfHost h) v e =
    record {
      switches = v.switches;
      hosts = length-set n.hosts n.nhosts h ∙ v.hosts;
      links = v.links;
      nswitches = v.nswitches;
      nhosts = omega (arith, host_room n {r = OfHost h} refl e);
      nlinks = v.nlinks;
    }
shaped_add n (OfLink l) v e =
    record {
      switches = v.switches;
      hosts = v.hosts;
      links = length-set n.links n.nlinks l ∙ v.links;
      nswitches = v.nswitches;
      nhosts = v.nhosts;
      nlinks = omega (arith, link_room n {r = OfLink l} refl e);
    }

none_left : (k : ℕ) → ltb 0 k ≡ false → k ≡ 0
none_left k h = let least : k ≤ 0 = ltb-false 0 k h in omega arith

-- kinds never fall: before a switch there are no hosts and no links, before a host no links
pub switch_first : (n : Network) (s : Switch) → record_fault n (OfSwitch s) ≡ 0 → (n.nhosts ≡ 0) × (n.nlinks ≡ 0)
unfolding out_of_order
switch_first n s e =
    let v = neither (ltb 0 n.nhosts) (ltb 0 n.nlinks) (passes n (OfSwitch s) e).order in
    (none_left n.nhosts v.0, none_left n.nlinks v.1)

pub host_second : (n : Network) (h : Host) → record_fault n (OfHost h) ≡ 0 → n.nlinks ≡ 0
unfolding out_of_order
host_second n h e = none_left n.nlinks (neither (ltb 0 n.nlinks) _ (passes n (OfHost h) e).order).0

-- a record without a fault joins the end
pub records_add : (n : Network) (r : Record) → Shaped n → record_fault n r ≡ 0 → records (add n r) ≡ records n ++ (r ∷ [])
unfolding records switches_of hosts_of links_of add up_to
records_add n (OfSwitch s) v e =
    let none = switch_first n s e in
    let room = switch_room n {r = OfSwitch s} refl e in
    rw (none.0, none.1, up_to_set no_switch n.nswitches n.switches s (omega (arith, room, v.switches))) (simp (append-nil, map-append))
records_add n (OfHost h) v e =
    let room = host_room n {r = OfHost h} refl e in
    rw (host_second n h e, up_to_set no_host n.nhosts n.hosts h (omega (arith, room, v.hosts))) (simp (append-nil, append_assoc, map-append))
records_add n (OfLink l) v e =
    let room = link_room n {r = OfLink l} refl e in
    rw (up_to_set no_link n.nlinks n.links l (omega (arith, room, v.links))) (simp (append_assoc, map-append))

-- what a list without a fault builds
pub record Builds (n : Network) (rs : List Record) : Type 0 where
  pub shaped : Shaped (built n rs)
  pub records_are : records (built n rs) ≡ records n ++ rs

pub builds : (rs : List Record) (n : Network) → Shaped n → records_fault n rs ≡ 0 → Builds n rs
unfolding built
builds [] n v e = record { shaped = v; records_are = sym (append-nil (records n)) }
builds (r ∷ rs) n v e =
    let fine = none_here n r rs e in
    let more = builds rs (add n r) (shaped_add n r v fine) (none_behind n r rs e) in
    record {
      shaped = more.shaped;
      records_are = more.records_are ∙ rw (records_add n r v fine) (append_assoc (records n) (r ∷ []) rs);
    }

records_none : records empty_network ≡ []
unfolding records switches_of hosts_of links_of empty_network up_to
records_none = refl

-- the network built of a list has exactly its records
pub built_records : (rs : List Record) → records_fault empty_network rs ≡ 0 → records (built empty_network rs) ≡ rs
built_records rs e = (builds rs empty_network shaped_empty e).records_are ∙ rw records_none

-- one kind of record after the other is stored from the array's first unused place on; `with_kind` is the network but for that array and count
module _ {A : Type 0} (wrap : A → Record) (with_kind : List A → ℕ → Network)
    (store : (xs : List A) (k : ℕ) (x : A) → add (with_kind xs k) (wrap x) ≡ with_kind (set xs k x) (k + 1)) where
  stored : (more : List A) (rs : List Record) (xs : List A) (k : ℕ) → built (with_kind xs k) (map wrap more ++ rs) ≡ built (with_kind (sets xs k more) (k + length more)) rs
  unfolding built
  stored [] rs xs k = rw add-zero
  stored (x ∷ more) rs xs k =
      ap (λ n. built n (map wrap more ++ rs)) (store xs k x)
      ∙ stored more rs (set xs k x) (k + 1)
      ∙ ap (λ m. built (with_kind (sets (set xs k x) m more) (k + 1 + length more)) rs) (add-one k)
      ∙ ap (λ m. built (with_kind (sets (set xs k x) (suc k) more) m) rs) (next (length more))
    where
      next : (m : ℕ) → k + 1 + m ≡ k + suc m
      next m = omega arith

drop_unused : {A : Type 0} (unused : A) (k m : ℕ) → drop k (replicate m unused) ≡ replicate (m - k) unused
drop_unused unused zero m = rw (none m)
  where
    none : (x : ℕ) → x - 0 ≡ x
    none x = omega arith
drop_unused unused (suc k) zero = rw (all (suc k))
  where
    all : (x : ℕ) → 0 - x ≡ 0
    all x = omega arith
drop_unused unused (suc k) (suc m) = drop_unused unused k m ∙ ap (λ x. replicate x unused) (both m k)
  where
    both : (x y : ℕ) → x - y ≡ suc x - suc y
    both x y = omega arith

-- stored into an array of unused places
all_stored : {A : Type 0} (unused : A) (m : ℕ) (xs : List A) → length xs ≤ m → sets (replicate m unused) 0 xs ≡ padded unused m xs
all_stored unused m xs h =
    sets-eq xs (replicate m unused) 0 (omega (arith, length-replicate m unused))
    ∙ ap (λ l. xs ++ l) (ap (λ k. drop k (replicate m unused)) (zero-add (length xs)) ∙ drop_unused unused (length xs) m)

abbrev net : List Switch → List Host → List Link → ℕ → ℕ → ℕ → Network
net ss hs ls i j k = record { switches = ss; hosts = hs; links = ls; nswitches = i; nhosts = j; nlinks = k }

-- the arrays of the network that a network's records build
again_switches : Network → List Switch
again_switches n = sets (replicate most_switches no_switch) 0 (switches_of n)

again_hosts : Network → List Host
again_hosts n = sets (replicate most_hosts no_host) 0 (hosts_of n)

again_links : Network → List Link
again_links n = sets (replicate most_links no_link) 0 (links_of n)

built_again : (n : Network) → built empty_network (records n) ≡ net (again_switches n) (again_hosts n) (again_links n) (0 + length (switches_of n)) (0 + length (hosts_of n)) (0 + length (links_of n))
unfolding records empty_network add built again_switches again_hosts again_links
built_again n =
    let ss = replicate most_switches no_switch in
    let hs = replicate most_hosts no_host in
    let ls = replicate most_links no_link in
    let links = map (λ (l : Link). OfLink l) (links_of n) in
    stored (λ (s : Switch). OfSwitch s) (λ xs k. net xs hs ls k 0 0) (λ xs k x. refl) (switches_of n) (map (λ (h : Host). OfHost h) (hosts_of n) ++ links) ss 0
    ∙ stored (λ (h : Host). OfHost h) (λ xs k. net (again_switches n) xs ls (0 + length (switches_of n)) k 0) (λ xs k x. refl) (hosts_of n) links hs 0
    ∙ ap (λ rs. built (net (again_switches n) (again_hosts n) ls (0 + length (switches_of n)) (0 + length (hosts_of n)) 0) rs) (sym (append-nil links))
    ∙ stored (λ (l : Link). OfLink l) (λ xs k. net (again_switches n) (again_hosts n) xs (0 + length (switches_of n)) (0 + length (hosts_of n)) k) (λ xs k x. refl) (links_of n) [] ls 0

-- the counts of the lists
pub switches_long : (n : Network) → length (switches_of n) ≡ n.nswitches
unfolding switches_of
switches_long n = up_to_long no_switch n.nswitches n.switches

pub hosts_long : (n : Network) → length (hosts_of n) ≡ n.nhosts
unfolding hosts_of
hosts_long n = up_to_long no_host n.nhosts n.hosts

pub links_long : (n : Network) → length (links_of n) ≡ n.nlinks
unfolding links_of
links_long n = up_to_long no_link n.nlinks n.links

-- an accepted network counts no more than its arrays have
pub record Counted (n : Network) : Type 0 where
  pub switches : n.nswitches ≤ most_switches
  pub hosts : n.nhosts ≤ most_hosts
  pub links : n.nlinks ≤ most_links

pub counted : (n : Network) → network_fault n ≡ 0 → Counted n
unfolding network_fault
counted n e =
    let v = rw (built_again n) at (builds (records n) empty_network shaped_empty e).shaped in
    record {
      switches = omega (arith, v.nswitches, switches_long n);
      hosts = omega (arith, v.nhosts, hosts_long n);
      links = omega (arith, v.nlinks, links_long n);
    }

-- an accepted network's records build it again, its unused places cleared
pub built_cleared : (n : Network) → network_fault n ≡ 0 → built empty_network (records n) ≡ cleared n
unfolding cleared again_switches again_hosts again_links
built_cleared n e =
    let v = counted n e in
    built_again n
    ∙ rw (
      all_stored no_switch most_switches (switches_of n) (omega (arith, switches_long n)),
      all_stored no_host most_hosts (hosts_of n) (omega (arith, hosts_long n)),
      all_stored no_link most_links (links_of n) (omega (arith, links_long n)),
      zero-add (length (switches_of n)),
      zero-add (length (hosts_of n)),
      zero-add (length (links_of n)),
      switches_long n,
      hosts_long n,
      links_long n,
    )

-- clearing changes no switch, host or link, and so no record
module _ (n : Network) where
  pub cleared_switches : switches_of (cleared n) ≡ switches_of n
  unfolding cleared switches_of
  cleared_switches = up_to_front no_switch (switches_of n) _ (switches_long n)

  pub cleared_hosts : hosts_of (cleared n) ≡ hosts_of n
  unfolding cleared hosts_of
  cleared_hosts = up_to_front no_host (hosts_of n) _ (hosts_long n)

  pub cleared_links : links_of (cleared n) ≡ links_of n
  unfolding cleared links_of
  cleared_links = up_to_front no_link (links_of n) _ (links_long n)

  pub cleared_records : records (cleared n) ≡ records n
  unfolding records
  cleared_records = rw (cleared_switches, cleared_hosts, cleared_links)
