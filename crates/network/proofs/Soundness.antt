-- An accepted network is sound: each record that passes its checks keeps the network of those before it so.
use Prim.Native.Nat.{ℕ, zero, suc, ◌/◌, ◌<◌, ◌^◌, ◌≤◌}
use mathlib.Core.Path.{◌≡◌, refl, sym, ap, ◌∙◌}
use mathlib.Core.Logic.{⊎_elim, by_cases, ◌≢◌}
use mathlib.Core.Bool.{Bool, false, not, ◌||◌}
use mathlib.Core.List.{List, [], ◌∷◌, ◌++◌}
use native.Mathlib.Nat.{le_of_suc-le-suc, mod-lt, not-suc-le-zero}
use native.Mathlib.Omega.{arith}
use lib.ListN.{length, get_or, length-append, get_or-append}
use lib.Seq.{get_or-append_seam}
use native.Mathlib.Decide.{ℕ_discrete}
use lib.Dec.{eqb, leb}
use borrow.Author.Tests.{leb-false, eqb-false, not-false}
use Rattle.network.specs.declared.Port.{Port}
use Rattle.network.specs.declared.Switch.{Switch}
use Rattle.network.specs.declared.Host.{Host}
use Rattle.network.specs.declared.Link.{Link}
use Rattle.network.specs.declared.Network.{Network}
use Rattle.network.specs.declared.Record.{Record}
use Rattle.network.specs.declared.Record.TheVariants.{Switch as OfSwitch, Host as OfHost, Link as OfLink}
use Rattle.network.specs.Network.{most_switches, most_hosts, most_links, no_switch, no_host, no_link, empty_network, up_to, switches_of, hosts_of, links_of, records, add, built}
use Rattle.wire.specs.Address.{group_bit}
use Rattle.network.specs.Checks.{any, place, host_on, link_on, has_address, taken, stands, out_of_order, out_of_range, port_taken, address_out, bad_address, record_fault, records_fault, network_fault}
use Rattle.network.specs.Sound.{FineSwitch, FineHost, FineLink, EndsOn, SoundOf, Sound, AcceptedIsSound}
use Rattle.network.proofs.Lists.{up_to_set}
use Rattle.network.proofs.Bytes.{neither}
use Rattle.network.proofs.Causes.{standing_words, switch_fine}
use Rattle.network.proofs.Faults.{Passes, passes, switch_room, host_room, link_room, none_here, none_behind}
use Rattle.network.proofs.Built.{built_cleared, cleared_switches, cleared_hosts, cleared_links, Shaped, shaped_empty, shaped_add, switch_first, host_second, switches_long, hosts_long, links_long}

-- what holds of every element of a list, and of one more behind it
module _ {A : Type 0} (d : A) (xs : List A) (x : A) where
  earlier : (i : ℕ) → i < length (xs ++ (x ∷ [])) → i ≢ length xs → i < length xs
  earlier i h e = omega (arith, length-append xs (x ∷ []))

  old : (i : ℕ) → i < length xs → get_or (xs ++ (x ∷ [])) i d ≡ get_or xs i d
  old i h = get_or-append xs (x ∷ []) d i h

  new : get_or (xs ++ (x ∷ [])) (length xs) d ≡ x
  new = get_or-append_seam xs x [] d

  all_more : (P : A → Type 0) → ((i : ℕ) → i < length xs → P (get_or xs i d)) → P x → (i : ℕ) → i < length (xs ++ (x ∷ [])) → P (get_or (xs ++ (x ∷ [])) i d)
  all_more P each one i h = by_cases (ℕ_discrete i (length xs)) (λ e. rw (e, new) one) (λ e. rw (old i (earlier i h e)) (each i (earlier i h e)))

  -- no two of them are related, and none to the new one
  once_more : (R : A → A → Type 0) → ((i j : ℕ) → i < length xs → j < length xs → R (get_or xs i d) (get_or xs j d) → i ≡ j)
      → ((i : ℕ) → i < length xs → R (get_or xs i d) x → ⊥) → ((i : ℕ) → i < length xs → R x (get_or xs i d) → ⊥)
      → (i j : ℕ) → i < length (xs ++ (x ∷ [])) → j < length (xs ++ (x ∷ [])) → R (get_or (xs ++ (x ∷ [])) i d) (get_or (xs ++ (x ∷ [])) j d) → i ≡ j
  once_more R once before behind i j hi hj r =
      by_cases (ℕ_discrete i (length xs))
      (λ e. by_cases (ℕ_discrete j (length xs)) (λ f. e ∙ sym f) (λ f. absurd (behind j (earlier j hj f) (rw (e, new, old j (earlier j hj f)) at r))))
      (λ e.
      by_cases (ℕ_discrete j (length xs))
      (λ f. absurd (before i (earlier i hi e) (rw (f, new, old i (earlier i hi e)) at r)))
      (λ f. once i j (earlier i hi e) (earlier j hj f) (rw (old i (earlier i hi e), old j (earlier j hj f)) at r)))

-- no element that a failed search passed
any_none : {A : Type 0} (test : A → Bool) (d : A) (xs : List A) → any test xs ≡ false → (i : ℕ) → i < length xs → test (get_or xs i d) ≡ false
unfolding any
any_none test d [] e i h = absurd (not-suc-le-zero h)
any_none test d (x ∷ xs) e zero h = (neither (test x) (any test xs) e).0
any_none test d (x ∷ xs) e (suc i) h = any_none test d xs (neither (test x) (any test xs) e).1 i (le_of_suc-le-suc h)

-- switches alone
switches_alone : (ss : List Switch) → length ss ≤ most_switches → ((i : ℕ) → i < length ss → FineSwitch (get_or ss i no_switch)) → SoundOf ss [] []
switches_alone ss few fine =
    record {
      few_switches = few;
      few_hosts = omega arith;
      few_links = omega arith;
      switch = fine;
      host = λ i h. absurd (not-suc-le-zero h);
      link = λ i h. absurd (not-suc-le-zero h);
      address_once = λ i j h. absurd (not-suc-le-zero h);
      host_alone = λ i j h. absurd (not-suc-le-zero h);
      host_or_link = λ i j h. absurd (not-suc-le-zero h);
      link_alone = λ p i j h. absurd (not-suc-le-zero h);
    }

-- one switch, host or link more
module _ {ss : List Switch} where
  sound_switch : SoundOf ss [] [] → {s : Switch} → length ss < most_switches → FineSwitch s → SoundOf (ss ++ (s ∷ [])) [] []
  sound_switch v {s} room fine =
      switches_alone (ss ++ (s ∷ [])) (omega (arith, length-append ss (s ∷ []))) (all_more no_switch ss s (λ x. FineSwitch x) v.switch fine)

  sound_host : {hs : List Host} → SoundOf ss hs [] → {h : Host} → length hs < most_hosts → FineHost ss h
      → ((i : ℕ) → i < length hs → (get_or hs i no_host).address ≡ h.address → ⊥) → ((i : ℕ) → i < length hs → (get_or hs i no_host).port ≡ h.port → ⊥)
      → SoundOf ss (hs ++ (h ∷ [])) []
  sound_host {hs} v {h} room fine address port =
      record {
        few_switches = v.few_switches;
        few_hosts = omega (arith, length-append hs (h ∷ []));
        few_links = v.few_links;
        switch = v.switch;
        host = all_more no_host hs h (λ x. FineHost ss x) v.host fine;
        link = v.link;
        address_once = once_more no_host hs h (λ x y. x.address ≡ y.address) v.address_once address (λ i q e. address i q (sym e));
        host_alone = once_more no_host hs h (λ x y. x.port ≡ y.port) v.host_alone port (λ i q e. port i q (sym e));
        host_or_link = λ i j q r. absurd (not-suc-le-zero r);
        link_alone = v.link_alone;
      }

  sound_link : {hs : List Host} {ls : List Link} → SoundOf ss hs ls → {l : Link} → length ls < most_links → FineLink ss l
      → ((i : ℕ) → i < length hs → EndsOn (get_or hs i no_host).port l → ⊥) → ((p : Port) (i : ℕ) → i < length ls → EndsOn p (get_or ls i no_link) → EndsOn p l → ⊥)
      → SoundOf ss hs (ls ++ (l ∷ []))
  sound_link {hs} {ls} v {l} room fine host link =
      record {
        few_switches = v.few_switches;
        few_hosts = v.few_hosts;
        few_links = omega (arith, length-append ls (l ∷ []));
        switch = v.switch;
        host = v.host;
        link = all_more no_link ls l (λ x. FineLink ss x) v.link fine;
        address_once = v.address_once;
        host_alone = v.host_alone;
        host_or_link = λ i j q. all_more no_link ls l (λ x. EndsOn (get_or hs i no_host).port x → ⊥) (λ k. v.host_or_link i k q) (host i q) j;
        link_alone = λ p i j hi hj a b.
            once_more no_link ls l (λ x y. EndsOn p x × EndsOn p y) (λ i j hi hj r. v.link_alone p i j hi hj r.0 r.1)
            (λ i q r. link p i q r.0 r.1) (λ i q r. link p i q r.1 r.0) i j hi hj (a, b);
      }

-- what the tests say
module _ (n : Network) where
  -- a port that isn't taken has no host's cable and no link's end
  module _ (p : Port) (free : taken n p ≡ false) where
    no_host_lem : (i : ℕ) → i < length (hosts_of n) → (get_or (hosts_of n) i no_host).port ≡ p → ⊥
    unfolding taken
    no_host_lem i h e =
        let none = (neither (any (host_on (place p)) (hosts_of n)) (any (link_on (place p)) (links_of n)) free).0 in
        eqb-false _ _ (any_none (host_on (place p)) no_host (hosts_of n) none i h) (ap place e)

    no_link_lem : (i : ℕ) → i < length (links_of n) → EndsOn p (get_or (links_of n) i no_link) → ⊥
    unfolding taken
    no_link_lem i h e =
        let none = (neither (any (host_on (place p)) (hosts_of n)) (any (link_on (place p)) (links_of n)) free).1 in
        let ends = neither _ _ (any_none (link_on (place p)) no_link (links_of n) none i h) in
        ⊎_elim (λ q. eqb-false _ _ ends.0 (ap place q)) (λ q. eqb-false _ _ ends.1 (ap place q)) e

  new_host : (h : Host) → Passes n (OfHost h) → FineHost (switches_of n) h
  unfolding out_of_range bad_address address_out
  new_host h v =
      let range = neither (not (stands n h.port)) (leb (2 ^ 48) h.address) v.range in
      let out = neither _ (any (has_address h.address) (hosts_of n)) v.address in
      let plain = neither (eqb h.address 0) (eqb (group_bit h.address) 1) out.0 in
      record {
        port = (standing_words n h.port).0 (not-false _ range.0);
        address = record { nonzero = eqb-false _ _ plain.0; below = leb-false _ _ range.1; single = clear h.address (eqb-false _ _ plain.1) };
      }
    where
      clear : (x : ℕ) → group_bit x ≢ 1 → group_bit x ≡ 0
      clear x d = let small : group_bit x < 2 = mod-lt (x / 2 ^ 40) (omega arith) in omega arith

  new_address : (h : Host) → Passes n (OfHost h) → (i : ℕ) → i < length (hosts_of n) → (get_or (hosts_of n) i no_host).address ≡ h.address → ⊥
  unfolding bad_address address_out
  new_address h v i q e =
      let out = neither (eqb h.address 0 || eqb (group_bit h.address) 1) (any (has_address h.address) (hosts_of n)) v.address in
      eqb-false _ _ (any_none (has_address h.address) no_host (hosts_of n) out.1 i q) e

  new_link : (l : Link) → Passes n (OfLink l) → FineLink (switches_of n) l
  unfolding out_of_range out_of_order
  new_link l v =
      let range = neither (not (stands n l.first)) (not (stands n l.second)) v.range in
      let below : place l.first < place l.second = leb-false _ _ (neither (leb (place l.second) (place l.first)) _ v.order).0 in
      record {
        first = (standing_words n l.first).0 (not-false _ range.0);
        second = (standing_words n l.second).0 (not-false _ range.1);
        two = λ e. differ (place l.first) (place l.second) below (ap place e);
      }
    where
      differ : (a b : ℕ) → a < b → a ≡ b → ⊥
      differ a b h e = omega arith

  free_ends : (l : Link) → Passes n (OfLink l) → (taken n l.first ≡ false) × (taken n l.second ≡ false)
  unfolding port_taken
  free_ends l v = neither (taken n l.first) (taken n l.second) v.free

  free_port : (h : Host) → Passes n (OfHost h) → taken n h.port ≡ false
  unfolding port_taken
  free_port h v = v.free

  no_hosts : n.nhosts ≡ 0 → hosts_of n ≡ []
  unfolding hosts_of up_to
  no_hosts e = rw e

  no_links : n.nlinks ≡ 0 → links_of n ≡ []
  unfolding links_of up_to
  no_links e = rw e

-- the lists with the record's element at their end
module _ (n : Network) (shape : Shaped n) where
  switches_more : (s : Switch) → record_fault n (OfSwitch s) ≡ 0 → switches_of (add n (OfSwitch s)) ≡ switches_of n ++ (s ∷ [])
  unfolding switches_of add
  switches_more s e = up_to_set no_switch n.nswitches n.switches s (omega (arith, switch_room n {r = OfSwitch s} refl e, shape.switches))

  hosts_more : (h : Host) → record_fault n (OfHost h) ≡ 0 → hosts_of (add n (OfHost h)) ≡ hosts_of n ++ (h ∷ [])
  unfolding hosts_of add
  hosts_more h e = up_to_set no_host n.nhosts n.hosts h (omega (arith, host_room n {r = OfHost h} refl e, shape.hosts))

  links_more : (l : Link) → record_fault n (OfLink l) ≡ 0 → links_of (add n (OfLink l)) ≡ links_of n ++ (l ∷ [])
  unfolding links_of add
  links_more l e = up_to_set no_link n.nlinks n.links l (omega (arith, link_room n {r = OfLink l} refl e, shape.links))

same_lists : {ss ss' : List Switch} {hs hs' : List Host} {ls ls' : List Link} → ss ≡ ss' → hs ≡ hs' → ls ≡ ls' → SoundOf ss' hs' ls' → SoundOf ss hs ls
same_lists p q r v = rw (p, q, r) v

sound_add : (n : Network) (r : Record) → Shaped n → record_fault n r ≡ 0 → Sound n → Sound (add n r)
unfolding add switches_of hosts_of links_of out_of_range
sound_add n (OfSwitch s) shape e v =
    let none = switch_first n s e in
    let empty : SoundOf (switches_of n) [] [] = same_lists refl (sym (no_hosts n none.0)) (sym (no_links n none.1)) v in
    same_lists (switches_more n shape s e) (no_hosts n none.0) (no_links n none.1)
    (sound_switch empty (omega (arith, switches_long n, switch_room n {r = OfSwitch s} refl e)) (switch_fine s (passes n (OfSwitch s) e).range))
sound_add n (OfHost h) shape e v =
    let none = host_second n h e in
    let pass = passes n (OfHost h) e in
    let empty : SoundOf (switches_of n) (hosts_of n) [] = same_lists refl refl (sym (no_links n none)) v in
    same_lists refl (hosts_more n shape h e) (no_links n none)
    (sound_host empty (omega (arith, hosts_long n, host_room n {r = OfHost h} refl e)) (new_host n h pass) (new_address n h pass) (no_host_lem n h.port (free_port n h pass)))
sound_add n (OfLink l) shape e v =
    let pass = passes n (OfLink l) e in
    let free = free_ends n l pass in
    same_lists refl refl (links_more n shape l e)
    (sound_link v (omega (arith, links_long n, link_room n {r = OfLink l} refl e)) (new_link n l pass)
    (λ i q. ⊎_elim (λ p. no_host_lem n l.first free.0 i q (sym p)) (λ p. no_host_lem n l.second free.1 i q (sym p)))
    (λ p i q here. ⊎_elim (λ x. no_link_lem n l.first free.0 i q (rw x here)) (λ x. no_link_lem n l.second free.1 i q (rw x here))))

sound_built : (rs : List Record) (n : Network) → Shaped n → Sound n → records_fault n rs ≡ 0 → Sound (built n rs)
unfolding built
sound_built [] n shape v e = v
sound_built (r ∷ rs) n shape v e =
    let fine = none_here n r rs e in
    sound_built rs (add n r) (shaped_add n r shape fine) (sound_add n r shape fine v) (none_behind n r rs e)

sound_empty : Sound empty_network
unfolding empty_network switches_of hosts_of links_of up_to
sound_empty = switches_alone [] (omega arith) (λ i h. absurd (not-suc-le-zero h))

pub accepted_is_sound : AcceptedIsSound
unfolding network_fault
accepted_is_sound n e =
    let v = rw (built_cleared n e) at (sound_built (records n) empty_network shaped_empty sound_empty e) in
    same_lists (sym (cleared_switches n)) (sym (cleared_hosts n)) (sym (cleared_links n)) v
