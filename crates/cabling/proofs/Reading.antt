-- What stands at a place once all are plugged in: the number of one that is plugged in there, or what stood there before.
use mathlib.Core.Path.{◌≡◌, refl, sym, ◌∙◌}
use mathlib.Core.Logic.{◌⊎◌, inl, inr, ⊎_elim, by_cases}
use mathlib.Core.Bool.{Bool, true, false}
use mathlib.Core.List.{List}
use Prim.Native.Nat.{ℕ, zero, suc, ◌+◌, ◌*◌, ◌-◌, ◌/◌, ◌%◌, ◌<◌, ◌≤◌, min}
use native.Mathlib.Decide.{ℕ_discrete}
use native.Mathlib.Nat.{min-eq_left}
use native.Mathlib.Omega.{arith}
use lib.ListN.{length, get_or, set, replicate, length-set, get_or-replicate}
use lib.Dec.{eqb, ltb}
use borrow.Author.Tests.{lt-ltb, le-ltb, eq-eqb, ne_eqb}
use lib.Seq.{get_or-set_same, get_or-set_other}
use Rattle.network.specs.declared.Host.{Host}
use Rattle.network.specs.declared.Link.{Link}
use Rattle.network.specs.declared.Network.{Network}
use Rattle.network.specs.Network.{no_host, most_hosts, most_links}
use Rattle.cabling.specs.declared.End.{End}
use Rattle.cabling.specs.declared.Plug.TheVariants.{Host as OfHost, Link as OfLink}
use Rattle.cabling.specs.Cabling.{first_of, second_of, port_of, host_at, places, place_of, host_plug, end_plug, plug_host, plug_link, plug_all, plugs_of, plug_in}

-- one of so many has put a number where it stands
pub record Put (Puts : ℕ → ℕ → Type 0) (count number : ℕ) : Type 0 where
  pub which : ℕ
  pub within : which < count
  pub puts : Puts which number

-- none of so many puts anything there, and what stands there is what stood there
pub record Left (Puts : ℕ → ℕ → Type 0) (count number before : ℕ) : Type 0 where
  pub none : (i x : ℕ) → i < count → Puts i x → ⊥
  pub same : number ≡ before

-- `Puts i x` says that i puts number x at the place
module _ (plug : ℕ → List ℕ → List ℕ) (keeps : (i : ℕ) (ps : List ℕ) → length (plug i ps) ≡ length ps) where
  pub all_long : (count : ℕ) (ps : List ℕ) → length (plug_all plug count ps) ≡ length ps
  unfolding plug_all
  all_long zero ps = refl
  all_long (suc i) ps = keeps i (plug_all plug i ps) ∙ all_long i ps

  module _ (place : ℕ) (Puts : ℕ → ℕ → Type 0)
      (each : (i : ℕ) (ps : List ℕ) → place < length ps → Puts i (get_or (plug i ps) place 0) ⊎ (((x : ℕ) → Puts i x → ⊥) × (get_or (plug i ps) place 0 ≡ get_or ps place 0))) where
    pub all_read : (count : ℕ) (ps : List ℕ) → place < length ps
        → Put Puts count (get_or (plug_all plug count ps) place 0) ⊎ Left Puts count (get_or (plug_all plug count ps) place 0) (get_or ps place 0)
    unfolding plug_all
    all_read zero ps h = inr (record { none = λ i x l p. omega arith; same = refl })
    all_read (suc k) ps h =
        ⊎_elim (λ p. inl (record { which = k; within = omega arith; puts = p }))
        (λ left. ⊎_elim (λ q. inl (record { which = q.which; within = omega (arith, q.within); puts = earlier k ps q left }))
        (λ q. inr (record { none = none k ps q left; same = left.1 ∙ q.same })) (all_read k ps h))
        (each k (plug_all plug k ps) (rw (all_long k ps) h))
      where
        earlier : (k : ℕ) (ps : List ℕ) (q : Put Puts k (get_or (plug_all plug k ps) place 0))
            → (((x : ℕ) → Puts k x → ⊥) × (get_or (plug k (plug_all plug k ps)) place 0 ≡ get_or (plug_all plug k ps) place 0))
            → Puts q.which (get_or (plug k (plug_all plug k ps)) place 0)
        earlier k ps q left = rw left.1 q.puts

        none : (k : ℕ) (ps : List ℕ) → Left Puts k (get_or (plug_all plug k ps) place 0) (get_or ps place 0)
            → (((x : ℕ) → Puts k x → ⊥) × (get_or (plug k (plug_all plug k ps)) place 0 ≡ get_or (plug_all plug k ps) place 0))
            → (i x : ℕ) → i < suc k → Puts i x → ⊥
        none k ps q left i x l p = by_cases (ℕ_discrete i k) (λ e. left.0 x (rw e at p)) (λ d. q.none i x (omega arith) p)

-- host i's number, or an end's of link i, at a place
pub record HostPuts (hs : List Host) (place i number : ℕ) : Type 0 where
  pub there : place_of (get_or hs i no_host).port ≡ place
  pub is : number ≡ host_plug i

pub record EndPuts (n : Network) (place i number : ℕ) : Type 0 where
  pub second : Bool
  pub there : place_of (port_of n (record { link = i; second = second })) ≡ place
  pub is : number ≡ end_plug (record { link = i; second = second })

host_keeps : (hs : List Host) (i : ℕ) (ps : List ℕ) → length (plug_host hs i ps) ≡ length ps
unfolding plug_host
host_keeps hs i ps = length-set ps _ _

host_each : (hs : List Host) (place i : ℕ) (ps : List ℕ) → place < length ps
    → HostPuts hs place i (get_or (plug_host hs i ps) place 0) ⊎ (((x : ℕ) → HostPuts hs place i x → ⊥) × (get_or (plug_host hs i ps) place 0 ≡ get_or ps place 0))
unfolding plug_host
host_each hs place i ps h =
    by_cases (ℕ_discrete (place_of (get_or hs i no_host).port) place)
    (λ e. inl (record { there = e; is = rw e (get_or-set_same ps place (host_plug i) 0 h) }))
    (λ d. inr ((λ x p. d p.there), get_or-set_other ps _ place (host_plug i) 0 (λ e. d (sym e))))

link_keeps : (ls : List Link) (i : ℕ) (ps : List ℕ) → length (plug_link ls i ps) ≡ length ps
unfolding plug_link
link_keeps ls i ps = length-set (set ps _ _) _ _ ∙ length-set ps _ _

link_each : (n : Network) (place i : ℕ) (ps : List ℕ) → place < length ps
    → EndPuts n place i (get_or (plug_link n.links i ps) place 0) ⊎ (((x : ℕ) → EndPuts n place i x → ⊥) × (get_or (plug_link n.links i ps) place 0 ≡ get_or ps place 0))
unfolding plug_link port_of
link_each n place i ps h =
    let first = place_of (port_of n (first_of i)) in
    let second = place_of (port_of n (second_of i)) in
    let half = set ps first (end_plug (first_of i)) in
    by_cases (ℕ_discrete second place)
    (λ e. inl (record { second = true; there = e; is = rw e (get_or-set_same half place (end_plug (second_of i)) 0 (rw (length-set ps first (end_plug (first_of i))) h)) }))
    (λ d.
    let over = get_or-set_other half second place (end_plug (second_of i)) 0 (λ e. d (sym e)) in
    by_cases (ℕ_discrete first place)
    (λ e. inl (record { second = false; there = e; is = over ∙ rw e (get_or-set_same ps place (end_plug (first_of i)) 0 h) }))
    (λ c. inr ((λ x p. neither p.second d c p.there), over ∙ get_or-set_other ps first place (end_plug (first_of i)) 0 (λ e. c (sym e)))))
  where
    neither : (second : Bool) → (place_of (port_of n (second_of i)) ≡ place → ⊥) → (place_of (port_of n (first_of i)) ≡ place → ⊥) → place_of (port_of n (record { link = i; second = second })) ≡ place → ⊥
    neither true d c = d
    neither false d c = c

-- what is at a place of an accepted network: an end of a link, a host, or nothing
pub data Way (n : Network) (place number : ℕ) : Type 0 where
  of_end : (e : End) → e.link < n.nlinks → place_of (port_of n e) ≡ place → number ≡ end_plug e → Way n place number
  of_host : (i : ℕ) → i < n.nhosts → place_of (host_at n i).port ≡ place → number ≡ host_plug i → Way n place number
  of_none : ((e : End) → e.link < n.nlinks → place_of (port_of n e) ≡ place → ⊥) → ((i : ℕ) → i < n.nhosts → place_of (host_at n i).port ≡ place → ⊥) → number ≡ 0 → Way n place number

module _ (n : Network) (hosts : n.nhosts ≤ most_hosts) (links : n.nlinks ≤ most_links) (place : ℕ) (h : place < places) where
  fresh : List ℕ
  fresh = replicate places 0

  cabled : List ℕ
  cabled = plug_all (plug_host n.hosts) n.nhosts fresh

  all : plugs_of n ≡ plug_all (plug_link n.links) n.nlinks cabled
  unfolding plugs_of cabled fresh
  all = rw (min-eq_left links, min-eq_left hosts)

  pub way : Way n place (get_or (plugs_of n) place 0)
  unfolding cabled fresh
  way =
      rw all
      (⊎_elim (λ p. of_end (record { link = p.which; second = p.puts.second }) p.within p.puts.there p.puts.is)
      (λ (left : Left (EndPuts n place) n.nlinks (get_or (plug_all (plug_link n.links) n.nlinks cabled) place 0) (get_or cabled place 0)).
      ⊎_elim (λ (p : Put (HostPuts n.hosts place) n.nhosts (get_or cabled place 0)). of_host p.which p.within p.puts.there (left.same ∙ p.puts.is))
      (λ (none : Left (HostPuts n.hosts place) n.nhosts (get_or cabled place 0) (get_or fresh place 0)).
      of_none (λ e l q. left.none e.link (end_plug e) l (record { second = e.second; there = q; is = refl }))
      (λ i l q. none.none i (host_plug i) l (record { there = q; is = refl })) (left.same ∙ none.same ∙ get_or-replicate places place 0 0 h))
      (all_read (plug_host n.hosts) (host_keeps n.hosts) place (HostPuts n.hosts place) (host_each n.hosts place) n.nhosts fresh h))
      (all_read (plug_link n.links) (link_keeps n.links) place (EndPuts n place) (link_each n place) n.nlinks cabled
      (rw (all_long (plug_host n.hosts) (host_keeps n.hosts) n.nhosts fresh) h)))

pub plugs_length : (n : Network) → length (plugs_of n) ≡ places
unfolding plugs_of
plugs_length n =
    all_long (plug_link n.links) (link_keeps n.links) (min n.nlinks most_links) _
    ∙ all_long (plug_host n.hosts) (host_keeps n.hosts) (min n.nhosts most_hosts) (replicate places 0)

-- a number stands for what it was made of
pub host_in_lem : (i : ℕ) → i < most_hosts → plug_in (host_plug i) ≡ OfHost i
unfolding plug_in
host_in_lem i h =
    let a : ltb (1 + i) 1 ≡ false = le-ltb (1 + i) 1 (omega arith) in
    let b : ltb (1 + i) 33 ≡ true = lt-ltb (1 + i) 33 (omega arith) in
    let e : 1 + i - 1 ≡ i = omega arith in
    rw (a, b, e)

pub end_in : (e : End) → plug_in (end_plug e) ≡ OfLink e
unfolding plug_in
end_in e = either e.link e.second
  where
    either : (l : ℕ) (b : Bool) → plug_in (end_plug (record { link = l; second = b })) ≡ OfLink (record { link = l; second = b })
    either l true =
        let a : ltb (34 + 2 * l) 1 ≡ false = le-ltb (34 + 2 * l) 1 (omega arith) in
        let b : ltb (34 + 2 * l) 33 ≡ false = le-ltb (34 + 2 * l) 33 (omega arith) in
        let half : (34 + 2 * l - 33) / 2 ≡ l = omega arith in
        let odd : eqb ((34 + 2 * l - 33) % 2) 1 ≡ true = eq-eqb ((34 + 2 * l - 33) % 2) 1 (omega arith) in
        rw (a, b, half, odd)
    either l false =
        let a : ltb (33 + 2 * l) 1 ≡ false = le-ltb (33 + 2 * l) 1 (omega arith) in
        let b : ltb (33 + 2 * l) 33 ≡ false = le-ltb (33 + 2 * l) 33 (omega arith) in
        let half : (33 + 2 * l - 33) / 2 ≡ l = omega arith in
        let even : eqb ((33 + 2 * l - 33) % 2) 1 ≡ false = ne_eqb ((33 + 2 * l - 33) % 2) 1 (λ q. omega arith) in
        rw (a, b, half, even)
