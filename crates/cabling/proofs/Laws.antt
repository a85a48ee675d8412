-- What callers cite: what is plugged in where, which ports a mask names, and what a setup follows from. An accepted network is one without a fault.
use mathlib.Core.Path.{◌≡◌, refl, sym, ap, ◌∙◌}
use mathlib.Core.Logic.{◌≢◌, by_cases}
use mathlib.Core.Bool.{Bool, true, false, not-not}
use mathlib.Core.List.{List}
use Prim.Native.Nat.{ℕ, ◌+◌, ◌*◌, ◌^◌, ◌<◌, ◌≤◌}
use native.Mathlib.Decide.{dec_lt}
use native.Mathlib.Omega.{arith}
use lib.ListN.{length, get_or, set, get_or-eq_default}
use lib.Seq.{get_or-set_other}
use borrow.Author.Tests.{lt-ltb}
use Rattle.network.specs.declared.Port.{Port}
use Rattle.network.specs.declared.Network.{Network}
use Rattle.network.specs.Checks.{network_fault}
use Rattle.network.proofs.Laws.{limit_range}
use Rattle.rules.specs.Mask.{names}
use Rattle.rules.proofs.Bits.{names_none, names_below}
use Rattle.cabling.specs.declared.End.{End}
use Rattle.cabling.specs.declared.Plug.{Plug}
use Rattle.cabling.specs.declared.Plug.TheVariants.{Open, Host as OfHost, Link as OfLink}
use Rattle.cabling.specs.Cabling.{first_of, second_of, other_end, port_of, switch_at, host_at, most_ports, Stands, places, place_of, plug_in, plugs_of, plug_at, is_live, is_hosts, mask_of, setup_of, FineSetup}
use Rattle.cabling.proofs.Masks as masks
use Rattle.cabling.proofs.Setups as setups
use Rattle.cabling.proofs.Standing as standing
use Rattle.cabling.proofs.Standing.{same_port}
use Rattle.cabling.proofs.Reading as reading
use Rattle.cabling.proofs.Reading.{Way, of_end, of_host, of_none, host_in_lem, end_in}

-- ---- Masks

-- a mask of n ports has no bit above them
pub mask_below : (is : ℕ → Bool) (n : ℕ) → mask_of is n < 2 ^ n
mask_below = masks.mask_below

-- it names those for which it holds
pub names_mask : (is : ℕ → Bool) (n p : ℕ) → p < n → names (mask_of is n) p ≡ is p
names_mask = masks.names_mask

-- and no other
pub names_above : (is : ℕ → Bool) (n p : ℕ) → n ≤ p → names (mask_of is n) p ≡ false
names_above is n p h = names_none n (mask_of is n) p (mask_below is n) h

named : (is : ℕ → Bool) (n p : ℕ) → names (mask_of is n) p ≡ true → (p < n) × (is p ≡ true)
named is n p e = let h = names_below n (mask_of is n) p (mask_below is n) e in (h, sym (names_mask is n p h) ∙ e)

-- ---- Plugs

-- there is a number for each place
pub plugs_length : (n : Network) → length (plugs_of n) ≡ places
plugs_length = reading.plugs_length

-- nothing is plugged in from port 8 on
pub plug_above : (ps : List ℕ) (k p : ℕ) → most_ports ≤ p → plug_at ps k p ≡ Open
plug_above = setups.plug_above

-- the other end's other end
pub other_twice : (e : End) → other_end (other_end e) ≡ e
other_twice e = ap (λ b. record { link = e.link; second = b }) (not-not e.second)

-- a plug is where its number is
plug_is : (n : Network) (p : Port) {x : ℕ} {plug : Plug} → p.number < most_ports → get_or (plugs_of n) (place_of p) 0 ≡ x → plug_in x ≡ plug → plug_at (plugs_of n) p.switch p.number ≡ plug
unfolding plug_at
plug_is n p h e q = rw (lt-ltb p.number most_ports h, e) q

-- nothing, a host and an end of a link are three
none_host : {i : ℕ} → ◌≡◌ {A = Plug} Open (OfHost i) → ⊥
none_host q = let z : ◌≡◌ {A = ℕ} 0 1 = cc in omega arith

none_end : {e : End} → ◌≡◌ {A = Plug} Open (OfLink e) → ⊥
none_end q = let z : ◌≡◌ {A = ℕ} 0 1 = cc in omega arith

host_end : {i : ℕ} {e : End} → ◌≡◌ {A = Plug} (OfHost i) (OfLink e) → ⊥
host_end q = let z : ◌≡◌ {A = ℕ} 0 1 = cc in omega arith

-- what is plugged into port p of switch k of an accepted network
data Here (n : Network) (k p : ℕ) (plug : Plug) : Type 0 where
  host_here : (i : ℕ) → i < n.nhosts → (host_at n i).port.switch ≡ k → (host_at n i).port.number ≡ p → plug ≡ OfHost i → Here n k p plug
  end_here : (e : End) → e.link < n.nlinks → (port_of n e).switch ≡ k → (port_of n e).number ≡ p → plug ≡ OfLink e → Here n k p plug
  none_here : plug ≡ Open → Here n k p plug

module _ (n : Network) (fine : network_fault n ≡ 0) where
  -- a host's port is a port that there is
  pub host_stands : (i : ℕ) → i < n.nhosts → Stands n (host_at n i).port
  host_stands = standing.host_stands n fine

  -- so is the port at an end of a link
  pub port_stands : (e : End) → e.link < n.nlinks → Stands n (port_of n e)
  port_stands = standing.end_stands n fine

  way : (place : ℕ) → place < places → Way n place (get_or (plugs_of n) place 0)
  way = reading.way n (standing.few_hosts n fine) (standing.few_links n fine)

  in_range : (p : Port) → Stands n p → place_of p < places
  in_range p h = omega (arith, h.switch, h.few, standing.few_switches n fine)

  -- at a host's port that host is plugged in
  pub at_host : (i : ℕ) → i < n.nhosts → plug_at (plugs_of n) (host_at n i).port.switch (host_at n i).port.number ≡ OfHost i
  at_host i h = by_way (way (place_of port) (in_range port there))
    where
      port : Port
      port = (host_at n i).port

      there : Stands n port
      there = host_stands i h

      by_way : Way n (place_of port) (get_or (plugs_of n) (place_of port) 0) → plug_at (plugs_of n) port.switch port.number ≡ OfHost i
      by_way (of_end e l q x) = absurd (standing.host_or_end n fine i e h l (same_port port (port_of n e) there.few (port_stands e l).few (sym q)))
      by_way (of_host j l q x) =
          let same : j ≡ i = standing.host_alone n fine j i l h (same_port (host_at n j).port port (host_stands j l).few there.few q) in
          plug_is n port there.few x (host_in_lem j (omega (arith, standing.few_hosts n fine)) ∙ ap (λ k. OfHost k) same)
      by_way (of_none a b x) = absurd (b i h refl)

  -- at the port of an end of a link that end is plugged in
  pub at_end : (e : End) → e.link < n.nlinks → plug_at (plugs_of n) (port_of n e).switch (port_of n e).number ≡ OfLink e
  at_end e h = by_way (way (place_of port) (in_range port there))
    where
      port : Port
      port = port_of n e

      there : Stands n port
      there = port_stands e h

      by_way : Way n (place_of port) (get_or (plugs_of n) (place_of port) 0) → plug_at (plugs_of n) port.switch port.number ≡ OfLink e
      by_way (of_end f l q x) =
          let same : f ≡ e = standing.end_alone n fine f e l h (same_port (port_of n f) port (port_stands f l).few there.few q) in
          plug_is n port there.few x (end_in f ∙ ap (λ k. OfLink k) same)
      by_way (of_host i l q x) = absurd (standing.host_or_end n fine i e l h (same_port (host_at n i).port port (host_stands i l).few there.few q))
      by_way (of_none a b x) = absurd (a e h refl)

  here : (k p : ℕ) → Here n k p (plug_at (plugs_of n) k p)
  unfolding plug_at plug_in
  here k p = by_cases (dec_lt p most_ports) (λ a. by_cases (dec_lt (k * most_ports + p) places) (λ b. by_way a (way (k * most_ports + p) b)) (λ b. none_here (outside a (omega arith)))) (λ a. none_here (plug_above (plugs_of n) k p (omega arith)))
    where
      at : p < most_ports → {x : ℕ} → get_or (plugs_of n) (k * most_ports + p) 0 ≡ x → plug_at (plugs_of n) k p ≡ plug_in x
      at a e = rw (lt-ltb p most_ports a, e)

      outside : p < most_ports → places ≤ k * most_ports + p → plug_at (plugs_of n) k p ≡ Open
      outside a b = at a (get_or-eq_default (plugs_of n) 0 (rw (plugs_length n) b))

      by_way : p < most_ports → Way n (k * most_ports + p) (get_or (plugs_of n) (k * most_ports + p) 0) → Here n k p (plug_at (plugs_of n) k p)
      by_way a (of_end e l q x) = end_here e l (omega (arith, (port_stands e l).few)) (omega (arith, (port_stands e l).few)) (at a x ∙ end_in e)
      by_way a (of_host i l q x) = host_here i l (omega (arith, (host_stands i l).few)) (omega (arith, (host_stands i l).few)) (at a x ∙ host_in_lem i (omega (arith, standing.few_hosts n fine)))
      by_way a (of_none none nobody x) = none_here (at a x)

  -- where a host is plugged in is that host's port
  pub host_there : (k p i : ℕ) → plug_at (plugs_of n) k p ≡ OfHost i → (i < n.nhosts) × ((host_at n i).port.switch ≡ k) × ((host_at n i).port.number ≡ p)
  host_there k p i e = by_here (here k p)
    where
      by_here : Here n k p (plug_at (plugs_of n) k p) → (i < n.nhosts) × ((host_at n i).port.switch ≡ k) × ((host_at n i).port.number ≡ p)
      by_here (host_here j l a b q) = let same : j ≡ i = cc in rw (← same) (l, a, b)
      by_here (end_here f l a b q) = absurd (host_end (sym e ∙ q))
      by_here (none_here q) = absurd (none_host (sym q ∙ e))

  -- where an end of a link is plugged in is the port of that end
  pub link_there : (k p : ℕ) (e : End) → plug_at (plugs_of n) k p ≡ OfLink e → (e.link < n.nlinks) × ((port_of n e).switch ≡ k) × ((port_of n e).number ≡ p)
  link_there k p e q = by_here (here k p)
    where
      by_here : Here n k p (plug_at (plugs_of n) k p) → (e.link < n.nlinks) × ((port_of n e).switch ≡ k) × ((port_of n e).number ≡ p)
      by_here (host_here j l a b r) = absurd (host_end (sym r ∙ q))
      by_here (end_here f l a b r) = let same : f ≡ e = cc in rw (← same) (l, a, b)
      by_here (none_here r) = absurd (none_end (sym r ∙ q))

-- ---- Setups

module _ (n : Network) (ps : List ℕ) (up : List Bool) (k : ℕ) where
  -- the live mask names a port of the switch as its plug is live
  pub names_live : (p : ℕ) → p < (switch_at n k).ports → names (setup_of n ps up k).live p ≡ is_live up (plug_at ps k p)
  unfolding setup_of
  names_live p h = names_mask (λ q. is_live up (plug_at ps k q)) (switch_at n k).ports p h

  -- and no other port
  pub live_named : (p : ℕ) → names (setup_of n ps up k).live p ≡ true → (p < (switch_at n k).ports) × (is_live up (plug_at ps k p) ≡ true)
  unfolding setup_of
  live_named p e = named (λ q. is_live up (plug_at ps k q)) (switch_at n k).ports p e

  -- the host mask names a port of the switch as its plug is a host's
  pub names_host : (p : ℕ) → p < (switch_at n k).ports → names (setup_of n ps up k).host p ≡ is_hosts (plug_at ps k p)
  unfolding setup_of
  names_host p h = names_mask (λ q. is_hosts (plug_at ps k q)) (switch_at n k).ports p h

  -- and no other port
  pub host_named : (p : ℕ) → names (setup_of n ps up k).host p ≡ true → (p < (switch_at n k).ports) × (is_hosts (plug_at ps k p) ≡ true)
  unfolding setup_of
  host_named p e = named (λ q. is_hosts (plug_at ps k q)) (switch_at n k).ports p e

module _ (n : Network) (fine : network_fault n ≡ 0) where
  -- a switch of an accepted network has a setup that it can have
  pub setup_sound : (ps : List ℕ) (up : List Bool) (k : ℕ) → k < n.nswitches → FineSetup (setup_of n ps up k)
  unfolding setup_of
  setup_sound ps up k h =
      let s = standing.fine_switch n fine k h in
      let limit = limit_range (switch_at n k) s in
      record {
        some_ports = s.least;
        few_ports = s.most;
        live_ports = mask_below (λ p. is_live up (plug_at ps k p)) (switch_at n k).ports;
        host_ports = mask_below (λ p. is_hosts (plug_at ps k p)) (switch_at n k).ports;
        some_limit = limit.0;
        low_limit = limit.1;
        salt = s.salt;
      }

  -- nothing is plugged in where a switch has no port
  pub plug_beyond : (k p : ℕ) → (switch_at n k).ports ≤ p → plug_at (plugs_of n) k p ≡ Open
  plug_beyond k p h = by_here (here n fine k p)
    where
      no_port_lem : (q : Port) → Stands n q → q.switch ≡ k → q.number ≡ p → ⊥
      no_port_lem q there a b = omega (arith, rw a at there.number)

      by_here : Here n k p (plug_at (plugs_of n) k p) → plug_at (plugs_of n) k p ≡ Open
      by_here (host_here i l a b q) = absurd (no_port_lem (host_at n i).port (host_stands n fine i l) a b)
      by_here (end_here e l a b q) = absurd (no_port_lem (port_of n e) (port_stands n fine e l) a b)
      by_here (none_here q) = q

  -- a mask of plugs names those that pass its test
  mask_is : (test : Plug → Bool) → test Open ≡ false → (k p : ℕ)
      → names (mask_of (λ q. test (plug_at (plugs_of n) k q)) (switch_at n k).ports) p ≡ test (plug_at (plugs_of n) k p)
  mask_is test none k p =
      by_cases (dec_lt p (switch_at n k).ports) (names_mask (λ q. test (plug_at (plugs_of n) k q)) (switch_at n k).ports p)
      (λ h. names_above (λ q. test (plug_at (plugs_of n) k q)) (switch_at n k).ports p (omega arith) ∙ sym (ap test (plug_beyond k p (omega arith)) ∙ none))

  module _ (up : List Bool) where
    -- the live mask names those ports whose plug is live
    pub live_is : (k p : ℕ) → names (setup_of n (plugs_of n) up k).live p ≡ is_live up (plug_at (plugs_of n) k p)
    unfolding setup_of is_live
    live_is k p = mask_is (is_live up) refl k p

    -- the host mask names those ports where a host is plugged in
    pub hosts_is : (k p : ℕ) → names (setup_of n (plugs_of n) up k).host p ≡ is_hosts (plug_at (plugs_of n) k p)
    unfolding setup_of is_hosts
    hosts_is k p = mask_is is_hosts refl k p

    -- ports with no cable are down
    pub open_down : (k p : ℕ) → plug_at (plugs_of n) k p ≡ Open → names (setup_of n (plugs_of n) up k).live p ≡ false
    unfolding is_live
    open_down k p e = live_is k p ∙ rw e

    -- host ports are always up
    pub host_up : (k p i : ℕ) → plug_at (plugs_of n) k p ≡ OfHost i → names (setup_of n (plugs_of n) up k).live p ≡ true
    unfolding is_live
    host_up k p i e = live_is k p ∙ rw e

    -- a link's ports are up as the link is
    pub link_up : (k p : ℕ) (e : End) → plug_at (plugs_of n) k p ≡ OfLink e → names (setup_of n (plugs_of n) up k).live p ≡ get_or up e.link false
    unfolding is_live
    link_up k p e q = live_is k p ∙ rw q

    -- at the port of an end
    pub end_up : (e : End) → e.link < n.nlinks → names (setup_of n (plugs_of n) up (port_of n e).switch).live (port_of n e).number ≡ get_or up e.link false
    end_up e h = link_up (port_of n e).switch (port_of n e).number e (at_end n fine e h)

    -- both ends of a link are up, or both are down
    pub both_ends : (e : End) → e.link < n.nlinks
        → names (setup_of n (plugs_of n) up (port_of n e).switch).live (port_of n e).number
        ≡ names (setup_of n (plugs_of n) up (port_of n (other_end e)).switch).live (port_of n (other_end e)).number
    both_ends e h = end_up e h ∙ sym (end_up (other_end e) h)

    -- a link's state is nothing to a switch at which it has no end
    pub other_link : (l : ℕ) (s : Bool) (k : ℕ) → (port_of n (first_of l)).switch ≢ k → (port_of n (second_of l)).switch ≢ k
        → setup_of n (plugs_of n) (set up l s) k ≡ setup_of n (plugs_of n) up k
    unfolding setup_of is_live
    other_link l s k a b =
        rw (masks.mask_same (λ p. is_live (set up l s) (plug_at (plugs_of n) k p)) (λ p. is_live up (plug_at (plugs_of n) k p)) (switch_at n k).ports (λ p h. by_here p (here n fine k p)))
      where
        not_here : (e : End) → (port_of n e).switch ≡ k → e.link ≡ l → ⊥
        not_here e q same = either e.link e.second q same
          where
            either : (i : ℕ) (c : Bool) → (port_of n (record { link = i; second = c })).switch ≡ k → i ≡ l → ⊥
            either i true q same = b (rw same at q)
            either i false q same = a (rw same at q)

        by_here : (p : ℕ) → Here n k p (plug_at (plugs_of n) k p) → is_live (set up l s) (plug_at (plugs_of n) k p) ≡ is_live up (plug_at (plugs_of n) k p)
        by_here p (host_here i h c d q) = rw q
        by_here p (end_here e h c d q) = rw q (get_or-set_other up l e.link s false (not_here e c))
        by_here p (none_here q) = rw q
