-- What an accepted network is, of its arrays: its cables are at ports that there are, and no two at one.
use mathlib.Core.Path.{◌≡◌, refl, sym, ap, ◌∙◌}
use mathlib.Core.Logic.{inl, inr}
use mathlib.Core.Bool.{Bool, true, false}
use Prim.Native.Nat.{ℕ, ◌<◌, ◌≤◌}
use native.Mathlib.Omega.{arith}
use lib.ListN.{get_or}
use Rattle.network.specs.declared.Port.{Port}
use Rattle.network.specs.declared.Switch.{Switch}
use Rattle.network.specs.declared.Host.{Host}
use Rattle.network.specs.declared.Network.{Network}
use Rattle.network.specs.Network.{most_switches, most_hosts, most_links, no_link, switches_of}
use Rattle.network.specs.Checks.{network_fault}
use Rattle.network.specs.Sound.{FineSwitch, Standing, FineHost, FineLink, EndsOn, Sound}
use Rattle.network.proofs.Laws.{accepted_is_sound, switches_long, hosts_long, links_long, switch_is, host_is, link_is}
use Rattle.cabling.specs.declared.End.{End}
use Rattle.cabling.specs.Cabling.{switch_at, host_at, port_of, most_ports, place_of, Stands}

-- a port is known by its place
pub same_port : (p q : Port) → p.number < most_ports → q.number < most_ports → place_of p ≡ place_of q → p ≡ q
same_port p q a b e =
    let k : p.switch ≡ q.switch = omega arith in
    let i : p.number ≡ q.number = omega arith in
    ap (λ s. record { switch = s; number = p.number }) k ∙ ap (λ m. record { switch = q.switch; number = m }) i

module _ (n : Network) (fine : network_fault n ≡ 0) where
  sound : Sound n
  sound = accepted_is_sound n fine

  pub few_hosts : n.nhosts ≤ most_hosts
  few_hosts = omega (arith, sound.few_hosts, hosts_long n)

  pub few_links : n.nlinks ≤ most_links
  few_links = omega (arith, sound.few_links, links_long n)

  pub few_switches : n.nswitches ≤ most_switches
  few_switches = omega (arith, sound.few_switches, switches_long n)

  pub fine_switch : (k : ℕ) → k < n.nswitches → FineSwitch (switch_at n k)
  fine_switch k h = rw (switch_is n k h) at (sound.switch k (rw (switches_long n) h))

  standing : (p : Port) → Standing (switches_of n) p → Stands n p
  standing p h =
      let s : p.switch < n.nswitches = omega (arith, h.switch, switches_long n) in
      let same = ap (λ (x : Switch). x.ports) (switch_is n p.switch s) in
      record { switch = s; number = omega (arith, h.number, same); few = omega (arith, h.number, same, (fine_switch p.switch s).most) }

  fine_host : (i : ℕ) → i < n.nhosts → FineHost (switches_of n) (host_at n i)
  fine_host i h = rw (host_is n i h) at (sound.host i (rw (hosts_long n) h))

  fine_link : (i : ℕ) → i < n.nlinks → FineLink (switches_of n) (get_or n.links i no_link)
  fine_link i h = rw (link_is n i h) at (sound.link i (rw (links_long n) h))

  pub host_stands : (i : ℕ) → i < n.nhosts → Stands n (host_at n i).port
  host_stands i h = standing (host_at n i).port (fine_host i h).port

  pub end_stands : (e : End) → e.link < n.nlinks → Stands n (port_of n e)
  unfolding port_of
  end_stands e h = either e.link e.second h
    where
      either : (i : ℕ) (b : Bool) → i < n.nlinks → Stands n (port_of n (record { link = i; second = b }))
      either i true l = standing (get_or n.links i no_link).second (fine_link i l).second
      either i false l = standing (get_or n.links i no_link).first (fine_link i l).first

  -- no port has two cables
  pub host_alone : (i j : ℕ) → i < n.nhosts → j < n.nhosts → (host_at n i).port ≡ (host_at n j).port → i ≡ j
  host_alone i j a b e =
      sound.host_alone i j (rw (hosts_long n) a) (rw (hosts_long n) b)
      (ap (λ (h : Host). h.port) (host_is n i a) ∙ e ∙ sym (ap (λ (h : Host). h.port) (host_is n j b)))

  ends_on : (e : End) (p : Port) → port_of n e ≡ p → EndsOn p (get_or n.links e.link no_link)
  unfolding port_of
  ends_on e p = either e.link e.second
    where
      either : (i : ℕ) (b : Bool) → port_of n (record { link = i; second = b }) ≡ p → EndsOn p (get_or n.links i no_link)
      either i true q = inr q
      either i false q = inl q

  pub host_or_end : (i : ℕ) (e : End) → i < n.nhosts → e.link < n.nlinks → (host_at n i).port ≡ port_of n e → ⊥
  host_or_end i e a b q =
      sound.host_or_link i e.link (rw (hosts_long n) a) (rw (links_long n) b)
      (rw (host_is n i a, link_is n e.link b) (ends_on e (host_at n i).port (sym q)))

  pub end_alone : (e f : End) → e.link < n.nlinks → f.link < n.nlinks → port_of n e ≡ port_of n f → e ≡ f
  unfolding port_of
  end_alone e f a b q =
      let same : e.link ≡ f.link =
      sound.link_alone (port_of n f) e.link f.link (rw (links_long n) a) (rw (links_long n) b)
      (rw (link_is n e.link a) (ends_on e (port_of n f) q)) (rw (link_is n f.link b) (ends_on f (port_of n f) refl)) in
      which e.link f.link e.second f.second a same q
    where
      which : (i j : ℕ) (b c : Bool) → i < n.nlinks → i ≡ j → port_of n (record { link = i; second = b }) ≡ port_of n (record { link = j; second = c })
          → ◌≡◌ {A = End} (record { link = i; second = b }) (record { link = j; second = c })
      which i j true true h s q = rw s
      which i j false false h s q = rw s
      which i j true false h s q = absurd ((fine_link i h).two (sym (rw (← s) at q)))
      which i j false true h s q = absurd ((fine_link i h).two (rw (← s) at q))
