-- The mesh of a stand: its ports are the ends, and a link that is up is a live cable between the ports at its two ends.
use Prim.Native.Nat.{ℕ, ◌<◌}
use mathlib.Core.Path.{◌≡◌, refl, sym, ap, ◌∙◌}
use mathlib.Core.Bool.{Bool, true, false}
use mathlib.Core.List.{List}
use lib.ListN.{get_or}
use Rattle.network.specs.declared.Network.{Network}
use Rattle.network.specs.declared.Port.{Port}
use Rattle.network.specs.Network.{limit_of}
use Rattle.network.specs.Checks.{network_fault}
use Rattle.cabling.specs.declared.End.{End}
use Rattle.cabling.specs.declared.Plug.{Plug}
use Rattle.cabling.specs.declared.Plug.TheVariants.{Link as OfLink}
use Rattle.cabling.specs.Cabling.{other_end, plug_at, plugs_of, port_of, switch_at}
use Rattle.cabling.proofs.Laws.{at_end, other_twice, port_stands}
use Rattle.flood.specs.Mesh.{Mesh, Joined, Across}
use Rattle.flood.specs.Mesh as flood
use Rattle.bench.specs.declared.Bench.{Bench}
use Rattle.plug_in.specs.Words as words
use Rattle.plug_in.specs.Words.{Cabled, JoinedTo}

-- two ports are one if their parts are
pub same_port : {p q : Port} → p.switch ≡ q.switch → p.number ≡ q.number → p ≡ q
same_port a b = λ i. record { switch = a i; number = b i }

-- a link that is up leads from port p to port q; near is its end at p
pub record Cable (n : Network) (up : List Bool) (p q : Port) : Type 0 where
  pub near : End
  pub there : near.link < n.nlinks
  pub live : get_or up near.link false ≡ true
  pub from : port_of n near ≡ p
  pub to : port_of n (other_end near) ≡ q

-- a plug has one end
pub one_end : {e f : End} → ◌≡◌ {A = Plug} (OfLink e) (OfLink f) → e ≡ f
one_end q = cc

module _ (n : Network) (up : List Bool) where
  -- the cable leads back
  pub cable_back : (p q : Port) → Cable n up p q → Cable n up q p
  cable_back p q c = record { near = other_end c.near; there = c.there; live = c.live; from = c.to; to = ap (port_of n) (other_twice c.near) ∙ c.from }

  module _ (fine : network_fault n ≡ 0) where
    -- what is plugged into a port with a cable is the cable's near end
    pub cable_plug : {p q : Port} (c : Cable n up p q) → plug_at (plugs_of n) p.switch p.number ≡ OfLink c.near
    cable_plug c = rw (← c.from) (at_end n fine c.near c.there)

    -- no port has two cables
    pub cable_once : (p q r : Port) → Cable n up p q → Cable n up p r → q ≡ r
    cable_once p q r c d =
        let same : c.near ≡ d.near = one_end (sym (cable_plug c) ∙ cable_plug d) in
        sym c.to ∙ ap (λ e. port_of n (other_end e)) same ∙ d.to

    -- it is at a switch that there is
    pub cable_inside : (p q : Port) → Cable n up p q → p.switch < n.nswitches
    cable_inside p q c = rw (← c.from) (port_stands n fine c.near c.there).switch

    -- the mesh of a stand with these links up
    abbrev pub mesh : Mesh
    mesh =
        record {
          size = n.nswitches;
          limit = λ k. limit_of (switch_at n k);
          End = Port;
          at = λ p. p.switch;
          Cable = Cable n up;
          both = cable_back;
          one = cable_once;
          inside = cable_inside;
        }

-- what the order calls joined is joined in the mesh
pub joined : (b : Bench) (fine : network_fault b.network ≡ 0) {k t : ℕ} → JoinedTo b k t → Joined (mesh b.network b.up fine) k t
joined b fine words.here = flood.here
joined b fine (words.over j c) = flood.over (joined b fine j) (across c)
  where
    across : {k t : ℕ} → Cabled b k t → Across (mesh b.network b.up fine) k t
    across c =
        record {
          near = port_of b.network c.near;
          far = port_of b.network (other_end c.near);
          leaves = c.from;
          cable = record { near = c.near; there = c.there; live = c.live; from = refl; to = refl };
          arrives = c.to;
        }
