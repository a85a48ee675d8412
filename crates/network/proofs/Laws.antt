-- What callers cite: the answers told apart, the accepted networks and their lists; the round trips of proofs/Trip and the soundness of
-- proofs/Soundness are passed on.
use Prim.Native.Nat.{ℕ, zero, suc, suc-le-suc, ◌<◌, ◌≤◌}
use mathlib.Core.Path.{◌≡◌}
use mathlib.Core.Logic.{by_cases}
use mathlib.Core.List.{List, [], ◌∷◌, ◌++◌, map}
use native.Mathlib.Nat.{mod-lt}
use native.Mathlib.Decide.{ℕ_discrete}
use native.Mathlib.Omega.{arith}
use lib.ListN.{length, get_or}
use borrow.Author.Tests.{eq-eqb, ne_eqb}
use Rattle.refusal.specs.OneOutcome.{TellsApart}
use Rattle.refusal.proofs.Told as refusal
use Rattle.wire.specs.Wire.{bytes_of, AreBytes}
use Rattle.network.specs.declared.Port.{Port}
use Rattle.network.specs.declared.Switch.{Switch}
use Rattle.network.specs.declared.Host.{Host}
use Rattle.network.specs.declared.Link.{Link}
use Rattle.network.specs.declared.Network.{Network}
use Rattle.network.specs.declared.Record.{Record}
use Rattle.network.specs.declared.Record.TheVariants.{Switch as OfSwitch, Host as OfHost, Link as OfLink}
use Rattle.network.specs.Network.{no_switch, no_host, no_link, limit_of, switches_of, hosts_of, links_of, records}
use Rattle.network.specs.Format.{kind_of, body_of, port_bytes, encode}
use Rattle.network.specs.Checks.{network_fault}
use Rattle.network.specs.Describe.{end_values, encode_all, image, read_fault, read_network}
use Rattle.network.specs.RoundTrip.{RefusedReadsNone, SameNetworks, ToldApart}
use Rattle.network.specs.Sound.{FineSwitch, Standing, Sound}
use Rattle.network.proofs.Lists.{up_to_at}
use Rattle.network.proofs.Writing.{all_bytes}
use Rattle.network.proofs.Built.{cleared_records}
use Rattle.network.proofs.Trip.{read_fine}
pub use Rattle.network.proofs.Built.{switches_long, hosts_long, links_long}
pub use Rattle.network.proofs.Trip.{written_reads_back, events_behind, read_writes_back, reads_cleared}
pub use Rattle.network.proofs.Soundness.{accepted_is_sound}

-- an answer's value gives it back
ends_apart : TellsApart end_values
ends_apart a b e = cc

pub told_apart : ToldApart
told_apart = refusal.told_apart ends_apart

pub refused_reads_none : RefusedReadsNone
unfolding read_network
refused_reads_none b h = rw (ne_eqb (read_fault b) 0 h)

-- element i of the lists is element i of the arrays
pub switch_is : (n : Network) (i : ℕ) → i < n.nswitches → get_or (switches_of n) i no_switch ≡ get_or n.switches i no_switch
unfolding switches_of
switch_is n i h = up_to_at no_switch n.nswitches n.switches i h

pub host_is : (n : Network) (i : ℕ) → i < n.nhosts → get_or (hosts_of n) i no_host ≡ get_or n.hosts i no_host
unfolding hosts_of
host_is n i h = up_to_at no_host n.nhosts n.hosts i h

pub link_is : (n : Network) (i : ℕ) → i < n.nlinks → get_or (links_of n) i no_link ≡ get_or n.links i no_link
unfolding links_of
link_is n i h = up_to_at no_link n.nlinks n.links i h

-- the hop limit that a fine switch steps with
pub limit_range : (s : Switch) → FineSwitch s → (1 ≤ limit_of s) × (limit_of s ≤ 62)
unfolding limit_of
limit_range s v = by_cases (ℕ_discrete s.limit 0) (λ e. rw (eq-eqb s.limit 0 e) (omega arith)) (λ e. rw (ne_eqb s.limit 0 e) (omega arith))

-- what the writer writes is bytes
bytes_append : (xs ys : List ℕ) → AreBytes xs → AreBytes ys → AreBytes (xs ++ ys)
bytes_append [] ys a b = b
bytes_append (x ∷ xs) ys a b = (a.0, bytes_append xs ys a.1 b)

number_bytes : (k n : ℕ) → AreBytes (bytes_of k n)
number_bytes zero n = tt
number_bytes (suc k) n = (mod-lt _ (omega arith), number_bytes k n)

encode_bytes : (r : Record) → AreBytes (body_of r) → AreBytes (encode r)
unfolding encode kind_of
encode_bytes r h = bytes_append (bytes_of 2 _) (kind_of r ∷ body_of r) (number_bytes 2 _) (kind r, h)
  where
    kind : (r : Record) → kind_of r < 256
    kind (OfSwitch s) = omega arith
    kind (OfHost h) = omega arith
    kind (OfLink l) = omega arith

each_bytes : {A : Type 0} (wrap : A → Record) (d : A) (xs : List A) → ((i : ℕ) → i < length xs → AreBytes (body_of (wrap (get_or xs i d)))) → AreBytes (encode_all (map wrap xs))
unfolding encode_all
each_bytes wrap d [] h = tt
each_bytes wrap d (x ∷ xs) h =
    bytes_append (encode (wrap x)) (encode_all (map wrap xs)) (encode_bytes (wrap x) (h 0 (omega arith))) (each_bytes wrap d xs (λ i q. h (suc i) (suc-le-suc q)))

module _ (n : Network) (v : Sound n) where
  port_bytes_lem : (p : Port) → Standing (switches_of n) p → AreBytes (port_bytes p)
  port_bytes_lem p h = (omega (arith, h.switch, v.few_switches), (omega (arith, h.number, (v.switch p.switch h.switch).most), tt))

  switch_bytes_lem : (i : ℕ) → i < length (switches_of n) → AreBytes (body_of (OfSwitch (get_or (switches_of n) i no_switch)))
  unfolding body_of
  switch_bytes_lem i h = let fine = v.switch i h in (omega (arith, fine.most), (omega (arith, fine.limit), number_bytes 4 _))

  host_bytes_lem : (i : ℕ) → i < length (hosts_of n) → AreBytes (body_of (OfHost (get_or (hosts_of n) i no_host)))
  unfolding body_of
  host_bytes_lem i h =
      let here = get_or (hosts_of n) i no_host in
      bytes_append (port_bytes here.port) (bytes_of 6 here.address) (port_bytes_lem _ (v.host i h).port) (number_bytes 6 here.address)

  link_bytes_lem : (i : ℕ) → i < length (links_of n) → AreBytes (body_of (OfLink (get_or (links_of n) i no_link)))
  unfolding body_of
  link_bytes_lem i h =
      let here = get_or (links_of n) i no_link in
      bytes_append (port_bytes here.first) (port_bytes here.second) (port_bytes_lem _ (v.link i h).first) (port_bytes_lem _ (v.link i h).second)

  pub image_bytes : AreBytes (image n)
  unfolding image records
  image_bytes =
      let ss = map (λ (s : Switch). OfSwitch s) (switches_of n) in
      let hs = map (λ (h : Host). OfHost h) (hosts_of n) in
      let ls = map (λ (l : Link). OfLink l) (links_of n) in (
        omega arith,
        rw (all_bytes ss (hs ++ ls), all_bytes hs ls)
            (bytes_append (encode_all ss) (encode_all hs ++ encode_all ls) (each_bytes (λ (s : Switch). OfSwitch s) no_switch (switches_of n) switch_bytes_lem)
            (bytes_append (encode_all hs) (encode_all ls) (each_bytes (λ (h : Host). OfHost h) no_host (hosts_of n) host_bytes_lem)
            (each_bytes (λ (l : Link). OfLink l) no_link (links_of n) link_bytes_lem))),
      )

pub same_networks : SameNetworks
unfolding network_fault
same_networks n = (
  (λ e. record { bytes = image n; are_bytes = image_bytes n (accepted_is_sound n e); end = length (image n); reads = written_reads_back n e }),
  (λ r. rw (cleared_records n) at (rw r.reads.network at (read_fine r.bytes r.reads.accepted))),
)
