-- Whole arrays: their parts laid one behind the other.
use Prim.Native.Nat.{ℕ, ◌+◌, ◌*◌}
use mathlib.Core.Path.{◌≡◌, refl, ap, ◌∙◌}
use mathlib.Core.List.{List, [], ◌∷◌, ◌++◌, flat_map, map, append_assoc}
use native.Mathlib.Omega.{arith}
use lib.ListN.{length, length-append, length-map}
use Rattle.wire.specs.Wire.{put}
use Rattle.network.specs.declared.Network.{Network}
use Rattle.network.specs.Network.{no_host, no_link, no_switch}
use Rattle.layout.specs.Layout.{Evenly, SizedBench, SizedNetwork, SizedSeats, bench_bytes, bench_wides, cells_at, copies_at, counts, flying_at, limits_at, ports_at, seat_bytes, seat_wides, slot_hops_at, slot_ports_at, host_bytes, hosts_at, link_bytes, links_at, network_bytes, switch_bytes, switches_at}
use Rattle.layout.proofs.Loops.{Laying, laid_whole, laying_next, laying_starts}
use Rattle.frame.specs.Header.{bit}
use Rattle.seat.specs.declared.Seat.{Seat}
use Rattle.flight.specs.declared.Copy.{Copy}
use Rattle.flight.specs.Flight.{no_copy, pack}
use Rattle.bench.specs.Bench.{no_seat}
use Rattle.bench.specs.declared.Bench.{Bench}
use Rattle.layout.proofs.Laws.{flat_length}

-- a network's bytes: counts, switches, hosts, links
module _ {n : Network} (start : List ℕ) {a b c e : List ℕ} where
  pub network_laid : SizedNetwork n → length start ≡ 355 → a ≡ put start 0 (counts n) → b ≡ put a switches_at (flat_map switch_bytes n.switches)
      → c ≡ put b hosts_at (flat_map host_bytes n.hosts) → e ≡ put c links_at (flat_map link_bytes n.links) → e ≡ network_bytes n
  unfolding network_bytes
  network_laid sized long p q r s =
      let ss = flat_map switch_bytes n.switches in
      let hs = flat_map host_bytes n.hosts in
      let ls = flat_map link_bytes n.links in
      let lss : length ss ≡ 32 = flat_length switch_bytes 2 no_switch n.switches (λ k h. refl) ∙ rw sized.switches in
      let lhs : length hs ≡ 64 = flat_length host_bytes 2 no_host n.hosts (λ k h. refl) ∙ rw sized.hosts in
      let lls : length ls ≡ 256 = flat_length link_bytes 4 no_link n.links (λ k h. refl) ∙ rw sized.links in
      let l1 : length (counts n ++ ss) ≡ 35 = simp length-append (omega arith) in
      let l2 : length ((counts n ++ ss) ++ hs) ≡ 99 = simp length-append (omega arith) in
      let l3 : length (((counts n ++ ss) ++ hs) ++ ls) ≡ 355 = simp length-append (omega arith) in
      let v0 : Laying start 0 (counts n) a = laying_next {next = 0} (counts n) laying_starts refl (omega arith) p in
      let v1 : Laying start 0 (counts n ++ ss) b = laying_next {next = switches_at} ss v0 refl (omega arith) q in
      let v2 : Laying start 0 ((counts n ++ ss) ++ hs) c = laying_next {next = hosts_at} hs v1 (omega arith) (omega arith) r in
      let v3 : Laying start 0 (((counts n ++ ss) ++ hs) ++ ls) e = laying_next {next = links_at} ls v2 (omega arith) (omega arith) s in
      laid_whole v3 (omega arith) ∙ simp append_assoc

-- 16 heads' rows
pub even_length : {f : Seat → List ℕ} {w : ℕ} {ss : List Seat} → Evenly f w ss → length ss ≡ 16 → length (flat_map f ss) ≡ w * 16
even_length {f} {w} {ss} v e = flat_length f w no_seat ss (λ k h. v.even k (omega arith)) ∙ ap (λ n. w * n) e

module _ {ss : List Seat} (sized : SizedSeats ss) (start : List ℕ) where
  -- two parts of one number for each head
  pub columns_laid : (f g : Seat → ℕ) {a b : List ℕ} → length start ≡ 32 → a ≡ put start 0 (map f ss) → b ≡ put a 16 (map g ss) → b ≡ map f ss ++ map g ss
  columns_laid f g {a} {b} long p q =
      let lf : length (map f ss) ≡ 16 = length-map ss f ∙ sized.long in
      let lg : length (map g ss) ≡ 16 = length-map ss g ∙ sized.long in
      let both : length (map f ss ++ map g ss) ≡ 32 = simp length-append (omega arith) in
      let v0 : Laying start 0 (map f ss) a = laying_next {next = 0} (map f ss) laying_starts refl (omega arith) p in
      laid_whole (laying_next {next = 16} (map g ss) v0 (omega arith) (omega arith) q) (omega arith)

  pub seat_bytes_laid : {a b c d e : List ℕ} → length start ≡ 12384 → a ≡ put start ports_at (map (λ s. s.switch.setup.ports) ss)
      → b ≡ put a limits_at (map (λ s. s.switch.setup.limit) ss) → c ≡ put b slot_ports_at (flat_map (λ s. s.switch.table.ports) ss)
      → d ≡ put c slot_hops_at (flat_map (λ s. s.switch.table.hops) ss) → e ≡ put d cells_at (flat_map (λ s. s.cells) ss) → e ≡ put start ports_at (seat_bytes ss)
  unfolding seat_bytes
  seat_bytes_laid {a} {b} {c} {d} {e} long p q r s t =
      let ps = map (λ (x : Seat). x.switch.setup.ports) ss in
      let ms = map (λ (x : Seat). x.switch.setup.limit) ss in
      let rs = flat_map (λ (x : Seat). x.switch.table.ports) ss in
      let hs = flat_map (λ (x : Seat). x.switch.table.hops) ss in
      let cs = flat_map (λ (x : Seat). x.cells) ss in
      let lp : length ps ≡ 16 = length-map ss (λ (x : Seat). x.switch.setup.ports) ∙ sized.long in
      let lm : length ms ≡ 16 = length-map ss (λ (x : Seat). x.switch.setup.limit) ∙ sized.long in
      let lr : length rs ≡ 1024 = even_length sized.ports sized.long in
      let lh : length hs ≡ 1024 = even_length sized.hops sized.long in
      let lc : length cs ≡ 10240 = even_length sized.cells sized.long in
      let l1 : length (ps ++ ms) ≡ 32 = simp length-append (omega arith) in
      let l2 : length ((ps ++ ms) ++ rs) ≡ 1056 = simp length-append (omega arith) in
      let l3 : length (((ps ++ ms) ++ rs) ++ hs) ≡ 2080 = simp length-append (omega arith) in
      let v0 : Laying start ports_at ps a = laying_next {next = ports_at} ps laying_starts refl (omega arith) p in
      let v1 : Laying start ports_at (ps ++ ms) b = laying_next {next = limits_at} ms v0 (omega arith) (omega arith) q in
      let v2 : Laying start ports_at ((ps ++ ms) ++ rs) c = laying_next {next = slot_ports_at} rs v1 (omega arith) (omega arith) r in
      let v3 : Laying start ports_at (((ps ++ ms) ++ rs) ++ hs) d = laying_next {next = slot_hops_at} hs v2 (omega arith) (omega arith) s in
      let v4 : Laying start ports_at ((((ps ++ ms) ++ rs) ++ hs) ++ cs) e = laying_next {next = cells_at} cs v3 (omega arith) (omega arith) t in
      let regroup : (((ps ++ ms) ++ rs) ++ hs) ++ cs ≡ ps ++ (ms ++ (rs ++ (hs ++ cs))) = simp append_assoc in
      v4.so_far ∙ ap (λ l. put start ports_at l) regroup

  pub seat_bytes_length : length (seat_bytes ss) ≡ 12320
  unfolding seat_bytes
  seat_bytes_length =
      let lp = length-map ss (λ (x : Seat). x.switch.setup.ports) in
      let lm = length-map ss (λ (x : Seat). x.switch.setup.limit) in
      let lr : length (flat_map (λ (x : Seat). x.switch.table.ports) ss) ≡ 1024 = even_length sized.ports sized.long in
      let lh : length (flat_map (λ (x : Seat). x.switch.table.hops) ss) ≡ 1024 = even_length sized.hops sized.long in
      let lc : length (flat_map (λ (x : Seat). x.cells) ss) ≡ 10240 = even_length sized.cells sized.long in
      simp length-append (omega (arith, sized.long))

-- 512 copies' words
pub copies_length : (cs : List Copy) → length cs ≡ 512 → length (flat_map pack cs) ≡ 1536
unfolding pack
copies_length cs e = flat_length pack 3 no_copy cs (λ k h. refl) ∙ ap (λ n. 3 * n) e

module _ {b : Bench} (sized : SizedBench b) (start : List ℕ) where
  pub bench_bytes_laid : {a e : List ℕ} → length start ≡ 12384 → a ≡ put start 0 (map bit b.up) → e ≡ put a ports_at (seat_bytes b.seats) → e ≡ bench_bytes b
  unfolding bench_bytes
  bench_bytes_laid {a} long p q =
      let us = map bit b.up in
      let bs = seat_bytes b.seats in
      let lu : length us ≡ 64 = length-map b.up bit ∙ sized.up in
      let lb : length bs ≡ 12320 = seat_bytes_length sized.seats start in
      let both : length (us ++ bs) ≡ 12384 = simp length-append (omega arith) in
      let v0 : Laying start 0 us a = laying_next {next = 0} us laying_starts refl (omega arith) p in
      laid_whole (laying_next {next = ports_at} bs v0 (omega arith) (omega arith) q) (omega arith)

  pub bench_wides_laid : {a c e : List ℕ} → length start ≡ 2561 → a ≡ put start 0 (seat_wides b.seats) → c ≡ put a copies_at (flat_map pack b.copies)
      → e ≡ put c flying_at (b.flying ∷ []) → e ≡ bench_wides b
  unfolding bench_wides seat_wides
  bench_wides_laid {a} {c} long p q r =
      let ws = seat_wides b.seats in
      let cs = flat_map pack b.copies in
      let lw : length ws ≡ 1024 = even_length sized.seats.addresses sized.seats.long in
      let lc : length cs ≡ 1536 = copies_length b.copies sized.copies.long in
      let two : length (ws ++ cs) ≡ 2560 = simp length-append (omega arith) in
      let all : length ((ws ++ cs) ++ (b.flying ∷ [])) ≡ 2561 = length-append (ws ++ cs) (b.flying ∷ []) ∙ ap (λ n. n + 1) two in
      let v0 : Laying start 0 ws a = laying_next {next = 0} ws laying_starts refl (omega arith) p in
      let v1 : Laying start 0 (ws ++ cs) c = laying_next {next = copies_at} cs v0 (omega arith) (omega arith) q in
      laid_whole (laying_next {next = flying_at} (b.flying ∷ []) v1 (omega arith) (omega arith) r) (omega arith) ∙ append_assoc ws cs (b.flying ∷ [])
