-- What was laid down is read back: where each part of an array stands, and the values that it gives.
use Prim.Native.Nat.{ℕ, zero, suc, ◌+◌, ◌*◌, ◌<◌}
use mathlib.Core.Path.{◌≡◌, refl, sym, ap, ◌∙◌}
use mathlib.Core.Bool.{Bool, true, false, not}
use mathlib.Core.List.{List, [], ◌∷◌, ◌++◌, flat_map, map, append_assoc, append-nil}
use native.Mathlib.Nat.{add_comm, mul-suc, mul-zero}
use native.Mathlib.Omega.{arith}
use lib.Dec.{eqb}
use lib.ListN.{get_or, length, take, drop, length-map, get_or-append, get_or-map}
use lib.Seq.{drop-append-add, drop-drop, get_or-drop, take_at}
use Rattle.frame.specs.Header.{bit}
use Rattle.network.specs.declared.Network.{Network}
use Rattle.network.specs.Network.{no_host, no_link, no_switch}
use Rattle.seat.specs.declared.Seat.{Seat}
use Rattle.flight.specs.Flight.{no_copy, pack, unpack}
use Rattle.flight.proofs.Laws.{unpack_pack}
use Rattle.bench.specs.declared.Bench.{Bench}
use Rattle.bench.specs.Bench.{bench_of, no_seat}
use Rattle.layout.specs.Layout.{Evenly, SizedBench, SizedNetwork, bench_bytes, bench_in, bench_wides, block, cells_at, copies_at, copy_in, counts, flying_at, host_bytes, host_in, host_masks_at, hosts_at, limits_at, link_bytes, link_in, links_at, listed, network_addresses, network_bytes, network_in, network_salts, nonces_at, ports_at, seat_bytes, seat_in, seat_masks, seat_wides, seat_words, setup_in, slot_hops_at, slot_ports_at, switch_bytes, switch_in, switches_at, up_in}
use Rattle.layout.specs.RoundTrip.{BenchReadsBack, NetworkReadsBack}
use Rattle.layout.proofs.Laws.{flat_length, listed_all, listed_same, same_there}
use Rattle.layout.proofs.Wholes.{copies_length, even_length}

-- ---- Where a part stands

-- a part stands at a place of an array
record Stands (at : ℕ) (part l : List ℕ) : Type 0 where
  behind : List ℕ
  here : drop at l ≡ part ++ behind

stands_first : (a l : List ℕ) → Stands 0 a (a ++ l)
stands_first a l = record { behind = l; here = refl }

stands_alone : {a : List ℕ} → Stands 0 a a
stands_alone {a} = record { behind = []; here = sym (append-nil a) }

stands_behind : (a : List ℕ) (n at : ℕ) {part l : List ℕ} → length a ≡ n → Stands at part l → Stands (n + at) part (a ++ l)
stands_behind a n at {part} {l} e s = record { behind = s.behind; here = rw (← e) (drop-append-add a l at ∙ s.here) }

-- ---- What it gives

flat_block : {A : Type 0} (f : A → List ℕ) (w : ℕ) (d : A) (xs : List A) (i : ℕ) (behind : List ℕ) → ((k : ℕ) → k < length xs → length (f (get_or xs k d)) ≡ w) → i < length xs
    → take w (drop (w * i) (flat_map f xs ++ behind)) ≡ f (get_or xs i d)
unfolding flat_map
flat_block f w d [] i behind even h = absurd (omega arith)
flat_block f w d (x ∷ xs) zero behind even h =
    rw (mul-zero, append_assoc (f x) (flat_map f xs) behind) (take_at (f x) (flat_map f xs ++ behind) w (even 0 (omega arith)))
flat_block f w d (x ∷ xs) (suc i) behind even h =
    let wide : length (f x) ≡ w = even 0 (omega arith) in
    let next : drop (w * suc i) (f x ++ (flat_map f xs ++ behind)) ≡ drop (w * i) (flat_map f xs ++ behind) =
    rw (mul-suc, add_comm (w * i) w) (ap (λ n. drop (n + w * i) (f x ++ (flat_map f xs ++ behind))) (sym wide) ∙ drop-append-add (f x) (flat_map f xs ++ behind) (w * i)) in
    rw (append_assoc (f x) (flat_map f xs) behind, next) (flat_block f w d xs i behind (λ k l. even (suc k) (omega arith)) (omega arith))

-- block i is value i's
block_back : {A : Type 0} (f : A → List ℕ) (w : ℕ) (d : A) (xs : List A) (at i : ℕ) {l : List ℕ} → Stands at (flat_map f xs) l
    → ((k : ℕ) → k < length xs → length (f (get_or xs k d)) ≡ w) → i < length xs → block at w i l ≡ f (get_or xs i d)
block_back f w d xs at i {l} s even h = rw (← drop-drop (w * i) at l, s.here) (flat_block f w d xs i s.behind even h)

map_back : {A : Type 0} (g : A → ℕ) (d : A) (xs : List A) (i : ℕ) → i < length xs → get_or (map g xs) i 0 ≡ g (get_or xs i d)
map_back g d xs i h = same_there (map g xs) i 0 (g d) (omega (arith, length-map xs g)) ∙ get_or-map g xs i d

-- number i is value i's
number_back : {A : Type 0} (g : A → ℕ) (d : A) (xs : List A) (at i : ℕ) {l : List ℕ} → Stands at (map g xs) l → i < length xs → get_or l (at + i) 0 ≡ g (get_or xs i d)
number_back g d xs at i {l} s h =
    sym (get_or-drop at l i 0) ∙ ap (λ m. get_or m i 0) s.here ∙ get_or-append (map g xs) s.behind 0 i (omega (arith, length-map xs g)) ∙ map_back g d xs i h

one_back : (at v : ℕ) {l : List ℕ} → Stands at (v ∷ []) l → get_or l (at + 0) 0 ≡ v
one_back at v {l} s = sym (get_or-drop at l 0 0) ∙ ap (λ m. get_or m 0 0) s.here

-- number i of the first part
number_first : {A : Type 0} (g : A → ℕ) (d : A) (xs : List A) (i : ℕ) {l : List ℕ} → Stands 0 (map g xs) l → i < length xs → get_or l i 0 ≡ g (get_or xs i d)
number_first g d xs i {l} s h = let e : i ≡ 0 + i = omega arith in ap (λ j. get_or l j 0) e ∙ number_back g d xs 0 i s h

-- ---- A network

module _ (n : Network) (sized : SizedNetwork n) where
  switches_long : length (flat_map switch_bytes n.switches) ≡ 32
  switches_long = flat_length switch_bytes 2 no_switch n.switches (λ k h. refl) ∙ rw sized.switches

  hosts_long : length (flat_map host_bytes n.hosts) ≡ 64
  hosts_long = flat_length host_bytes 2 no_host n.hosts (λ k h. refl) ∙ rw sized.hosts

  switches_stand : Stands switches_at (flat_map switch_bytes n.switches) (network_bytes n)
  unfolding network_bytes
  switches_stand = stands_behind (counts n) 3 0 refl (stands_first _ _)

  hosts_stand : Stands hosts_at (flat_map host_bytes n.hosts) (network_bytes n)
  unfolding network_bytes
  hosts_stand = stands_behind (counts n) 3 32 refl (stands_behind (flat_map switch_bytes n.switches) 32 0 switches_long (stands_first _ _))

  links_stand : Stands links_at (flat_map link_bytes n.links) (network_bytes n)
  unfolding network_bytes
  links_stand =
      stands_behind (counts n) 3 96 refl
      (stands_behind (flat_map switch_bytes n.switches) 32 64 switches_long (stands_behind (flat_map host_bytes n.hosts) 64 0 hosts_long stands_alone))

  switch_back : (i : ℕ) → i < 16 → switch_in (network_bytes n) (network_salts n) i ≡ get_or n.switches i no_switch
  unfolding switch_in network_salts
  switch_back i h =
      let l : i < length n.switches = omega (arith, sized.switches) in
      rw (block_back switch_bytes 2 no_switch n.switches switches_at i switches_stand (λ k h. refl) l, map_back (λ s. s.salt) no_switch n.switches i l)

  host_back : (i : ℕ) → i < 32 → host_in (network_bytes n) (network_addresses n) i ≡ get_or n.hosts i no_host
  unfolding host_in network_addresses
  host_back i h =
      let l : i < length n.hosts = omega (arith, sized.hosts) in
      rw (block_back host_bytes 2 no_host n.hosts hosts_at i hosts_stand (λ k h. refl) l, map_back (λ s. s.address) no_host n.hosts i l)

  link_back : (i : ℕ) → i < 64 → link_in (network_bytes n) i ≡ get_or n.links i no_link
  unfolding link_in
  link_back i h =
      let l : i < length n.links = omega (arith, sized.links) in
      rw (block_back link_bytes 4 no_link n.links links_at i links_stand (λ k h. refl) l)

  counts_back : (get_or (network_bytes n) 0 0 ≡ n.nswitches) × (get_or (network_bytes n) 1 0 ≡ n.nhosts) × (get_or (network_bytes n) 2 0 ≡ n.nlinks)
  unfolding network_bytes
  counts_back = (refl, refl, refl)

pub network_reads_back : NetworkReadsBack
unfolding network_in
network_reads_back n sized =
    let ss : listed 16 (switch_in (network_bytes n) (network_salts n)) ≡ n.switches =
    listed_same 16 (switch_in (network_bytes n) (network_salts n)) (λ i. get_or n.switches i no_switch) (switch_back n sized) ∙ listed_all n.switches 16 no_switch sized.switches in
    let hs : listed 32 (host_in (network_bytes n) (network_addresses n)) ≡ n.hosts =
    listed_same 32 (host_in (network_bytes n) (network_addresses n)) (λ i. get_or n.hosts i no_host) (host_back n sized) ∙ listed_all n.hosts 32 no_host sized.hosts in
    let ls : listed 64 (link_in (network_bytes n)) ≡ n.links =
    listed_same 64 (link_in (network_bytes n)) (λ i. get_or n.links i no_link) (link_back n sized) ∙ listed_all n.links 64 no_link sized.links in
    let (a, b, c) = counts_back n sized in
    λ i. record { switches = ss i; hosts = hs i; links = ls i; nswitches = a i; nhosts = b i; nlinks = c i }

-- ---- A bench

-- a state as a number is read back
state_back : (x : Bool) → not (eqb (bit x) 0) ≡ x
state_back true = refl
state_back false = refl

module _ (b : Bench) (sized : SizedBench b) where
  states_long : length (map bit b.up) ≡ 64
  states_long = length-map b.up bit ∙ sized.up

  -- one number for each head
  column_long : (g : Seat → ℕ) → length (map g b.seats) ≡ 16
  column_long g = length-map b.seats g ∙ sized.seats.long

  slot_ports_long : length (flat_map (λ (s : Seat). s.switch.table.ports) b.seats) ≡ 1024
  slot_ports_long = even_length sized.seats.ports sized.seats.long

  slot_hops_long : length (flat_map (λ (s : Seat). s.switch.table.hops) b.seats) ≡ 1024
  slot_hops_long = even_length sized.seats.hops sized.seats.long

  addresses_long : length (flat_map (λ (s : Seat). s.switch.table.addresses) b.seats) ≡ 1024
  addresses_long = even_length sized.seats.addresses sized.seats.long

  -- behind the states, the ports and the limits
  behind_heads : (at : ℕ) {part rest : List ℕ} → Stands at part rest
      → Stands (96 + at) part (map bit b.up ++ (map (λ s. s.switch.setup.ports) b.seats ++ (map (λ s. s.switch.setup.limit) b.seats ++ rest)))
  behind_heads at {part} {rest} s =
      let e : 64 + (16 + (16 + at)) ≡ 96 + at = omega arith in
      rw (← e)
      (stands_behind (map bit b.up) 64 (16 + (16 + at)) states_long
      (stands_behind (map (λ s. s.switch.setup.ports) b.seats) 16 (16 + at) (column_long (λ s. s.switch.setup.ports))
      (stands_behind (map (λ s. s.switch.setup.limit) b.seats) 16 at (column_long (λ s. s.switch.setup.limit)) s)))

  states_stand : Stands 0 (map bit b.up) (bench_bytes b)
  unfolding bench_bytes
  states_stand = stands_first _ _

  ports_stand : Stands ports_at (map (λ s. s.switch.setup.ports) b.seats) (bench_bytes b)
  unfolding bench_bytes seat_bytes
  ports_stand = stands_behind (map bit b.up) 64 0 states_long (stands_first _ _)

  limits_stand : Stands limits_at (map (λ s. s.switch.setup.limit) b.seats) (bench_bytes b)
  unfolding bench_bytes seat_bytes
  limits_stand =
      stands_behind (map bit b.up) 64 16 states_long
      (stands_behind (map (λ s. s.switch.setup.ports) b.seats) 16 0 (column_long (λ s. s.switch.setup.ports)) (stands_first _ _))

  slot_ports_stand : Stands slot_ports_at (flat_map (λ s. s.switch.table.ports) b.seats) (bench_bytes b)
  unfolding bench_bytes seat_bytes
  slot_ports_stand = behind_heads 0 (stands_first _ _)

  slot_hops_stand : Stands slot_hops_at (flat_map (λ s. s.switch.table.hops) b.seats) (bench_bytes b)
  unfolding bench_bytes seat_bytes
  slot_hops_stand = behind_heads 1024 (stands_behind (flat_map (λ s. s.switch.table.ports) b.seats) 1024 0 slot_ports_long (stands_first _ _))

  cells_stand : Stands cells_at (flat_map (λ s. s.cells) b.seats) (bench_bytes b)
  unfolding bench_bytes seat_bytes
  cells_stand =
      behind_heads 2048
      (stands_behind (flat_map (λ s. s.switch.table.ports) b.seats) 1024 1024 slot_ports_long
      (stands_behind (flat_map (λ s. s.switch.table.hops) b.seats) 1024 0 slot_hops_long stands_alone))

  live_stand : Stands 0 (map (λ s. s.switch.setup.live) b.seats) (seat_masks b.seats)
  unfolding seat_masks
  live_stand = stands_first _ _

  host_stand : Stands host_masks_at (map (λ s. s.switch.setup.host) b.seats) (seat_masks b.seats)
  unfolding seat_masks
  host_stand = stands_behind (map (λ s. s.switch.setup.live) b.seats) 16 0 (column_long (λ s. s.switch.setup.live)) stands_alone

  salts_stand : Stands 0 (map (λ s. s.switch.setup.salt) b.seats) (seat_words b.seats)
  unfolding seat_words
  salts_stand = stands_first _ _

  nonces_stand : Stands nonces_at (map (λ s. s.switch.nonce) b.seats) (seat_words b.seats)
  unfolding seat_words
  nonces_stand = stands_behind (map (λ s. s.switch.setup.salt) b.seats) 16 0 (column_long (λ s. s.switch.setup.salt)) stands_alone

  addresses_stand : Stands 0 (flat_map (λ s. s.switch.table.addresses) b.seats) (bench_wides b)
  unfolding bench_wides seat_wides
  addresses_stand = stands_first _ _

  copies_stand : Stands copies_at (flat_map pack b.copies) (bench_wides b)
  unfolding bench_wides seat_wides
  copies_stand = stands_behind (flat_map (λ s. s.switch.table.addresses) b.seats) 1024 0 addresses_long (stands_first _ _)

  flying_stands : Stands flying_at (b.flying ∷ []) (bench_wides b)
  unfolding bench_wides seat_wides
  flying_stands =
      stands_behind (flat_map (λ s. s.switch.table.addresses) b.seats) 1024 1536 addresses_long
      (stands_behind (flat_map pack b.copies) 1536 0 (copies_length b.copies sized.copies.long) stands_alone)

  up_back : (i : ℕ) → i < 64 → up_in (bench_bytes b) i ≡ get_or b.up i false
  unfolding up_in
  up_back i h = rw (number_first bit false b.up i states_stand (omega (arith, sized.up))) (state_back (get_or b.up i false))

  copy_back : (i : ℕ) → i < 512 → copy_in (bench_wides b) i ≡ get_or b.copies i no_copy
  unfolding copy_in pack
  copy_back i h =
      ap unpack (block_back pack 3 no_copy b.copies copies_at i copies_stand (λ k l. refl) (omega (arith, sized.copies.long)))
      ∙ unpack_pack (sized.copies.ranged i h)

  flying_back : get_or (bench_wides b) flying_at 0 ≡ b.flying
  flying_back = one_back flying_at b.flying flying_stands

  -- the rows of the heads
  row_back : (f : Seat → List ℕ) (w at k : ℕ) {l : List ℕ} → Evenly f w b.seats → Stands at (flat_map f b.seats) l → k < 16 → block at w k l ≡ f (get_or b.seats k no_seat)
  row_back f w at k even s h =
      block_back f w no_seat b.seats at k s (λ j l. even.even j (omega (arith, sized.seats.long))) (omega (arith, sized.seats.long))

  seat_back : (k : ℕ) → k < 16 → seat_in (bench_bytes b) (seat_masks b.seats) (seat_words b.seats) (bench_wides b) k ≡ get_or b.seats k no_seat
  unfolding seat_in setup_in
  seat_back k h =
      let l : k < length b.seats = omega (arith, sized.seats.long) in
      rw (
        number_back (λ s. s.switch.setup.ports) no_seat b.seats ports_at k ports_stand l,
        number_first (λ s. s.switch.setup.live) no_seat b.seats k live_stand l,
        number_back (λ s. s.switch.setup.host) no_seat b.seats host_masks_at k host_stand l,
        number_back (λ s. s.switch.setup.limit) no_seat b.seats limits_at k limits_stand l,
        number_first (λ s. s.switch.setup.salt) no_seat b.seats k salts_stand l,
        number_back (λ s. s.switch.nonce) no_seat b.seats nonces_at k nonces_stand l,
        row_back (λ s. s.switch.table.addresses) 64 0 k sized.seats.addresses addresses_stand h,
        row_back (λ s. s.switch.table.ports) 64 slot_ports_at k sized.seats.ports slot_ports_stand h,
        row_back (λ s. s.switch.table.hops) 64 slot_hops_at k sized.seats.hops slot_hops_stand h,
        row_back (λ s. s.cells) 640 cells_at k sized.seats.cells cells_stand h,
      )

pub bench_reads_back : BenchReadsBack
unfolding bench_in
bench_reads_back b sized =
    let us : listed 64 (up_in (bench_bytes b)) ≡ b.up =
    listed_same 64 (up_in (bench_bytes b)) (λ i. get_or b.up i false) (up_back b sized) ∙ listed_all b.up 64 false sized.up in
    let ss : listed 16 (seat_in (bench_bytes b) (seat_masks b.seats) (seat_words b.seats) (bench_wides b)) ≡ b.seats =
    listed_same 16 (seat_in (bench_bytes b) (seat_masks b.seats) (seat_words b.seats) (bench_wides b)) (λ i. get_or b.seats i no_seat) (seat_back b sized)
    ∙ listed_all b.seats 16 no_seat sized.seats.long in
    let cs : listed 512 (copy_in (bench_wides b)) ≡ b.copies =
    listed_same 512 (copy_in (bench_wides b)) (λ i. get_or b.copies i no_copy) (copy_back b sized) ∙ listed_all b.copies 512 no_copy sized.copies.long in
    let f : get_or (bench_wides b) flying_at 0 ≡ b.flying = flying_back b sized in
    λ i. bench_of b.network (us i) (ss i) (cs i) (f i)
