-- A head's step, seen as part of a flood: what its filter holds and its table has afterwards is what the rules leave, and the answer tells which port sent.
use Prim.Native.Nat.{ℕ, ◌+◌, ◌^◌, ◌≤◌, ◌<◌}
use mathlib.Core.Path.{◌≡◌, sym, ap, ◌∙◌}
use mathlib.Core.Logic.{by_cases}
use mathlib.Core.Bool.{Bool, true, false, ◌&&◌}
use mathlib.Core.List.{List, [], ◌∷◌, ◌++◌}
use native.Mathlib.Decide.{ℕ_discrete}
use native.Mathlib.Nat.{mod-eq_of_lt}
use native.Mathlib.Omega.{arith}
use lib.Dec.{eqb}
use Rattle.wire.specs.Wire.{bytes_of, number, part}
use Rattle.wire.proofs.Laws.{written_back}
use Rattle.table.specs.Table.{lookup_of}
use Rattle.filter.specs.Filter.{holds}
use Rattle.filter.specs.Triple.{triple}
use Rattle.frame.proofs.Laws.{bit_small}
use Rattle.rules.specs.Mask.{names}
use Rattle.rules.specs.Rules.{Ruled, rules}
use Rattle.rules.specs.declared.Arrival.{Arrival}
use Rattle.rules.proofs.Laws.{never_full}
use Rattle.seat.specs.declared.Seat.{Seat}
use Rattle.seat.specs.Seat.{step_of}
use Rattle.seat.proofs.Laws.{step_cells, step_setup, step_table}
use Rattle.flight.specs.declared.Copy.{Copy}
use Rattle.turn.specs.Turn.{Answer}
use Rattle.bench.specs.declared.Bench.{Bench}
use Rattle.bench.specs.Bench.{seat_at}
use Rattle.counters.specs.History.{Moment as Happened}
use Rattle.flood.specs.Mesh.{Mesh}
use Rattle.flood.specs.Delivery.{Moment, Start}
use Rattle.flood.specs.Records.{Records}
use Rattle.flood.proofs.Laws.{Same}
use Rattle.plug_in.specs.Words.{receives_by, sends_by, times}
use Rattle.plug_in.proofs.Happening.{Steps, out_in, sent_in}
use Rattle.plug_in.proofs.Mesh.{mesh}
use Rattle.plug_in.proofs.Reached.{Reached}
use Rattle.plug_in.proofs.Stand.{addresses, addresses_length, few_hosts, hosts_listed}
use Rattle.plug_in.proofs.View.{found_in, head_inside, held_in, found_elsewhere, moment, records, same_record, start, times_more}

-- two triples of different sources are different
pub sources_apart : (m n : ℕ) {a b j k : ℕ} → a < 2 ^ 48 → b < 2 ^ 48 → triple a m j ≡ triple b n k → a ≡ b
sources_apart m n {a} {b} small_a small_b e =
    let bytes : bytes_of 6 a ≡ bytes_of 6 b = ap (part 0 6) e in
    sym (mod-eq_of_lt small_a) ∙ sym (written_back 6 a) ∙ ap number bytes ∙ written_back 6 b ∙ mod-eq_of_lt small_b

-- ---- The view of a bench c, where b had the same network and links

-- the mesh
abbrev pub mesh_in : (b : Bench) → Reached b → Mesh
mesh_in b r = mesh b.network b.up r.shape.described

-- where A's flood starts
abbrev pub start_in : (b : Bench) (r : Reached b) → ℕ → ℕ → Start (mesh_in b r)
start_in b r x A = start b.network b.up r.shape.described x A

-- the moment
abbrev pub moment_in : (b : Bench) (r : Reached b) → ℕ → ℕ → Bench → List Happened → Moment (mesh_in b r)
moment_in b r x nonce c h = moment b.network b.up r.shape.described x (triple x nonce 1) c h

-- the records
abbrev pub records_in : (b : Bench) (r : Reached b) → ℕ → Bench → Records (mesh_in b r)
records_in b r x c = records b.network b.up r.shape.described x c

-- a record stays where its entry does
pub same_in : {b : Bench} (r : Reached b) (x : ℕ) (c : Bench) (t : ℕ) → found_in b.network c x t ≡ found_in b.network b x t → Same (records_in b r x b) (records_in b r x c) t
same_in {b} r x c t e = same_record b.network b.up r.shape.described x b c t e

-- ---- A step

-- what the rules leave of head k's arrival
abbrev pub ruled : Bench → ℕ → Arrival → Ruled
ruled b k a = rules (seat_at b k).switch.setup (seat_at b k).switch.table (seat_at b k).cells a

-- a filter with the salt of head k holds a key
abbrev pub keeps : Bench → ℕ → List ℕ → List ℕ → Bool
keeps b k cells key = holds cells (seat_at b k).switch.setup.salt key

-- ---- Before

module _ (b : Bench) (k : ℕ) (inside : k < b.network.nswitches) where
  -- what its filter holds
  pub held_at : (key : List ℕ) → held_in b.network b key k ≡ keeps b k (seat_at b k).cells key
  unfolding held_in
  held_at key = ap (λ (s : Seat). holds s.cells s.switch.setup.salt key) (head_inside b.network b inside)

  -- what its table has
  pub found_at : (x : ℕ) → found_in b.network b x k ≡ lookup_of (seat_at b k).switch.table x
  unfolding found_in
  found_at x = ap (λ (s : Seat). lookup_of s.switch.table x) (head_inside b.network b inside)

  -- hosts are fewer than slots, so no step finds the table full
  pub has_room : Reached b → (a : Arrival) → (ruled b k a).report.full ≡ false
  has_room r a =
      never_full (seat_at b k).switch.setup (seat_at b k).switch.table (seat_at b k).cells a (r.shape.seats k inside).formed.table
      (addresses b.network b.network.nhosts) (omega (arith, addresses_length b.network b.network.nhosts, few_hosts b.network r.shape.described))
      (λ x held. hosts_listed b.network (r.named.entries k inside x held))

-- ---- Afterwards

module _ {b : Bench} {k : ℕ} {a : Arrival} {rest : List Copy} {c : Bench} {told : Answer} (v : Steps b k a rest c told) where
  module _ (inside : k < b.network.nswitches) where
    -- the filter holds what the rules left
    pub held_after : (key : List ℕ) → held_in b.network c key k ≡ keeps b k (ruled b k a).filter key
    unfolding held_in
    held_after key =
        ap (λ (s : Seat). holds s.cells s.switch.setup.salt key) (head_inside b.network c inside ∙ v.seat)
        ∙ ap (λ cells. holds cells (step_of (seat_at b k) a).seat.switch.setup.salt key) (step_cells (seat_at b k) a)
        ∙ ap (λ setup. holds (ruled b k a).filter setup.salt key) (step_setup (seat_at b k) a)

    -- the table has what the rules left
    pub found_after : (x : ℕ) → found_in b.network c x k ≡ lookup_of (ruled b k a).table x
    unfolding found_in
    found_after x = ap (λ (s : Seat). lookup_of s.switch.table x) (head_inside b.network c inside ∙ v.seat) ∙ ap (λ t. lookup_of t x) (step_table (seat_at b k) a)

    -- where the rules leave what there was for an address, no table of the stand changes for it
    pub found_stays : (x : ℕ) → lookup_of (ruled b k a).table x ≡ lookup_of (seat_at b k).switch.table x → (t : ℕ) → found_in b.network c x t ≡ found_in b.network b x t
    found_stays x same t =
        by_cases (ℕ_discrete t k) (λ e. rw e (found_after x ∙ same ∙ sym (found_at b k inside x))) (λ d. found_elsewhere v x t d)

  -- ---- The answer

  -- which port sent a frame from x
  pub sends_is : (x t p : ℕ) → sends_by x t p told ≡ (eqb a.source x && eqb k t && names (sent_in b k a).mask p)
  sends_is x t p = ap (sends_by x t p) v.answer

  -- which host received a frame from x
  pub receives_is : (x i : ℕ) → receives_by x i told ≡ (eqb a.source x && names (out_in b k a rest).received i)
  receives_is x i = ap (receives_by x i) v.answer

-- an answer by which it isn't so adds nothing
pub times_not : (is : Answer → Bool) (h : List Happened) (m : Happened) → is m.answer ≡ false → times is (h ++ (m ∷ [])) ≡ times is h
times_not is h m e = times_more is h m ∙ rw e (omega arith)

-- one by which it is so adds one
pub times_one : (is : Answer → Bool) (h : List Happened) (m : Happened) → is m.answer ≡ true → times is (h ++ (m ∷ [])) ≡ times is h + 1
times_one is h m e = times_more is h m ∙ rw e

-- none adds more
pub times_few : (is : Answer → Bool) (h : List Happened) (m : Happened) → times is (h ++ (m ∷ [])) ≤ times is h + 1
times_few is h m = let e = times_more is h m in let few = bit_small (is m.answer) in omega arith
