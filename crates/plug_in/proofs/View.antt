-- A bench as a moment of a flood: the frame from address x, which filters know by a key. The history since it was sent tells what each port has sent.
use Prim.Native.Nat.{ℕ, ◌+◌, ◌≤◌, ◌<◌}
use mathlib.Core.Path.{◌≡◌, sym, ap, ◌∙◌}
use mathlib.Core.Logic.{◌≢◌, by_cases}
use mathlib.Core.Bool.{Bool, cond}
use mathlib.Core.List.{List, [], ◌∷◌, ◌++◌, Memᴰ}
use native.Mathlib.Decide.{dec_lt}
use native.Mathlib.Omega.{arith}
use lib.Dec.{ltb}
use borrow.Author.Tests.{le-ltb, lt-ltb}
use Rattle.std.proofs.lemmas.Option.{same_Some}
use Rattle.frame.specs.Header.{bit}
use Rattle.network.specs.declared.Network.{Network}
use Rattle.network.specs.declared.Port.{Port}
use Rattle.network.specs.Checks.{network_fault}
use Rattle.std.specs.Prelude.{Option, Some, None}
use Rattle.table.specs.declared.Entry.{Entry}
use Rattle.table.specs.Table.{entry_of, lookup_of}
use Rattle.filter.specs.Filter.{holds}
use Rattle.rules.specs.declared.Arrival.{Arrival}
use Rattle.seat.specs.declared.Seat.{Seat}
use Rattle.flight.specs.declared.Copy.{Copy}
use Rattle.turn.specs.Turn.{Answer, host_of, port_to}
use Rattle.bench.specs.declared.Bench.{Bench}
use Rattle.bench.specs.Bench.{in_flight, no_seat, seat_at}
use Rattle.counters.specs.History.{Moment as Happened}
use Rattle.flood.specs.Delivery.{Moment, Start}
use Rattle.flood.specs.Records.{NamesAlone, Records}
use Rattle.flood.proofs.Laws.{Same}
use Rattle.plug_in.specs.Words.{sends_by, times}
use Rattle.plug_in.proofs.Happening.{Steps}
use Rattle.plug_in.proofs.Mesh.{mesh, same_port}

-- ---- The heads of a stand, and empty ones beyond

-- head t
unfoldable pub head_at : Network → Bench → ℕ → Seat
head_at n b t = cond (ltb t n.nswitches) (seat_at b t) no_seat

-- of the stand
pub head_inside : (n : Network) (b : Bench) {t : ℕ} → t < n.nswitches → head_at n b t ≡ seat_at b t
unfolding head_at
head_inside n b {t} h = rw (lt-ltb t n.nswitches h)

-- beyond it
pub head_beyond : (n : Network) (b : Bench) {t : ℕ} → n.nswitches ≤ t → head_at n b t ≡ no_seat
unfolding head_at
head_beyond n b {t} h = rw (le-ltb t n.nswitches h)

-- the filter of head t holds a key
unfoldable pub held_in : Network → Bench → List ℕ → ℕ → Bool
held_in n b key t = holds (head_at n b t).cells (head_at n b t).switch.setup.salt key

-- what the table of head t has for an address
unfoldable pub found_in : Network → Bench → ℕ → ℕ → Option Entry
found_in n b x t = lookup_of (head_at n b t).switch.table x

-- the hop count of what was found
abbrev pub hops_of : Option Entry → ℕ
hops_of (Some e) = e.hops
hops_of None = 0

-- where a head stays, so does its filter
pub same_held : (n : Network) (b c : Bench) (key : List ℕ) (t : ℕ) → head_at n c t ≡ head_at n b t → held_in n c key t ≡ held_in n b key t
unfolding held_in
same_held n b c key t e = ap (λ (s : Seat). holds s.cells s.switch.setup.salt key) e

-- and its table
pub same_found : (n : Network) (b c : Bench) (x t : ℕ) → head_at n c t ≡ head_at n b t → found_in n c x t ≡ found_in n b x t
unfolding found_in
same_found n b c x t e = ap (λ (s : Seat). lookup_of s.switch.table x) e

-- a head stays where a head of the stand does
pub same_head : (n : Network) (b c : Bench) (t : ℕ) → (t < n.nswitches → seat_at c t ≡ seat_at b t) → head_at n c t ≡ head_at n b t
same_head n b c t stays =
    by_cases (dec_lt t n.nswitches) (λ h. head_inside n c h ∙ stays h ∙ sym (head_inside n b h)) (λ h. head_beyond n c (omega arith) ∙ sym (head_beyond n b (omega arith)))

-- the heads that don't step stay
others_stay : {b c : Bench} {k : ℕ} {a : Arrival} {rest : List Copy} {told : Answer} → Steps b k a rest c told → (t : ℕ) → t ≢ k → head_at b.network c t ≡ head_at b.network b t
others_stay {b} {c} v t d = same_head b.network b c t (λ h. v.others t h d)

-- and so do their filters
pub held_elsewhere : {b c : Bench} {k : ℕ} {a : Arrival} {rest : List Copy} {told : Answer} → Steps b k a rest c told → (key : List ℕ) (t : ℕ) → t ≢ k → held_in b.network c key t ≡ held_in b.network b key t
held_elsewhere v key t d = same_held _ _ _ key t (others_stay v t d)

-- and their tables
pub found_elsewhere : {b c : Bench} {k : ℕ} {a : Arrival} {rest : List Copy} {told : Answer} → Steps b k a rest c told → (x t : ℕ) → t ≢ k → found_in b.network c x t ≡ found_in b.network b x t
found_elsewhere v x t d = same_found _ _ _ x t (others_stay v t d)

-- ---- The copies in flight

-- a copy of the frame from x is in flight to port p, with k hops
pub record Flies (n : Network) (x : ℕ) (b : Bench) (p : Port) (k : ℕ) : Type 0 where
  pub copy : Copy
  pub there : Memᴰ copy (in_flight b)
  pub mine : copy.source ≡ x
  pub to : port_to n copy ≡ p
  pub hops : copy.header.hc ≡ k

-- and so it is in another bench, where that copy is in flight
pub still_flies : {n : Network} {x : ℕ} {b c : Bench} {p : Port} {k : ℕ} (w : Flies n x b p k) → Memᴰ w.copy (in_flight c) → Flies n x c p k
still_flies w there = record { copy = w.copy; there = there; mine = w.mine; to = w.to; hops = w.hops }

-- ---- The view

module _ (n : Network) (up : List Bool) (fine : network_fault n ≡ 0) (x : ℕ) where
  -- its filters, its copies in flight, and what its ports have sent
  unfoldable pub moment : List ℕ → Bench → List Happened → Moment (mesh n up fine)
  moment key b h = record { holds = held_in n b key; flies = Flies n x b; sent = λ p. times (sends_by x p.switch p.number) h }

  -- its entries for x
  unfoldable pub records : Bench → Records (mesh n up fine)
  records b = record { names = λ p. (h : ℕ) × (found_in n b x p.switch ≡ Some (entry_of p.number h)); hops = λ t. hops_of (found_in n b x t) }

  -- what a switch has recorded stays where its entry does
  pub same_record : (b c : Bench) (t : ℕ) → found_in n c x t ≡ found_in n b x t → Same (records b) (records c) t
  unfolding records
  same_record b c t e =
      record {
        names = λ p d. let z : found_in n c x p.switch ≡ found_in n b x p.switch = rw d e in ((λ v. (v.0, sym z ∙ v.1)), (λ v. (v.0, z ∙ v.1)));
        hops = ap hops_of e;
      }

  -- an entry names its port alone
  pub alone : (b : Bench) (p : Port) (h : ℕ) → found_in n b x p.switch ≡ Some (entry_of p.number h) → NamesAlone {M = mesh n up fine} p h (records b)
  unfolding records
  alone b p h e =
      record {
        named = (h, e);
        only = λ q d v. same_port d (sym (ap (λ (e : Entry). e.port) (same_Some _ _ (sym (ap (found_in n b x) d ∙ e) ∙ v.1))));
        hops = ap hops_of e;
      }

  -- where a flood of host A's frame begins: at its switch, with one hop, and all other hosts are to receive it
  abbrev pub start : ℕ → Start (mesh n up fine)
  start A = record { switch = (host_of n A).port.switch; hops = 1; Due = λ p. (i : ℕ) × (i < n.nhosts) × (i ≢ A) × ((host_of n i).port ≡ p) }

-- ---- The history

-- the port of host i sends a frame from x, by a report
abbrev pub sends_to : ℕ → Network → ℕ → Answer → Bool
sends_to x n i = sends_by x (host_of n i).port.switch (host_of n i).port.number

-- with one answer more
pub times_more : (is : Answer → Bool) (h : List Happened) (m : Happened) → times is (h ++ (m ∷ [])) ≡ times is h + bit (is m.answer)
unfolding times
times_more is [] m = omega arith
times_more is (g ∷ h) m = let ih = times_more is h m in omega arith

-- with an answer that says the same of both
pub times_alike : (is js : Answer → Bool) (h : List Happened) (m : Happened) → times is h ≡ times js h → is m.answer ≡ js m.answer → times is (h ++ (m ∷ [])) ≡ times js (h ++ (m ∷ []))
times_alike is js h m before same = let a = times_more is h m in let b = times_more js h m in cc
