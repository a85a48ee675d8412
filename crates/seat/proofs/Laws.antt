-- What a caller may know of a seat, in place of its text. What the rules do with table and filter is said by the laws of `rules`, through `step_table`, `step_cells` and `step_report_lem`.
use mathlib.Core.Path.{◌≡◌, refl}
use mathlib.Core.Logic.{◌↔◌}
use mathlib.Core.Bool.{true}
use mathlib.Core.List.{List}
use Prim.Native.Nat.{ℕ, ◌^◌, ◌<◌}
use native.Mathlib.Omega.{arith}
use lib.ListN.{length}
use borrow.Author.Tests.{leb-false}
use Rattle.std.specs.Prelude.{None, Some}
use Rattle.refusal.specs.Refusal.{first}
use Rattle.refusal.proofs.Laws.{inside, none_holds}
use Rattle.wire.specs.Address.{Source}
use Rattle.table.specs.Table as table
use Rattle.table.specs.Table.{Sized, lookup_of}
use Rattle.table.specs.declared.Table.{Table}
use Rattle.table.proofs.Laws.{empty_well_formed}
use Rattle.filter.specs.Triple as filter
use Rattle.filter.proofs.Laws.{recorded_long, zeros_well_formed}
use Rattle.frame.specs.declared.Header.{Header}
use Rattle.rules.specs.Mask.{names}
use Rattle.rules.specs.Rules.{hop_header, nonce_on, rules, triple_of}
use Rattle.rules.specs.Verdict.{sending_of, sent_by}
use Rattle.rules.specs.Words.{Arrives, Fair}
use Rattle.rules.specs.declared.Setup.{Setup}
use Rattle.rules.specs.declared.Arrival.{Arrival}
use Rattle.rules.specs.declared.Send.{Send}
use Rattle.rules.proofs.Laws.{mask_live, mask_within, sent_fairly, stays_sized}
use Rattle.rules.proofs.Ways.{filter_keeps, way}
use Rattle.head.specs.Step.{switch_of}
use Rattle.head.specs.Switch.{WellFormed, switch_causes}
use Rattle.head.proofs.Laws.{rules_keep, switch_test}
use Rattle.head.proofs.Refusals.{switch_numbered}
use Rattle.seat.specs.Seat.{arrival_of, cell_bytes, fresh_seat, from_host, from_link, host_header, step_of, with_setup}
use Rattle.seat.specs.Words.{Formed, Lawful, MaySend}
use Rattle.seat.specs.declared.Seat.{Seat}

-- ---- Well-formed seats

-- refusal 1 finds nothing exactly where a seat is well-formed; its table has its 64 slots by its type
pub refusal_formed : (s : Seat) → Sized s.switch.table → (first (switch_causes s.switch s.cells) ≡ 0) ↔ Formed s
refusal_formed s sized = switch_test s.switch s.cells sized

-- a well-formed seat passes it
pub formed_passes : {s : Seat} → Formed s → first (switch_causes s.switch s.cells) ≡ 0
formed_passes {s} formed = (refusal_formed s formed.table.sized).1 formed

-- a seat that passes has a lawful setup, whatever is known of its table's length
pub passes_lawful : (s : Seat) → first (switch_causes s.switch s.cells) ≡ 0 → Lawful s.switch.setup
passes_lawful s e =
    let none = none_holds (switch_causes s.switch s.cells) (switch_numbered s.switch s.cells) e in
    let ports = inside 1 16 s.switch.setup.ports none.0 in
    let limit = inside 1 62 s.switch.setup.limit none.1.1.1.0 in
    record {
      some_ports = ports.0;
      few_ports = ports.1;
      live_ports = leb-false _ _ none.1.0;
      host_ports = leb-false _ _ none.1.1.0;
      some_limit = limit.0;
      low_limit = limit.1;
    }

-- and so has a well-formed one
pub formed_lawful : {s : Seat} → Formed s → Lawful s.switch.setup
formed_lawful {s} formed = passes_lawful s (formed_passes formed)

-- lawful and well-formed parts make a well-formed switch and filter
of_parts : {setup : Setup} {nonce : ℕ} {t : Table} {f : List ℕ} → Lawful setup → nonce < 2 ^ 24 → table.WellFormed setup.ports t → filter.WellFormed f → WellFormed (switch_of setup nonce t) f
of_parts lawful below slots cells = record {
  some_ports = lawful.some_ports;
  few_ports = lawful.few_ports;
  live_ports = lawful.live_ports;
  host_ports = lawful.host_ports;
  some_limit = lawful.some_limit;
  low_limit = lawful.low_limit;
  nonce = below;
  table = slots;
  filter = cells;
}

-- a fresh seat is well-formed under any lawful setup
pub fresh_formed : {setup : Setup} → Lawful setup → Formed (fresh_seat setup)
unfolding fresh_seat
fresh_formed {setup} lawful =
    of_parts lawful (omega arith) (empty_well_formed setup.ports) (zeros_well_formed {n = 64} (record { exponent = 6; power = refl; least = omega arith; most = omega arith }))

-- a seat stays well-formed under another lawful setup of as many ports
pub with_setup_formed : (s : Seat) {setup : Setup} → Formed s → Lawful setup → setup.ports ≡ s.switch.setup.ports → Formed (with_setup setup s)
with_setup_formed s formed lawful same = of_parts lawful formed.nonce (rw same formed.table) formed.filter

-- ---- What arrives

module _ (s : Seat) (port source destination : ℕ) where
  -- a host's frame: its addresses, and the header that rule 1 gives it
  pub host_arrival_lem : from_host s port source destination ≡ arrival_of port source destination (host_header s.switch.nonce s.switch.table source)
  unfolding from_host
  host_arrival_lem = refl

  -- from a source, on a port of the switch, it arrives one hop away
  pub host_arrives : {n : ℕ} → Source source → port < n → Arrives n (from_host s port source destination)
  unfolding from_host
  host_arrives from within = record { source = from; port = within; hops = omega arith }

  -- its nonce is below 2^24
  pub host_nonce : Formed s → (from_host s port source destination).header.nonce < 2 ^ 24
  unfolding from_host
  host_nonce formed = formed.nonce

  -- where the source has no entry it starts as a flood: L and F set, one hop
  pub unknown_host_floods : lookup_of s.switch.table source ≡ None
      → (from_host s port source destination).header ≡ record { l = true; f = true; hc = 1; nonce = s.switch.nonce }
  unfolding from_host
  unknown_host_floods absent = rw absent

module _ (port source destination : ℕ) (h : Header) where
  -- a copy from a link: its addresses and its header, one hop more
  pub link_arrival : from_link port source destination h ≡ arrival_of port source destination (hop_header h)
  unfolding from_link
  link_arrival = refl

  -- from a source, on a port of the switch, it arrives some hops away
  pub link_arrives : {n : ℕ} → Source source → port < n → Arrives n (from_link port source destination h)
  unfolding from_link
  link_arrives from within = record { source = from; port = within; hops = omega arith }

  -- its nonce stays
  pub link_nonce : (from_link port source destination h).header.nonce ≡ h.nonce
  unfolding from_link
  link_nonce = refl

-- ---- The step

module _ (s : Seat) (a : Arrival) where
  -- the setup stays, and the nonce advances where that is a host port
  pub step_setup : (step_of s a).seat.switch.setup ≡ s.switch.setup
  unfolding step_of
  step_setup = refl

  pub step_nonce : (step_of s a).seat.switch.nonce ≡ nonce_on s.switch.setup s.switch.nonce a.port
  unfolding step_of
  step_nonce = refl

  -- table, filter and report are those of rules 2 to 11
  pub step_table : (step_of s a).seat.switch.table ≡ (rules s.switch.setup s.switch.table s.cells a).table
  unfolding step_of
  step_table = refl

  pub step_cells : (step_of s a).seat.cells ≡ (rules s.switch.setup s.switch.table s.cells a).filter
  unfolding step_of
  step_cells = refl

  pub step_report_lem : (step_of s a).report ≡ (rules s.switch.setup s.switch.table s.cells a).report
  unfolding step_of
  step_report_lem = refl

  -- the seat stays well-formed
  pub step_formed : Formed s → Arrives s.switch.setup.ports a → Formed (step_of s a).seat
  unfolding step_of
  step_formed formed arrives = rules_keep formed a arrives a.port

  -- what is sent goes to live ports only and carries the arrival's hop count, within the limit, and its nonce
  pub step_fair : (c : Send) → sending_of (step_of s a).report.verdict ≡ Some c → Fair s.switch.setup a c
  unfolding step_of
  step_fair = sent_fairly s.switch.setup s.switch.table s.cells a

  -- so a well-formed seat sends only what it may
  pub may_send : Formed s → Arrives s.switch.setup.ports a → a.header.nonce < 2 ^ 24
      → (c : Send) → sending_of (step_of s a).report.verdict ≡ Some c → MaySend s c
  may_send formed arrives below c e =
      let fair = step_fair c e in
      let some = arrives.hops in
      let low = formed.low_limit in
      record { live = fair.live; some_hops = omega arith; low_hops = omega arith; nonce = omega arith }

  -- the mask of a report names live ports only, and so ports of the switch
  pub step_mask_live : (p : ℕ) → names (sent_by (sending_of (step_of s a).report.verdict)).mask p ≡ true → names s.switch.setup.live p ≡ true
  unfolding step_of
  step_mask_live = mask_live s.switch.setup s.switch.table s.cells a

  pub step_mask_within : Formed s → (p : ℕ) → names (sent_by (sending_of (step_of s a).report.verdict)).mask p ≡ true → p < s.switch.setup.ports
  unfolding step_of
  step_mask_within formed = mask_within s.switch.setup s.switch.table s.cells a formed.live_ports

-- ---- Lengths: of a value they are known by its type, and a fresh seat has them and a step keeps them

pub fresh_sized : (setup : Setup) → Sized (fresh_seat setup).switch.table
unfolding fresh_seat
fresh_sized setup = (empty_well_formed 0).sized

pub fresh_cells_long : (setup : Setup) → length (fresh_seat setup).cells ≡ cell_bytes
unfolding fresh_seat
fresh_cells_long setup = refl

module _ (s : Seat) (a : Arrival) where
  pub step_sized : Sized s.switch.table → Sized (step_of s a).seat.switch.table
  unfolding step_of
  step_sized = stays_sized s.switch.setup s.switch.table s.cells a

  pub step_cells_long : length (step_of s a).seat.cells ≡ length s.cells
  unfolding step_of
  step_cells_long =
      filter_keeps s.switch.setup s.switch.table s.cells a (λ g _. length g ≡ length s.cells) refl
      (λ h. recorded_long s.cells s.switch.setup.salt (triple_of a h)) (way s.switch.setup s.switch.table s.cells a)
