-- What a caller may know of a step, in place of its text: of rule 1, of whole steps, of answers. The laws of the rules are those of `rules`.
use mathlib.Core.Path.{◌≡◌, sym, ◌∙◌}
use mathlib.Core.Logic.{◌↔◌}
use mathlib.Core.Bool.{true, false}
use mathlib.Core.List.{List}
use Prim.Native.Nat.{ℕ, ◌≤◌}
use native.Mathlib.Omega.{arith}
use Rattle.std.specs.Prelude.{None, Some}
use Rattle.refusal.specs.Refusal.{first}
use Rattle.refusal.specs.Number.{told}
use Rattle.refusal.specs.OneOutcome.{TellsApart}
use Rattle.wire.specs.Wire.{AreBytes}
use Rattle.wire.proofs.Laws.{source_iff}
use Rattle.table.specs.Table.{Sized, lookup_of}
use Rattle.frame.specs.declared.Header.{Header}
use Rattle.frame.specs.Frame.{header_in, source_of}
use Rattle.frame.specs.RoundTrip.{GivesBack}
use Rattle.head.specs.Switch.{WellFormed, switch_causes}
use Rattle.rules.specs.Rules.{hop_header, host_header, on_host_port, rule1, rules}
use Rattle.head.specs.Step.{outgoing, refusal, refusal_but1, ruled, switch_after}
use Rattle.rules.specs.Verdict.{report_values, sending_of}
use Rattle.rules.proofs.Laws.{filter_formed, nonce_small, sent_fairly, table_formed}
use Rattle.head.specs.declared.Switch.{Switch}
use Rattle.rules.specs.declared.Arrival.{Arrival}
use Rattle.rules.specs.declared.Send.{Send}
use Rattle.head.proofs.Refusals.{passed_1, passed_port, passed_source}
use Rattle.rules.specs.Words.{Arrives}
use Rattle.rules.proofs.Ways.{by_test}
use Rattle.refusal.proofs.Told as refusals
use Rattle.head.proofs.LawsOfSwitch as switches
use Rattle.head.proofs.LawsOfOutput as outputs
use Rattle.head.proofs.LawsOfAnswer as answers

-- ---- Rule 1

module _ (sw : Switch) (port : ℕ) (frame : List ℕ) where
  pub host_header_lem : on_host_port sw.setup port ≡ true → (rule1 sw.setup sw.nonce sw.table port frame).header ≡ host_header sw.nonce sw.table frame
  unfolding rule1
  host_header_lem e = rw e

  pub hop_header_lem : on_host_port sw.setup port ≡ false → (rule1 sw.setup sw.nonce sw.table port frame).header ≡ hop_header (header_in frame)
  unfolding rule1
  hop_header_lem e = rw e

  -- a host's frame whose source has no entry starts as a flood: L and F set, one hop
  pub unknown_host_floods : on_host_port sw.setup port ≡ true → lookup_of sw.table (source_of frame) ≡ None
      → (rule1 sw.setup sw.nonce sw.table port frame).header ≡ record { l = true; f = true; hc = 1; nonce = sw.nonce }
  unknown_host_floods e absent = host_header_lem e ∙ rw absent

  -- an accepted frame arrives from a source, on a port of the switch, one hop or more away
  pub rule1_arrives : (room : ℕ) → refusal_but1 sw.setup port frame room ≡ 0 → Arrives sw.setup.ports (rule1 sw.setup sw.nonce sw.table port frame)
  unfolding rule1
  rule1_arrives room none = record {
    source = (source_iff (source_of frame)).0 (passed_source sw.setup port frame room none);
    port = passed_port sw.setup port frame room none;
    hops = by_test (λ (h : Header). 1 ≤ h.hc) (on_host_port sw.setup port) (λ _. omega arith) (λ _. omega arith);
  }

-- ---- Whole steps

-- refusal 1 finds nothing exactly where switch and filter are well-formed; a switch's table has its 64 slots by its type
pub switch_test : (sw : Switch) (f : List ℕ) → Sized sw.table → (first (switch_causes sw f) ≡ 0) ↔ WellFormed sw f
switch_test sw f sized = (switches.test_sound sw f sized, switches.test_complete sw f)

module _ {sw : Switch} {f : List ℕ} (formed : WellFormed sw f) where
  -- so whoever has tested once may skip it
  pub without_1 : (port : ℕ) (frame : List ℕ) (room : ℕ) → refusal sw f port frame room ≡ refusal_but1 sw.setup port frame room
  without_1 port frame room = passed_1 sw f port frame room (sym (switches.test_complete sw f formed))

  -- the rules keep switch and filter well-formed, whatever port the nonce is for
  pub rules_keep : (a : Arrival) → Arrives sw.setup.ports a → (port : ℕ)
      → WellFormed (switch_after sw port (rules sw.setup sw.table f a)) (rules sw.setup sw.table f a).filter
  rules_keep a arrives port = record {
    some_ports = formed.some_ports;
    few_ports = formed.few_ports;
    live_ports = formed.live_ports;
    host_ports = formed.host_ports;
    some_limit = formed.some_limit;
    low_limit = formed.low_limit;
    nonce = nonce_small sw.setup sw.nonce port formed.nonce;
    table = table_formed sw.setup sw.table f a formed.table formed.low_limit arrives;
    filter = filter_formed sw.setup sw.table f a arrives.source formed.filter;
  }

  module _ (port : ℕ) (frame : List ℕ) (room : ℕ) (none : refusal_but1 sw.setup port frame room ≡ 0) where
    -- and so does an accepted step
    pub step_keeps : WellFormed (switch_after sw port (ruled sw f port frame)) (ruled sw f port frame).filter
    step_keeps = rules_keep (rule1 sw.setup sw.nonce sw.table port frame) (rule1_arrives sw port frame room none) port

    -- stripping accepts what a step sends, and gives the outgoing header and the host frame that came in
    pub sent_strips : AreBytes frame → (c : Send) → sending_of (ruled sw f port frame).report.verdict ≡ Some c
        → GivesBack (outgoing (on_host_port sw.setup port) frame c.header) (outputs.host_frame (on_host_port sw.setup port) frame) c.header
    sent_strips bytes c e =
        let a : Arrival = rule1 sw.setup sw.nonce sw.table port frame in
        let arrives = rule1_arrives sw port frame room none in
        let fair = sent_fairly sw.setup sw.table f a c e in
        let below = outputs.arrival_nonce sw port frame room formed.nonce none bytes in
        outputs.accepted_strips sw.setup port frame room none bytes c.header (record { some = omega arith; low = omega arith; nonce = omega arith })

-- ---- Answers

-- different reports have different values
pub report_apart : TellsApart report_values
report_apart = answers.report_apart

-- and different answers tell different numbers or values
pub told_apart : TellsApart (told report_values)
told_apart = refusals.told_apart report_apart
