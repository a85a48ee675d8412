-- Document 01, "One step": its refusals, and what it leaves of switch, filter and output. `room` is the output's length.
use Rattle.std.specs.Prelude.{ℕ, ◌+◌, ◌-◌, ◌≤◌, Bool, cond, not, ◌&&◌, ◌≡◌, List, [], ◌∷◌, ◌++◌, eqb, ltb, leb, length, Option, Some, None, Result}
use Rattle.refusal.specs.Refusal.{Cause, when, first, outside, answered, leaves}
use Rattle.refusal.specs.Number.{told}
use Rattle.refusal.specs.declared.Refusal.{Refusal}
use Rattle.table.specs.declared.Table.{Table}
use Rattle.wire.specs.Address.{is_source}
use Rattle.frame.specs.declared.Header.{Header}
use Rattle.frame.specs.Frame.{our_type, type_of, tagged_twice, header_in, source_of, tagged, stripped, at_start}
use Rattle.rules.specs.Mask.{names}
use Rattle.head.specs.Switch.{switch_causes}
use Rattle.rules.specs.Verdict.{report_values, sending_of}
use Rattle.rules.specs.Rules.{on_host_port, rule1, nonce_on, Ruled, rules}
use Rattle.rules.specs.declared.Setup.{Setup}
use Rattle.head.specs.declared.Switch.{Switch}
use Rattle.rules.specs.declared.Send.{Send}
use Rattle.rules.specs.declared.Report.{Report}

-- ---- Refusals

-- 2: no such port
abbrev pub no_such_port : Setup → ℕ → Bool
no_such_port s port = leb s.ports port

-- 3: port down
abbrev pub port_down : Setup → ℕ → Bool
port_down s port = not (names s.live port)

-- 4: length not 60..1,514 (host port) or 66..1,520 (switch port)
abbrev pub bad_length : Bool → ℕ → Bool
bad_length host n = cond host (outside 60 1514 n) (outside 66 1520 n)

-- 5: source zero, or its group bit set
abbrev pub bad_source : List ℕ → Bool
bad_source frame = not (is_source (source_of frame))

-- 6: host frame of type 0x88B5, or a tagged frame whose old type is 0x88B5 too
abbrev pub tag_inside : Bool → List ℕ → Bool
tag_inside host frame = cond host (eqb (type_of frame) our_type) (tagged_twice frame)

-- 7: type not 0x88B5 on a switch port
abbrev pub lacks_tag : Bool → List ℕ → Bool
lacks_tag host frame = not host && not (eqb (type_of frame) our_type)

-- 8: received HC is 0
abbrev pub no_hops : Bool → List ℕ → Bool
no_hops host frame = not host && eqb (header_in frame).hc 0

-- 9: output shorter than the tagged frame
abbrev pub too_short : Bool → ℕ → ℕ → Bool
too_short host n room = cond host (ltb room (n + 6)) (ltb room n)

-- refusals 2 to 9
abbrev pub frame_causes : Setup → ℕ → List ℕ → ℕ → List Cause
frame_causes s port frame room =
    when 2 (no_such_port s port)
    ∷ when 3 (port_down s port)
    ∷ when 4 (bad_length (on_host_port s port) (length frame))
    ∷ when 5 (bad_source frame)
    ∷ when 6 (tag_inside (on_host_port s port) frame)
    ∷ when 7 (lacks_tag (on_host_port s port) frame)
    ∷ when 8 (no_hops (on_host_port s port) frame)
    ∷ when 9 (too_short (on_host_port s port) (length frame) room)
    ∷ []

-- a step checks 1 to 9 in that order
unfoldable pub refusal : Switch → List ℕ → ℕ → List ℕ → ℕ → ℕ
refusal s f port frame room = first (switch_causes s f ++ frame_causes s.setup port frame room)

-- the same without 1, for a switch and a filter that are known to be well-formed
unfoldable pub refusal_but1 : Setup → ℕ → List ℕ → ℕ → ℕ
refusal_but1 s port frame room = first (frame_causes s port frame room)

-- ---- The step

-- rule 1, then the others
abbrev pub ruled : Switch → List ℕ → ℕ → List ℕ → Ruled
ruled s f port frame = rules s.setup s.table f (rule1 s.setup s.nonce s.table port frame)

-- a frame with the outgoing header: on a host port it had none
abbrev pub outgoing : Bool → List ℕ → Header → List ℕ
outgoing host frame h = cond host (tagged frame h) (tagged (stripped frame) h)

-- after a sending verdict the output holds the tagged frame at its start, the rest unchanged; after a drop it is unchanged
abbrev pub written : Bool → List ℕ → Option Send → List ℕ → List ℕ
written host frame None out = out
written host frame (Some s) out = at_start (outgoing host frame s.header) out

-- the switch afterwards: its table as the rules left it, and the next nonce
abbrev pub switch_after : Switch → ℕ → Ruled → Switch
switch_after s port r = record { setup = s.setup; nonce = nonce_on s.setup s.nonce port; table = r.table }

-- a switch of these parts
abbrev pub switch_of : Setup → ℕ → Table → Switch
switch_of setup nonce table = record { setup = setup; nonce = nonce; table = table }

-- what a step answers and leaves, n being its refusal number, 0 for none
pub record Steps (n : ℕ) (s : Switch) (f : List ℕ) (port : ℕ) (frame out : List ℕ) (answer : Result Report Refusal) (s' : Switch) (f' out' : List ℕ) : Type 0 where
  pub told : told report_values answer ≡ answered n (report_values (ruled s f port frame).report)
  pub switch : s' ≡ leaves n s (switch_after s port (ruled s f port frame))
  pub filter : f' ≡ leaves n f (ruled s f port frame).filter
  pub output : out' ≡ leaves n out (written (on_host_port s.setup port) frame (sending_of (ruled s f port frame).report.verdict) out)

-- ---- Words of the code that writes

-- the place from which a frame stands behind its tag: a host's frame has none yet
abbrev pub behind_tag : Bool → ℕ
behind_tag host = cond host 12 18

-- a frame that refusals 4 and 9 let pass
pub record HasRoom (host : Bool) (n room : ℕ) : Type 0 where
  pub long_enough : behind_tag host ≤ n
  pub fits : 18 + (n - behind_tag host) ≤ room
