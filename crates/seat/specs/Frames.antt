-- "Frames have no payload here" (document 01, "The bench"): the frames that addresses and a header stand for on the bench.
-- The statements say that a seat steps on what arrives as demand 2's public step does on such a frame; their proofs are in proofs/Frames.antt.
use Rattle.std.specs.Prelude.{ℕ, ◌^◌, ◌≤◌, ◌<◌, ◌≡◌, Bool, true, false, List, ◌++◌, length, Ok}
use Rattle.wire.specs.Address.{Source, address_bound}
use Rattle.wire.specs.Wire.{bytes_of}
use Rattle.filter.specs.Filter.{zeros}
use Rattle.frame.specs.declared.Header.{Header}
use Rattle.frame.specs.Frame.{stripped, tagged}
use Rattle.rules.specs.Mask.{names}
use Rattle.rules.specs.Rules.{on_host_port}
use Rattle.rules.specs.Verdict.{sending_of}
use Rattle.head.specs.Step.{Steps, outgoing, refusal, written}
use Rattle.seat.specs.Seat.{Seated, from_host, from_link, step_of}
use Rattle.seat.specs.Words.{Formed}
use Rattle.seat.specs.declared.Seat.{Seat}

-- ---- The frames

-- as a host presents it: its addresses, a type that isn't ours, and zeros up to 60 bytes
unfoldable pub host_frame : ℕ → ℕ → List ℕ
host_frame source destination = bytes_of 6 destination ++ (bytes_of 6 source ++ (bytes_of 2 0x0800 ++ zeros 46))

-- as a link carries it: tagged, 66 bytes
unfoldable pub link_frame : ℕ → ℕ → Header → List ℕ
link_frame source destination h = tagged (host_frame source destination) h

-- as it stands at a port, by the port's role
abbrev pub frame_on : Bool → ℕ → ℕ → Header → List ℕ
frame_on true source destination h = host_frame source destination
frame_on false source destination h = link_frame source destination h

-- ---- The steps

-- the public step accepts the frame, with room for 66 bytes, and answers and leaves what the seat's step did
pub record IsTheStep (s : Seat) (port : ℕ) (frame : List ℕ) (after : Seated) : Type 0 where
  pub accepted : (room : ℕ) → 66 ≤ room → refusal s.switch s.cells port frame room ≡ 0
  pub steps : (out : List ℕ) → 66 ≤ length out
      → Steps (refusal s.switch s.cells port frame (length out)) s.switch s.cells port frame out
      (Ok after.report) after.seat.switch after.seat.cells
      (written (on_host_port s.switch.setup port) frame (sending_of after.report.verdict) out)

-- a seat that refusal 1 doesn't name steps as the public step does, on what a host presents at a live port of its own
unfoldable pub HostStepIsTheStep : Type 0
HostStepIsTheStep =
    (s : Seat) (port source destination : ℕ)
    → Formed s → names s.switch.setup.live port ≡ true → on_host_port s.switch.setup port ≡ true
    → Source source → destination < address_bound
    → IsTheStep s port (host_frame source destination) (step_of s (from_host s port source destination))

-- and on what a link brings to a live port, with a header that a tag can carry
unfoldable pub LinkStepIsTheStep : Type 0
LinkStepIsTheStep =
    (s : Seat) (port source destination : ℕ) (h : Header)
    → Formed s → names s.switch.setup.live port ≡ true → on_host_port s.switch.setup port ≡ false
    → Source source → destination < address_bound → 1 ≤ h.hc → h.hc ≤ 63 → h.nonce < 2 ^ 24
    → IsTheStep s port (link_frame source destination h) (step_of s (from_link port source destination h))

-- what goes out is such a frame again, with the outgoing header
unfoldable pub GoesOutAlike : Type 0
GoesOutAlike = (host : Bool) (source destination : ℕ) (g h : Header) → outgoing host (frame_on host source destination g) h ≡ link_frame source destination h

-- and a host port sends what the host had presented
unfoldable pub IsDelivered : Type 0
IsDelivered = (source destination : ℕ) (h : Header) → stripped (link_frame source destination h) ≡ host_frame source destination
