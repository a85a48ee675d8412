-- Document 01, "The bench": a head on it. Rule 1 is said of addresses and a header, since frames have no payload here; the other rules are those of a switch.
use Rattle.std.specs.Prelude.{ℕ, true, List}
use Rattle.table.specs.Table.{empty_table, lookup_of, table_of}
use Rattle.table.specs.declared.Table.{Table}
use Rattle.filter.specs.Filter.{zeros}
use Rattle.frame.specs.declared.Header.{Header}
use Rattle.rules.specs.Rules.{Ruled, hop_header, is_absent, rules}
use Rattle.rules.specs.declared.Setup.{Setup}
use Rattle.rules.specs.declared.Arrival.{Arrival}
use Rattle.rules.specs.declared.Report.{Report}
use Rattle.head.specs.Step.{switch_after, switch_of}
use Rattle.head.specs.declared.Switch.{Switch}
use Rattle.seat.specs.declared.Seat.{Seat}

-- ---- A seat

-- a switch and its cells
abbrev pub seat_of : Switch → List ℕ → Seat
seat_of switch cells = record { switch = switch; cells = cells }

-- a seat whose arrays lie elsewhere
abbrev pub seat_in : Setup → ℕ → List ℕ → List ℕ → List ℕ → List ℕ → Seat
seat_in setup nonce addresses ports hops cells = seat_of (switch_of setup nonce (table_of addresses ports hops)) cells

-- the bytes of 64 cells
abbrev pub cell_bytes : ℕ
cell_bytes = 640

-- fresh: table and filter of 64 cells empty, nonce 0
unfoldable pub fresh_seat : Setup → Seat
fresh_seat setup = seat_of (switch_of setup 0 empty_table) (zeros cell_bytes)

-- the same nonce, table and filter under another setup
abbrev pub with_setup : Setup → Seat → Seat
with_setup setup s = seat_of (switch_of setup s.switch.nonce s.switch.table) s.cells

-- ---- What arrives: rule 1

-- a frame on a port, with the header that it has from now on
abbrev pub arrival_of : ℕ → ℕ → ℕ → Header → Arrival
arrival_of port source destination h = record { port = port; source = source; destination = destination; header = h }

-- a host's frame: L set, F set exactly if the source has no entry, HC 1, the next nonce
abbrev pub host_header : ℕ → Table → ℕ → Header
host_header nonce t source = record { l = true; f = is_absent (lookup_of t source); hc = 1; nonce = nonce }

-- on a host port
unfoldable pub from_host : Seat → ℕ → ℕ → ℕ → Arrival
from_host s port source destination = arrival_of port source destination (host_header s.switch.nonce s.switch.table source)

-- on a switch port: HC is the received one plus 1
unfoldable pub from_link : ℕ → ℕ → ℕ → Header → Arrival
from_link port source destination h = arrival_of port source destination (hop_header h)

-- ---- The step: rules 2 to 11

-- a seat behind a step, and what the step reports
pub record Seated : Type 0 where
  pub seat : Seat
  pub report : Report

abbrev pub seated_as : Seat → Report → Seated
seated_as s r = record { seat = s; report = r }

-- the seat and the report that the rules leave, and the next nonce
abbrev pub seated : Seat → ℕ → Ruled → Seated
seated s port r = seated_as (seat_of (switch_after s.switch port r) r.filter) r.report

-- a seat steps on what arrives
unfoldable pub step_of : Seat → Arrival → Seated
step_of s a = seated s a.port (rules s.switch.setup s.switch.table s.cells a)
