-- Document 01, "The head's switch": what a switch is, and what refusal 1 asks of it and its filter.
-- `switch_causes` is what the step checks; `WellFormed` says in words what it has found when none of them holds.
use Rattle.std.specs.Prelude.{ℕ, ◌^◌, ◌<◌, ◌≤◌, not, List, [], ◌∷◌, leb}
use Rattle.refusal.specs.Refusal.{Cause, when, outside}
use Rattle.table.specs.Table as table
use Rattle.filter.specs.Triple as filter
use Rattle.head.specs.declared.Switch.{Switch}

-- a switch with 1 to 16 ports and masks over them, a hop limit 1 to 62 and a next nonce below 2^24, its table and its filter
pub record WellFormed (s : Switch) (f : List ℕ) : Type 0 where
  pub some_ports : 1 ≤ s.setup.ports
  pub few_ports : s.setup.ports ≤ 16
  pub live_ports : s.setup.live < 2 ^ s.setup.ports
  pub host_ports : s.setup.host < 2 ^ s.setup.ports
  pub some_limit : 1 ≤ s.setup.limit
  pub low_limit : s.setup.limit ≤ 62
  pub nonce : s.nonce < 2 ^ 24
  pub table : table.WellFormed s.setup.ports s.table
  pub filter : filter.WellFormed f

-- refusal 1: switch, slot, cell or filter length breaks that, or a mask names a port that the switch hasn't
abbrev pub switch_causes : Switch → List ℕ → List Cause
switch_causes s f =
    when 1 (outside 1 16 s.setup.ports)
    ∷ when 1 (leb (2 ^ s.setup.ports) s.setup.live)
    ∷ when 1 (leb (2 ^ s.setup.ports) s.setup.host)
    ∷ when 1 (outside 1 62 s.setup.limit)
    ∷ when 1 (leb (2 ^ 24) s.nonce)
    ∷ when 1 (not (table.well_formed s.setup.ports s.table))
    ∷ when 1 (not (filter.well_formed f))
    ∷ []
