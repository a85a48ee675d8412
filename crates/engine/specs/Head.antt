-- The head's part of the door: what a C caller lends for a switch, and what each call returns and leaves there.
-- A switch is lent as its next nonce, its table's three arrays and its filter; what a call does with them is said by the crates below.
use Rattle.std.specs.Prelude.{ℕ, ◌≡◌, Bool, cond, ◌&&◌, List, [], ◌∷◌, eqb, length, Option, Some, None}
use Rattle.refusal.specs.Refusal.{first, leaves}
use Rattle.table.specs.declared.Table.{Table}
use Rattle.table.specs.declared.Entry.{Entry}
use Rattle.table.specs.Table.{empty_table, lookup_of, slots, table_of}
use Rattle.filter.specs.Filter.{zeros}
use Rattle.rules.specs.declared.Setup.{Setup}
use Rattle.rules.specs.Rules.{on_host_port}
use Rattle.rules.specs.Verdict.{report_values, sending_of}
use Rattle.head.specs.declared.Switch.{Switch}
use Rattle.head.specs.Switch.{switch_causes}
use Rattle.head.specs.Step.{refusal, ruled, switch_after, switch_of, written}

-- a report is lent as 8 numbers: table full, overwrote, letter, mask, L, F, HC and nonce
abbrev pub report_size : ℕ
report_size = 8

-- the table's arrays have 64 elements each
unfoldable pub sized : Table → Bool
sized t = eqb (length t.addresses) slots && eqb (length t.ports) slots && eqb (length t.hops) slots

-- and the report's array has its 8
unfoldable pub fitting : Table → ℕ → Bool
fitting t numbers = sized t && eqb numbers report_size

-- the switch that a caller lends: its setup as numbers, its next nonce, and its slots' addresses, ports and hop counts
abbrev pub switch_in : ℕ → ℕ → ℕ → ℕ → ℕ → ℕ → List ℕ → List ℕ → List ℕ → Switch
switch_in ports live host limit salt nonce addresses via hops =
    switch_of (record { ports = ports; live = live; host = host; limit = limit; salt = salt }) nonce (table_of addresses via hops)

-- a step's refusal: 1 for a table or a report of wrong length, then the step's own, 1 to 9
unfoldable pub step_refusal : Switch → List ℕ → ℕ → List ℕ → ℕ → ℕ → ℕ
step_refusal s f port frame room numbers = cond (fitting s.table numbers) (refusal s f port frame room) 1

-- what a step returns, n being its refusal, and what it leaves in all that is lent
pub record StepsLent (n : ℕ) (s : Switch) (f : List ℕ) (port : ℕ) (frame out numbers : List ℕ) (returned : ℕ) (s' : Switch) (f' out' numbers' : List ℕ) : Type 0 where
  pub number : returned ≡ n
  pub switch : s' ≡ leaves n s (switch_after s port (ruled s f port frame))
  pub filter : f' ≡ leaves n f (ruled s f port frame).filter
  pub output : out' ≡ leaves n out (written (on_host_port s.setup port) frame (sending_of (ruled s f port frame).report.verdict) out)
  pub report : numbers' ≡ leaves n numbers (report_values (ruled s f port frame).report)

-- ---- A fresh switch

-- a switch with this setup that has met no frame: table empty, next nonce 0; its filter is all zeros
abbrev pub fresh_of : Setup → Switch
fresh_of s = switch_of s 0 empty_table

-- its refusal with a filter of so many bytes, which any step of it would be refused with
unfoldable pub setup_refusal : Setup → ℕ → ℕ
setup_refusal s bytes = first (switch_causes (fresh_of s) (zeros bytes))

-- making a switch fresh in what is lent: 1 for a table of wrong length, then for what refusal 1 asks of the fresh switch
unfoldable pub fresh_refusal : Switch → List ℕ → ℕ
fresh_refusal s f = cond (sized s.table) (setup_refusal s.setup (length f)) 1

-- what that returns, n being its refusal, and what it leaves
pub record FreshensLent (n : ℕ) (s : Switch) (f : List ℕ) (returned : ℕ) (s' : Switch) (f' : List ℕ) : Type 0 where
  pub number : returned ≡ n
  pub switch : s' ≡ leaves n s (fresh_of s.setup)
  pub filter : f' ≡ leaves n f (zeros (length f))

-- ---- Looking at a table

-- whether an address is there, its port and its hop count: all 0 where it isn't
abbrev pub found_values : Option Entry → List ℕ
found_values (Some e) = 1 ∷ e.port ∷ e.hops ∷ []
found_values None = 0 ∷ 0 ∷ 0 ∷ []

-- 1 for a table of wrong length
unfoldable pub lookup_refusal : Table → ℕ
lookup_refusal t = cond (sized t) 0 1

-- what looking an address up returns, and what the three references then hold
pub record LooksUp (t : Table) (x : ℕ) (held : List ℕ) (returned : ℕ) (held' : List ℕ) : Type 0 where
  pub number : returned ≡ lookup_refusal t
  pub told : held' ≡ leaves (lookup_refusal t) held (found_values (lookup_of t x))
