-- What rules 3 and 6 leave behind them, said of a flood's copy within the limit and of the rules as a whole: a switch that hands back table and filter
-- untouched doesn't meet it. Each statement is a type; proofs/Effects has its term, under the same name in lower case.
use Rattle.std.specs.Prelude.{◌≡◌, ◌≢◌, ◌⊎◌, Bool, true, false, Option, Some, None, ℕ, ◌<◌, length}
use mathlib.Core.List.{List, Memᴰ}
use Rattle.table.specs.declared.Table.{Table}
use Rattle.table.specs.declared.Entry.{Entry}
use Rattle.table.specs.Table as table
use Rattle.table.specs.Table.{Holds, entry_of, lookup_of, slots}
use Rattle.filter.specs.Filter.{holds}
use Rattle.filter.specs.Triple as filter
use Rattle.rules.specs.Rules.{rules, triple_of}
use Rattle.rules.specs.Words.{Floods, heard}
use Rattle.rules.specs.declared.Setup.{Setup}
use Rattle.rules.specs.declared.Arrival.{Arrival}

-- rule 3: the filter then holds the triple
abbrev pub FloodIsRecorded : Type 0
FloodIsRecorded =
    (s : Setup) (t : Table) (f : List ℕ) (a : Arrival) → filter.WellFormed f → Floods s a → holds (rules s t f a).filter s.salt (triple_of a a.header) ≡ true

-- fewer addresses stand in the table than it has slots
pub record HasRoom (t : Table) : Type 0 where
  pub addresses : List ℕ
  pub few : length addresses < slots
  pub all : (x : ℕ) → Holds t x → Memᴰ x addresses

-- no entry, or HC less than the entry's, or L set and not a duplicate
abbrev pub Learns : Arrival → Bool → Option Entry → Type 0
Learns a dup None = Unit {0}
Learns a dup (Some e) = (a.header.hc < e.hops) ⊎ ((a.header.l ≡ true) × (dup ≡ false))

-- rule 6: the source is then found at the arrival port, with this hop count
abbrev pub SourceIsLearned : Type 0
SourceIsLearned =
    (n : ℕ) (s : Setup) (t : Table) (f : List ℕ) (a : Arrival) → table.WellFormed n t → HasRoom t → a.source ≢ 0 → Floods s a
    → Learns a (heard s f a) (lookup_of t a.source) → lookup_of (rules s t f a).table a.source ≡ Some (entry_of a.port a.header.hc)
