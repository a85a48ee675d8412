-- The words that the laws of the rules are said in, beside those of specs/Words.
use mathlib.Core.Path.{◌≡◌}
use mathlib.Core.Logic.{◌≢◌}
use mathlib.Core.Bool.{Bool, true, false}
use mathlib.Core.List.{List}
use Prim.Native.Nat.{ℕ}
use Rattle.std.specs.Prelude.{Option, Some, None}
use Rattle.table.specs.declared.Table.{Table}
use Rattle.filter.specs.Filter.{overwrites, recorded}
use Rattle.frame.specs.declared.Header.{Header}
use Rattle.rules.specs.Mask.{names, only}
use Rattle.rules.specs.Rules.{Ruled, flagged, flood, ruled_as, sends, too_old, triple_of}
use Rattle.rules.specs.Words.{Fair, Floods, Within, heard}
use Rattle.rules.specs.declared.Setup.{Setup}
use Rattle.rules.specs.declared.Arrival.{Arrival}
use Rattle.rules.specs.declared.Send.{Send}
use Rattle.rules.specs.declared.Verdict.{Verdict}
use Rattle.rules.specs.declared.Verdict.TheVariants.{X, D, G, E, F, N, B, H, U}

-- what the rules leave: a table, a filter and a report
abbrev pub ending : Table → List ℕ → Bool → Bool → Verdict → Ruled
ending t f full overwrote v = ruled_as t f (record { verdict = v; full = full; overwrote = overwrote })

-- the filter with the triple that an arrival has under a header, and whether that overwrites
abbrev pub noted : Setup → List ℕ → Arrival → Header → List ℕ
noted s f a h = recorded f s.salt (triple_of a h)

abbrev pub replaces : Setup → List ℕ → Arrival → Header → Bool
replaces s f a h = overwrites f s.salt (triple_of a h)

-- what comes of the one triple that a verdict records, or of none
abbrev pub record_by : {A : Type 0} → Arrival → Verdict → (List ℕ → A) → A → A
record_by a X some none = none
record_by a D some none = some (triple_of a a.header)
record_by a G some none = none
record_by a E some none = none
record_by a (F c) some none = some (triple_of a c.header)
record_by a (N c) some none = some (triple_of a c.header)
record_by a (B c) some none = some (triple_of a c.header)
record_by a (H c) some none = none
record_by a (U c) some none = none

-- a step records the triple of its verdict, and reports whether that overwrote another
pub record RecordsOnce (s : Setup) (f : List ℕ) (a : Arrival) (w : Ruled) : Type 0 where
  pub filter : w.filter ≡ record_by a w.report.verdict (recorded f s.salt) f
  pub overwrote : w.report.overwrote ≡ record_by a w.report.verdict (overwrites f s.salt) false

-- any other frame, F clear
abbrev pub Directed : Setup → Arrival → Type 0
Directed = Within false

-- what each verdict says of the arrival, and what it sends
abbrev pub Because : Setup → List ℕ → Arrival → Verdict → Type 0
Because s f a X = too_old s a ≡ true
Because s f a D = Floods s a × (heard s f a ≡ true)
Because s f a (F c) = Floods s a × (heard s f a ≡ false) × (c ≡ sends (flood s a) a.header)
Because s f a G = Directed s a × (a.header.l ≡ false)
Because s f a (N c) = Directed s a × (a.header.l ≡ true) × (a.header.hc ≡ 1) × (c ≡ sends (flood s a) (flagged true true a.header))
Because s f a (B c) = Directed s a × (a.header.l ≡ true) × (a.header.hc ≢ 1) × (c ≡ sends s.live (flagged false true a.header))
Because s f a (H c) = Directed s a × (a.header.l ≡ true) × (names s.live a.port ≡ true) × (c ≡ sends (only a.port) (flagged false a.header.f a.header))
Because s f a E = Directed s a × (a.header.l ≡ false)
Because s f a (U c) = Directed s a × ((p : ℕ) × (names s.live p ≡ true) × (p ≢ a.port) × (c ≡ sends (only p) a.header))

-- where anything is sent
abbrev pub FairBy : Setup → Arrival → Option Send → Type 0
FairBy s a None = Unit {0}
FairBy s a (Some c) = Fair s a c
