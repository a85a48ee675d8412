-- What rules 3 and 6 leave behind them, by the laws of floods.
use mathlib.Core.Path.{◌≡◌}
use mathlib.Core.Logic.{⊎_elim}
use mathlib.Core.Bool.{Bool, true}
use Rattle.std.specs.Prelude.{Option, Some, None}
use Rattle.table.specs.declared.Entry.{Entry}
use Rattle.table.specs.Table.{lookup_of}
use Rattle.rules.specs.Rules.{learns}
use Rattle.rules.specs.Words.{heard}
use Rattle.rules.specs.Effects.{FloodIsRecorded, Learns, SourceIsLearned}
use Rattle.rules.specs.declared.Arrival.{Arrival}
use Rattle.rules.proofs.Laws.{flood_held, flood_learned, learns_absent, learns_local, learns_nearer, never_full}

pub flood_is_recorded : FloodIsRecorded
flood_is_recorded s t f a formed floods = flood_held s t f a floods formed

learns_so : (a : Arrival) (dup : Bool) (found : Option Entry) → Learns a dup found → learns a dup found ≡ true
learns_so a dup None why = learns_absent a dup
learns_so a dup (Some e) why = ⊎_elim (λ nearer. learns_nearer a dup e nearer) (λ l. rw l.1 (learns_local a (Some e) l.0)) why

pub source_is_learned : SourceIsLearned
source_is_learned n s t f a formed room some floods why =
    flood_learned s t f a floods formed.sized some (learns_so a (heard s f a) (lookup_of t a.source) why) (never_full s t f a formed room.addresses room.few room.all)
