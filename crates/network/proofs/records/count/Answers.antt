-- Each kind has as many records as it counts.
use mathlib.Core.Path.{sym}
use Rattle.network.proofs.Writing.{count_is}
use Rattle.network.proofs.records.count.Goals as goal

pub returns : goal.returns
returns c = sym (count_is _)
