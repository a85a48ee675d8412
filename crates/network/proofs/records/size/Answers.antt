-- Each kind's records are all of one size.
use mathlib.Core.Path.{sym}
use Rattle.network.proofs.Writing.{image_long}
use Rattle.network.proofs.records.size.Goals as goal

pub returns : goal.returns
returns c = sym (image_long _)
