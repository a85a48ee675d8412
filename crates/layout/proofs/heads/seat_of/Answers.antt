-- The rows are the head's blocks of the arrays.
use Rattle.layout.proofs.Laws.{seat_is}
use Rattle.layout.proofs.heads.seat_of.Goals as goal

pub returns : goal.returns
returns c = seat_is _ _ _ _ _ c.setup_of.ensures c.row_at.ensures c.row_at-2.ensures c.row_at-3.ensures c.row_at-4.ensures
