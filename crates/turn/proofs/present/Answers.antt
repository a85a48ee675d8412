-- The step is that of the arrival which rule 1 makes of the frame.
use Rattle.turn.proofs.Writing.{laid_all}
use Rattle.turn.proofs.Turning.{presented_is, turns_as}
use native.Mathlib.Omega.{arith}
use Rattle.seat.specs.Seat.{seat_of}
use Rattle.turn.proofs.present.Goals as goal

pub returns-clause-turns : goal.returns-clause-turns
returns-clause-turns c up = turns_as (presented_is (seat_of c.args.switch.now c.args.cells.now) c.args.h c.args.to c.from_host-a.ensures c.args.stand.now.network up _) (c.step_head.ensures.turns up)

pub returns-clause-words : goal.returns-clause-words
returns-clause-words c = laid_all (omega (arith, c.args.flight.now.whole, c.args.flight.now.few)) c.step_head.ensures.words
