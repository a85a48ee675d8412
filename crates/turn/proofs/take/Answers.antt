-- The copy read at the place is the one of the list, and the step is that of its arrival, with the others in flight.
use Rattle.turn.proofs.Writing.{laid_without}
use native.Mathlib.Omega.{arith}
use Rattle.turn.proofs.Turning.{kept, place_there, read_there, read_hops, taken_port, taken_is, turns_as}
use borrow.Author.Rules.{rules}
use Rattle.seat.specs.Seat.{seat_of}
use Rattle.turn.proofs.take.Goals as goal

pub from_link-a-requires : goal.from_link-a-requires
from_link-a-requires c = read_hops (read_there (kept c.args.flight.now) c.requires c.copy_at-c.ensures c.port_to-port.ensures) c.requires

pub take_out-requires : goal.take_out-requires
take_out-requires c = (place_there (kept c.args.flight.now) c.requires, search rules)

pub overflow_sub-flight : goal.overflow_sub-flight
overflow_sub-flight c = omega (arith, place_there (kept c.args.flight.now) c.requires)

pub step_head-requires : goal.step_head-requires
step_head-requires c =
    let read = read_there (kept c.args.flight.now) c.requires c.copy_at-c.ensures c.port_to-port.ensures in
    taken_port read c.from_link-a.ensures c.requires

pub returns-clause-turns : goal.returns-clause-turns
returns-clause-turns c up =
    let read = read_there (kept c.args.flight.now) c.requires c.copy_at-c.ensures c.port_to-port.ensures in
    turns_as (taken_is read c.from_link-a.ensures up (seat_of c.args.switch.now c.args.cells.now) c.take_out.ensures.copies) (c.step_head.ensures.turns up)

pub returns-clause-words : goal.returns-clause-words
returns-clause-words c = laid_without (place_there (kept c.args.flight.now) c.requires) (search rules) c.take_out.ensures c.step_head.ensures.words
