-- Each kind of event is the turn of its own function.
use Rattle.flight.specs.Flight.{copies_in}
use Rattle.seat.specs.Seat.{seat_of}
use Rattle.turn.proofs.Turning.{present_turn, take_turn, link_turn, turns_as}
use Rattle.turn.proofs.turn_on.Goals as goal

pub returns-in-Present-clause-turns : goal.returns-in-Present-clause-turns
returns-in-Present-clause-turns c =
    let a = c.args in
    turns_as (present_turn a.stand.now.network a.up.now (seat_of a.switch.now a.cells.now) (copies_in a.flight.now.flying a.flight.now.words) c.in-Present.is c.host_of-h.ensures c.number.ensures.value) (c.present.ensures.turns a.up.now)

pub returns-in-Take-clause-turns : goal.returns-in-Take-clause-turns
returns-in-Take-clause-turns c =
    let a = c.args in turns_as (take_turn a.stand.now.network a.up.now (seat_of a.switch.now a.cells.now) (copies_in a.flight.now.flying a.flight.now.words) c.in-Take.is) (c.take.ensures.turns a.up.now)

pub returns-in-Link-clause-turns : goal.returns-in-Link-clause-turns
returns-in-Link-clause-turns c =
    let a = c.args in turns_as (link_turn a.stand.now.network a.up.now (seat_of a.switch.now a.cells.now) (copies_in a.flight.now.flying a.flight.now.words) c.in-Link.is) (c.set_link.ensures.turns (seat_of a.switch.now a.cells.now))
