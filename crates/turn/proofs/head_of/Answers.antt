-- The copy at a place is the one that the words there carry; an accepted event's lies within the list.
use Rattle.turn.specs.Turn.{head_of}
use Rattle.turn.proofs.Turning.{copy_there, copy_anywhere, place_accepted, port_switch}
use Rattle.turn.proofs.head_of.Goals as goal

pub returns-in-Take-clause-accepted : goal.returns-in-Take-clause-accepted
unfolding head_of
returns-in-Take-clause-accepted c flying kept none =
    let n = c.args.network.now in
    let is = c.in-Take.is in
    rw is (port_switch n c.port_to.ensures (copy_there kept (place_accepted n flying _ (rw is at none)) c.copy_at.ensures))

pub returns-in-Take-clause-always : goal.returns-in-Take-clause-always
unfolding head_of
returns-in-Take-clause-always c = rw c.in-Take.is (port_switch c.args.network.now c.port_to.ensures (copy_anywhere c.args.words.now c.in-Take.place c.copy_at.ensures))
