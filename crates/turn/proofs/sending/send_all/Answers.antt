use Rattle.turn.proofs.Writing.{written_then}
use Rattle.turn.proofs.Outboxes.{reached_next, reached_end}
use Rattle.turn.proofs.sending.send_all.Goals as goal

pub loop-port-preserved : goal.loop-port-preserved
loop-port-preserved c =
    let inv = c.loop-port.invariant in
    let sent = c.send_at-s.ensures in
    (reached_next inv.0 c.loop-port-test.true sent.sent sent.room, written_then inv.1 sent.words)

pub returns-clause-sent : goal.returns-clause-sent
returns-clause-sent c = reached_end c.loop-port.invariant.0 c.loop-port-test.false
