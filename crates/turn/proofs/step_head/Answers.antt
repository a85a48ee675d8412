-- The head steps, and what its verdict sends goes out behind the copies in flight.
use Rattle.turn.proofs.Turning.{head_steps, kept}
use Rattle.turn.proofs.step_head.Goals as goal

pub returns-clause-turns : goal.returns-clause-turns
returns-clause-turns c up = head_steps c.args.stand.now.network up _ _ _ _ c.step_on-r.ensures c.send_out-s.ensures.sent (kept c.send_out-s.new.flight) c.args.stand.now.cabled
