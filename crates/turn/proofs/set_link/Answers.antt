-- The state is written, and what was in flight and is not any more was cut.
use Rattle.turn.proofs.Turning.{kept, set_is}
use Rattle.turn.proofs.set_link.Goals as goal

pub returns-clause-turns : goal.returns-clause-turns
returns-clause-turns c seat = set_is _ seat (kept c.args.flight.now) c.spare.ensures
