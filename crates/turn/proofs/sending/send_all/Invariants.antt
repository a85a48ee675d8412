-- What the ports from here on still send makes up the whole.
use Rattle.turn.specs.Send.{Written}
use Rattle.cabling.specs.Cabling.{most_ports, plug_at}
use Rattle.turn.specs.Send.{nothing_sent, send_from}
use Rattle.turn.proofs.Outboxes.{Reached}
use Rattle.flight.specs.Flight.{copies_in}
use Rattle.turn.proofs.sending.send_all.Given as goal

abbrev pub invariant-loop-port : goal.invariant-loop-port
invariant-loop-port l = Reached (plug_at l.plugs l.switch) l.a l.c.mask l.c.header (send_from (plug_at l.plugs l.switch) l.a l.c.mask l.c.header most_ports 0 (nothing_sent (copies_in l.initial.flight.flying l.initial.flight.words))) (copies_in l.flight.flying l.flight.words) l.s l.port × Written l.initial.flight.flying l.initial.flight.words l.flight.flying l.flight.words
