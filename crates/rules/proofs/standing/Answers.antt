-- What stands is the entry, where its port is up, so one of sixteen.
use borrow.Author.Rules.{rules}
use mathlib.Core.Path.{◌≡◌}
use Rattle.table.specs.Table.{lookup_of, table_of}
use Rattle.rules.specs.Rules.{if_up}
use Rattle.rules.proofs.Cases.{port_within}
use Rattle.rules.proofs.standing.Goals as goal

pub returns-clause-port : goal.returns-clause-port
returns-clause-port c =
    let e : c.filter.result ≡ if_up c.args.s.live (lookup_of (table_of c.args.addresses.now c.args.ports.now c.args.hops.now) c.args.address) = search rules in
    rw e (port_within c.args.s.live (search rules) (lookup_of (table_of c.args.addresses.now c.args.ports.now c.args.hops.now) c.args.address))
