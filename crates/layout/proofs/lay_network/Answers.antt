-- Counts, switches, hosts and links are put one behind the other, and fill the bytes.
use Rattle.layout.specs.Layout.{SizedNetwork, network_addresses, network_salts}
use Rattle.layout.proofs.Wholes.{network_laid}
use Rattle.layout.proofs.lay_network.Goals as goal

pub returns : goal.returns
unfolding network_addresses network_salts
returns c =
    let sized : SizedNetwork c.args.n.now = record { switches = c.lay_switches.ensures.long; hosts = c.lay_hosts.ensures.long; links = c.lay_links.ensures.long } in
    let whole = network_laid c.args.bytes.now sized c.requires.bytes c.put_row.ensures c.lay_switches.ensures.bytes c.lay_hosts.ensures.bytes c.lay_links.ensures.bytes in
    record { bytes = whole; salts = c.lay_switches.ensures.salts; addresses = c.lay_hosts.ensures.addresses; sized = sized }
