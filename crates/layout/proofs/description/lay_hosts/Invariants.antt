-- Host after host, two bytes are put behind those of the hosts before it, and an address.
use Rattle.network.specs.Network.{no_host}
use Rattle.layout.specs.Layout.{host_bytes, hosts_at}
use Rattle.layout.proofs.Loops.{Column, Rows}
use Rattle.layout.proofs.description.lay_hosts.Given as goal

abbrev pub invariant-loop-i : goal.invariant-loop-i
invariant-loop-i l = Rows host_bytes 2 no_host l.hosts l.initial.bytes hosts_at l.i l.bytes × Column (λ x. x.address) no_host l.hosts l.initial.addresses 0 l.i l.addresses
