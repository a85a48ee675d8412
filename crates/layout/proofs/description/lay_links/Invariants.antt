-- Link after link, four bytes are put behind those of the links before it.
use Rattle.network.specs.Network.{no_link}
use Rattle.layout.specs.Layout.{link_bytes, links_at}
use Rattle.layout.proofs.Loops.{Rows}
use Rattle.layout.proofs.description.lay_links.Given as goal

abbrev pub invariant-loop-i : goal.invariant-loop-i
invariant-loop-i l = Rows link_bytes 4 no_link l.links l.initial.bytes links_at l.i l.bytes
