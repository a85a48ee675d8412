-- A number below the switches' count names a switch, one below the hosts' behind it a host, else a link.
use Rattle.network.specs.declared.Record.TheVariants.{Switch as OfSwitch, Host as OfHost, Link as OfLink}
use native.Mathlib.Omega.{arith}
use mathlib.Core.Path.{◌∙◌, ap}
use Rattle.network.proofs.Writing.{switch_record, host_record, link_record}
use Rattle.network.proofs.records.record_at.Goals as goal

pub returns-then-i-nswitches : goal.returns-then-i-nswitches
returns-then-i-nswitches c = ap OfSwitch c.switch.ensures ∙ switch_record _ _ _ (omega arith)

pub returns-then-j-nhosts : goal.returns-then-j-nhosts
returns-then-j-nhosts c = ap OfHost c.host.ensures ∙ host_record _ _ _ (omega arith) (omega arith)

pub returns : goal.returns
returns c = ap OfLink c.link.ensures ∙ link_record _ _ _ (omega arith) (omega arith) c.requires
