-- Each kind's bytes are put by the one function that puts bytes; that they fit is required.
use mathlib.Core.Path.{◌∙◌}
use Rattle.network.proofs.Writing.{record_put}
use Rattle.network.proofs.format.put_record.Goals as goal

pub returns-in-Switch : goal.returns-in-Switch
returns-in-Switch c = c.put_at.ensures ∙ record_put _ _ c.switch_bytes.ensures c.in-Switch.is c.requires

pub returns-in-Host : goal.returns-in-Host
returns-in-Host c = c.put_at-in-Host.ensures ∙ record_put _ _ c.host_bytes.ensures c.in-Host.is c.requires

pub returns-in-Link : goal.returns-in-Link
returns-in-Link c = c.put_at-in-Link.ensures ∙ record_put _ _ c.link_bytes.ensures c.in-Link.is c.requires
