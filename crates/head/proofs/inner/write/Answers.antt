-- A frame that goes out has the room that writing asks for.
use mathlib.Core.Path.{sym, ◌∙◌}
use Rattle.head.proofs.Output.{goes_out}
use Rattle.head.proofs.inner.write.Goals as goal

pub returns-in-Some : goal.returns-in-Some
returns-in-Some c =
    let a = c.args in
    let sent = sym c.sending_of.ensures ∙ c.in-Some.is in
    rw (sent, c.write_tagged.ensures, c.behind_tag.ensures) (goes_out a.host a.frame.now _ a.out.now c.requires)
