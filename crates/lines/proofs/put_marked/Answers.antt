-- A space is put behind the eight digits.
use native.Mathlib.Omega.{arith}
use mathlib.Core.Path.{refl}
use Rattle.lines.proofs.Parts.{first_room, put_last}
use Rattle.lines.specs.Lines.{text, digits, hex8, marked}
use Rattle.lines.proofs.put_marked.Goals as goal

pub put_digits-requires : goal.put_digits-requires
unfolding marked hex8 digits
put_digits-requires c =
    let a = c.args in
    record { count_in_bounds = first_room a.out.now a.at (hex8 a.received) (text " ") c.requires; base_in_range = (omega arith, omega arith) }

pub returns : goal.returns
unfolding marked hex8 digits text
returns c =
    let a = c.args in
    let marks = c.put_digits.ensures in
    let all = put_last a.out.now a.at (hex8 a.received) (text " ")
    c.requires (record { ends = refl; output = marks })
    c.put_at.ensures refl in
    record { end = all.ends; output = all.output }
