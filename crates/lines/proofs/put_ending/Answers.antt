-- The newline is put behind the number.
use native.Mathlib.Omega.{arith}
use mathlib.Core.Path.{refl}
use lib.ListN.{length-append}
use Rattle.lines.proofs.Parts.{first_room, put_last}
use Rattle.lines.specs.Lines.{text, decimal, ending}
use Rattle.lines.proofs.put_ending.Goals as goal

pub put_decimal-next-requires : goal.put_decimal-next-requires
unfolding ending text
put_decimal-next-requires c =
    let a = c.args in
    first_room a.out.now a.at (decimal a.n) (text "\n") c.requires

pub overflow_add-result : goal.overflow_add-result
unfolding ending text
overflow_add-result c =
    let a = c.args in
    omega
    (arith, c.requires, c.put_decimal-next.ensures.end, length-append (decimal a.n) (text "\n"))

pub returns : goal.returns
unfolding ending text
returns c =
    let a = c.args in
    let number = c.put_decimal-next.ensures in
    let all = put_last a.out.now a.at (decimal a.n) (text "\n")
    c.requires (record { ends = number.end; output = number.output })
    c.put_at.ensures refl in
    record { end = all.ends; output = all.output }
