-- The letter and its spaces are put behind the number.
use native.Mathlib.Omega.{arith}
use mathlib.Core.Path.{refl}
use mathlib.Core.List.{◌∷◌, []}
use lib.ListN.{length-append}
use Rattle.lines.proofs.Parts.{first_room, put_last}
use Rattle.lines.specs.Lines.{decimal, field}
use Rattle.lines.proofs.put_field.Goals as goal

pub put_decimal-next-requires : goal.put_decimal-next-requires
unfolding field
put_decimal-next-requires c =
    let a = c.args in
    first_room a.out.now a.at (decimal a.n) (0x20 ∷ a.letter ∷ 0x20 ∷ []) c.requires

pub overflow_add-result : goal.overflow_add-result
unfolding field
overflow_add-result c =
    let a = c.args in
    omega
    (arith, c.requires, c.put_decimal-next.ensures.end, length-append (decimal a.n) (0x20 ∷ a.letter ∷ 0x20 ∷ []))

pub returns : goal.returns
unfolding field
returns c =
    let a = c.args in
    let number = c.put_decimal-next.ensures in
    let all = put_last a.out.now a.at (decimal a.n) (0x20 ∷ a.letter ∷ 0x20 ∷ [])
    c.requires (record { ends = number.end; output = number.output })
    c.put_at.ensures refl in
    record { end = all.ends; output = all.output }
