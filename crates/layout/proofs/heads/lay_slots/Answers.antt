use mathlib.Core.Path.{◌≡◌, refl}
use native.Mathlib.Omega.{arith}
use lib.ListN.{get_or, length}
use borrow.Author.Rules.{rules}
use Prim.Native.Nat.{◌*◌}
use Rattle.layout.proofs.Loops.{blank, rows_end, rows_next, rows_start}
use Rattle.layout.proofs.heads.lay_slots.Goals as goal

pub loop-k-init : goal.loop-k-init
loop-k-init c = (rows_start, rows_start)

pub loop-k-preserved : goal.loop-k-preserved
loop-k-preserved c =
    let here = c.loop-k in
    let table = (get_or c.args.seats.now here.k blank).switch.table in
    let one : length table.ports ≡ 64 = search rules in
    let two : length table.addresses ≡ 64 = search rules in (
      rows_next blank table.ports here.invariant.0 (omega arith) refl refl one (omega arith) c.put_row.ensures,
      rows_next {next = 64 * here.k} blank table.addresses here.invariant.1 (omega arith) (omega arith) refl two (omega arith) c.put_row-in-loop-k.ensures,
    )

pub returns-clause-bytes : goal.returns-clause-bytes
returns-clause-bytes c = (rows_end c.loop-k.invariant.0 (omega arith)).so_far

pub returns-clause-wides : goal.returns-clause-wides
returns-clause-wides c = (rows_end c.loop-k.invariant.1 (omega arith)).so_far

pub returns-clause-ports : goal.returns-clause-ports
returns-clause-ports c = record { even = λ j h. c.loop-k.invariant.0.even j (omega arith) }

pub returns-clause-addresses : goal.returns-clause-addresses
returns-clause-addresses c = record { even = λ j h. c.loop-k.invariant.1.even j (omega arith) }
