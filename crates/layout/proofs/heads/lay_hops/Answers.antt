use mathlib.Core.Path.{◌≡◌, refl}
use native.Mathlib.Omega.{arith}
use lib.ListN.{get_or, length}
use borrow.Author.Rules.{rules}
use Rattle.layout.proofs.Loops.{blank, rows_end, rows_next, rows_start}
use Rattle.layout.proofs.heads.lay_hops.Goals as goal

pub loop-k-init : goal.loop-k-init
loop-k-init c = rows_start

pub loop-k-preserved : goal.loop-k-preserved
loop-k-preserved c =
    let row = (get_or c.args.seats.now c.loop-k.k blank).switch.table.hops in
    let long : length row ≡ 64 = search rules in
    rows_next blank row c.loop-k.invariant (omega arith) refl refl long (omega arith) c.put_row.ensures

pub returns-clause-bytes : goal.returns-clause-bytes
returns-clause-bytes c = (rows_end c.loop-k.invariant (omega arith)).so_far

pub returns-clause-hops : goal.returns-clause-hops
returns-clause-hops c = record { even = λ j h. c.loop-k.invariant.even j (omega arith) }
