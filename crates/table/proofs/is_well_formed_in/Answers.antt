use borrow.Author.Rules.{rules}
use native.Mathlib.Omega.{arith}
use Rattle.table.proofs.Marks.{pass_start, pass_next, pass_fails, pass_end, unmarked}
use mathlib.Core.Path.{sym, ◌∙◌}
use Rattle.table.proofs.is_well_formed_in.Goals as goal

pub loop-i-init : goal.loop-i-init
loop-i-init c = pass_start _ _ _ (search rules)

pub slot_fits-requires : goal.slot_fits-requires
slot_fits-requires c = (c.requires, search rules, unmarked c.loop-i.invariant (omega arith) _ c.mark_of-mark.ensures.mark c.requires)

pub returns-then-not-slot_fits : goal.returns-then-not-slot_fits
returns-then-not-slot_fits c = pass_fails c.loop-i.invariant (omega arith) (sym c.slot_fits.ensures ∙ c.if-not-slot_fits.true)

pub loop-i-preserved : goal.loop-i-preserved
loop-i-preserved c = pass_next c.loop-i.invariant (omega arith) _ c.mark_of-mark.ensures.mark c.mark_of-mark.ensures.within (sym c.slot_fits.ensures ∙ c.if-not-slot_fits.false)

pub returns : goal.returns
returns c = pass_end c.loop-i.invariant (omega arith)
