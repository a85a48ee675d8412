-- Each turn puts the lowest digit that is left right before those that are put.
use Rattle.lines.proofs.Digits.{Putting}
use Rattle.lines.proofs.put_digits.Given as goal

abbrev pub invariant-loop-done : goal.invariant-loop-done
invariant-loop-done l = Putting l.initial.out l.out l.at l.n l.base l.count l.left l.done
