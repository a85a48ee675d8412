-- Digits are one more than the power of ten that the number reaches; 0 has one, as 1 has.
use Rattle.std.proofs.Common.{◌≡◌, ◌+◌, arith, ◌∙◌, sym, ap}
use mathlib.Core.Logic.{by_cases}
use native.Mathlib.Decide.{ℕ_discrete}
use Rattle.lines.specs.Lines.{width}
use Rattle.lines.proofs.Digits.{width_is, width_small}
use Rattle.lines.proofs.width_of.Goals as goal

pub returns : goal.returns
returns c =
    let some : c.ilog10.result + 1 ≡ width c.max.result = sym (width_is _ _ c.ilog10.ensures.power_le c.ilog10.ensures.next_power_gt) in
    by_cases (ℕ_discrete c.args.n 0)
    (λ z. (omega (arith, width_small c.max.result (omega arith), width_small c.args.n (omega arith)), omega arith))
    (λ d. let same : c.max.result ≡ c.args.n = omega arith in (some ∙ ap width same, omega arith))
