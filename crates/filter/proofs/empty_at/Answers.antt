-- Each byte is asked whether it is zero.
use Rattle.std.proofs.Common.{◌≡◌, ◌+◌, ◌-◌, rules, arith}
use Rattle.std.specs.Prelude.{◌↔◌, IsTrue, All}
use Rattle.wire.specs.Wire.{part}
use Rattle.filter.proofs.Bytes.{all_empty}
use Rattle.filter.proofs.empty_at.Goals as goal

pub returns : goal.returns
returns c =
    let there : c.args.at + c.args.count - c.args.at ≡ c.args.count = omega arith in
    let each : IsTrue c.all.result ↔ All (λ b. b ≡ 0) (part c.args.at c.args.count c.args.filter.now) = search rules in
    all_empty _ _ each
