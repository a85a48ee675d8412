-- The fold over the key's bytes is the definition's recursion.
use Rattle.std.proofs.Common.{◌≡◌, rules, ◌∙◌}
use Rattle.std.specs.List.{fold}
use Rattle.filter.specs.Filter.{mixed}
use Rattle.filter.proofs.Bytes.{folded}
use Rattle.filter.proofs.hash_of.Goals as goal

pub returns : goal.returns
returns c = let all : c.fold.result ≡ fold mixed c.args.salt c.args.key.now = search rules in all ∙ folded c.args.salt c.args.key.now
