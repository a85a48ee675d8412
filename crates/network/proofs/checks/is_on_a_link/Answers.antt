-- The search answers for the links that there are, one of all zeros for those behind the array's end.
use mathlib.Core.Path.{◌≡◌}
use native.Mathlib.Omega.{arith}
use lib.ListN.{length}
use borrow.Author.Rules.{rules}
use borrow.Author.Tests.{le-ltb}
use Rattle.std.proofs.Common.{tests}
use Rattle.std.proofs.lemmas.Iterator.{YieldsList-from_slice, YieldsList-from_take}
use Rattle.std.proofs.lemmas.Iterator.Search.{any_from_yields_List}
use Rattle.network.specs.Network.{no_link}
use Rattle.network.specs.Checks.{link_on}
use Rattle.network.proofs.Lists.{any_found, any_behind, any_none}
use Rattle.network.proofs.checks.is_on_a_link.Goals as goal

pub returns-then-any : goal.returns-then-any
returns-then-any c =
    let found = any_from_yields_List (link_on c.args.at) _ _ c.any.result c.any.ensures.ran (YieldsList-from_take _ (YieldsList-from_slice c.args.n.now.links (search rules)) c.take.ensures.count) (λ x b q k. search (rules, tests)) in
    any_found no_link (link_on c.args.at) c.args.n.now.nlinks c.args.n.now.links found c.if-any.true

pub returns-then-count-gt-LINKS : goal.returns-then-count-gt-LINKS
returns-then-count-gt-LINKS c =
    let found = any_from_yields_List (link_on c.args.at) _ _ c.any.result c.any.ensures.ran (YieldsList-from_take _ (YieldsList-from_slice c.args.n.now.links (search rules)) c.take.ensures.count) (λ x b q k. search (rules, tests)) in
    let long : length c.args.n.now.links ≡ 64 = search rules in
    any_behind no_link (link_on c.args.at) c.args.n.now.nlinks c.args.n.now.links found c.if-any.false (omega arith) (search (rules, tests))

pub returns-else-count-gt-LINKS : goal.returns-else-count-gt-LINKS
returns-else-count-gt-LINKS c =
    let found = any_from_yields_List (link_on c.args.at) _ _ c.any.result c.any.ensures.ran (YieldsList-from_take _ (YieldsList-from_slice c.args.n.now.links (search rules)) c.take.ensures.count) (λ x b q k. search (rules, tests)) in
    let long : length c.args.n.now.links ≡ 64 = search rules in
    any_none no_link (link_on c.args.at) c.args.n.now.nlinks c.args.n.now.links found c.if-any.false (omega arith) (le-ltb 64 _ c.if-count-gt-LINKS.false)
