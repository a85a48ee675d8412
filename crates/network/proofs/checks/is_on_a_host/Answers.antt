-- The search answers for the hosts that there are, one of all zeros for those behind the array's end.
use mathlib.Core.Path.{◌≡◌}
use native.Mathlib.Omega.{arith}
use lib.ListN.{length}
use borrow.Author.Rules.{rules}
use borrow.Author.Tests.{le-ltb}
use Rattle.std.proofs.Common.{tests}
use Rattle.std.proofs.lemmas.Iterator.{YieldsList-from_slice, YieldsList-from_take}
use Rattle.std.proofs.lemmas.Iterator.Search.{any_from_yields_List}
use Rattle.network.specs.Network.{no_host}
use Rattle.network.specs.Checks.{host_on}
use Rattle.network.proofs.Lists.{any_found, any_behind, any_none}
use Rattle.network.proofs.checks.is_on_a_host.Goals as goal

pub returns-then-any : goal.returns-then-any
returns-then-any c =
    let found = any_from_yields_List (host_on c.args.at) _ _ c.any.result c.any.ensures.ran (YieldsList-from_take _ (YieldsList-from_slice c.args.n.now.hosts (search rules)) c.take.ensures.count) (λ x b q k. search (rules, tests)) in
    any_found no_host (host_on c.args.at) c.args.n.now.nhosts c.args.n.now.hosts found c.if-any.true

pub returns-then-count-gt-HOSTS : goal.returns-then-count-gt-HOSTS
returns-then-count-gt-HOSTS c =
    let found = any_from_yields_List (host_on c.args.at) _ _ c.any.result c.any.ensures.ran (YieldsList-from_take _ (YieldsList-from_slice c.args.n.now.hosts (search rules)) c.take.ensures.count) (λ x b q k. search (rules, tests)) in
    let long : length c.args.n.now.hosts ≡ 32 = search rules in
    any_behind no_host (host_on c.args.at) c.args.n.now.nhosts c.args.n.now.hosts found c.if-any.false (omega arith) (search (rules, tests))

pub returns-else-count-gt-HOSTS : goal.returns-else-count-gt-HOSTS
returns-else-count-gt-HOSTS c =
    let found = any_from_yields_List (host_on c.args.at) _ _ c.any.result c.any.ensures.ran (YieldsList-from_take _ (YieldsList-from_slice c.args.n.now.hosts (search rules)) c.take.ensures.count) (λ x b q k. search (rules, tests)) in
    let long : length c.args.n.now.hosts ≡ 32 = search rules in
    any_none no_host (host_on c.args.at) c.args.n.now.nhosts c.args.n.now.hosts found c.if-any.false (omega arith) (le-ltb 32 _ c.if-count-gt-HOSTS.false)
