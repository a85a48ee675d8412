-- The definition's tests in their order; the first that fails decides. What the heads' test found is handed on.
use mathlib.Core.Path.{◌≡◌}
use mathlib.Core.Bool.{◌&&◌}
use lib.Dec.{leb}
use lib.ListN.{length}
use borrow.Author.Rules.{rules}
use native.Mathlib.Omega.{arith}
use Rattle.flight.specs.Flight.{most}
use Rattle.bench.specs.Shape.{Sized}
use Rattle.bench.proofs.Described.{few_switches}
use Rattle.bench.proofs.Tested.{Heads, also, heads_asked, heads_unasked, none_found, not_even, shape_found, shape_tested, shape_unasked}
use Rattle.bench.proofs.Bench.is_in_shape.Goals.{then-is_ok, else-is_ok, then-seats_fit, else-seats_fit}
use Rattle.bench.proofs.Bench.is_in_shape.Goals as goal

pub seats_fit-requires : goal.seats_fit-requires
seats_fit-requires c =
    let whole : length c.args.self.now.seats ≡ 16 = search rules in
    omega (arith, few_switches c.args.self.now.network (none_found c.check.result c.is_ok.ensures.value c.check.ensures c.if-is_ok.true))

pub returns-then-self-le-MOST : goal.returns-then-self-le-MOST
returns-then-self-le-MOST c =
    let b = c.args.self.now in
    let sized : Sized b = record { up = search rules; seats = search rules; copies = search rules } in
    let heads : Heads b c.if-is_ok.value = elim c.if-is_ok.branch [
      | then-is_ok w ↦ heads_asked (none_found c.check.result c.is_ok.ensures.value c.check.ensures w.if-is_ok.true) w.value-is w.seats_fit.ensures.test w.seats_fit.ensures.fit
      | else-is_ok w ↦ heads_unasked c.check.result c.is_ok.ensures.value c.check.ensures w.if-is_ok.false w.value-is
    ] in
    let few : c.if-seats_fit.value ≡ (c.if-is_ok.value && leb b.flying most) = elim c.if-seats_fit.branch [
      | then-seats_fit w ↦ also w.if-seats_fit.true w.value-is
      | else-seats_fit w ↦ not_even _ w.if-seats_fit.false w.value-is
    ] in
    record { test = shape_tested sized heads few c.if-self-le-MOST.true c.copies_fit.ensures; shape = shape_found sized heads few c.if-self-le-MOST.true c.copies_fit.ensures }

pub returns-else-self-le-MOST-clause-test : goal.returns-else-self-le-MOST-clause-test
returns-else-self-le-MOST-clause-test c =
    let b = c.args.self.now in
    let sized : Sized b = record { up = search rules; seats = search rules; copies = search rules } in
    let heads : Heads b c.if-is_ok.value = elim c.if-is_ok.branch [
      | then-is_ok w ↦ heads_asked (none_found c.check.result c.is_ok.ensures.value c.check.ensures w.if-is_ok.true) w.value-is w.seats_fit.ensures.test w.seats_fit.ensures.fit
      | else-is_ok w ↦ heads_unasked c.check.result c.is_ok.ensures.value c.check.ensures w.if-is_ok.false w.value-is
    ] in
    let few : c.if-seats_fit.value ≡ (c.if-is_ok.value && leb b.flying most) = elim c.if-seats_fit.branch [
      | then-seats_fit w ↦ also w.if-seats_fit.true w.value-is
      | else-seats_fit w ↦ not_even _ w.if-seats_fit.false w.value-is
    ] in
    shape_unasked sized heads few c.if-self-le-MOST.false
