use mathlib.Core.Path.{sym, ◌∙◌, refl}
use native.Mathlib.Omega.{arith}
use lib.ListN.{drop}
use Rattle.event.proofs.Laws.{answer_is, size_range}
use Rattle.lines.specs.Lines.{line_of, stop_line}
use Rattle.lines.proofs.Laws.{stop_long}
use Rattle.transcript.proofs.Loop.{going_starts, going_room, going_stops, going_ends, going_next, line_fits, stands_can}
use Rattle.transcript.proofs.running.run.Goals as goal

pub loop-at-init : goal.loop-at-init
loop-at-init c = going_starts c.args.start c.fresh-parts.ensures c.requires

pub put_stop-requires : goal.put_stop-requires
put_stop-requires c = going_room c.requires c.loop-at.invariant c.loop-at-test.true stop_line (omega (arith, stop_long))

pub returns-in_default : goal.returns-in_default
returns-in_default c =
    let read = answer_is c.read_event.result (drop c.loop-at.at c.args.input.now) c.read_event.ensures in
    going_stops c.requires c.loop-at.invariant c.loop-at-test.true (sym read ∙ c.in_default.is) c.put_stop.ensures.output c.put_stop.ensures.end

pub act-answer-requires : goal.act-answer-requires
act-answer-requires c = stands_can c.loop-at.invariant.stands c.in-Ok.e

pub line_for-requires : goal.line_for-requires
line_for-requires c = c.act-answer.new.self.flight.few

pub put_line-wrote-requires : goal.put_line-wrote-requires
put_line-wrote-requires c =
    let read = answer_is c.read_event.result (drop c.loop-at.at c.args.input.now) c.read_event.ensures in
    let fits = line_fits c.requires c.loop-at.invariant c.loop-at-test.true c.in-Ok.e (sym read ∙ c.in-Ok.is) c.act-answer.new.self c.act-answer.result c.act-answer.ensures c.line_for.ensures in
    going_room c.requires c.loop-at.invariant c.loop-at-test.true (line_of c.line_for.result) fits

pub overflow_add-at : goal.overflow_add-at
overflow_add-at c = omega (arith, c.size_of-at.ensures, (size_range c.in-Ok.e).1, c.requires.short, c.loop-at-test.true)

pub loop-at-smaller : goal.loop-at-smaller
loop-at-smaller c = omega (arith, c.size_of-at.ensures, (size_range c.in-Ok.e).0, c.loop-at-test.true)

pub loop-at-preserved : goal.loop-at-preserved
loop-at-preserved c =
    let read = answer_is c.read_event.result (drop c.loop-at.at c.args.input.now) c.read_event.ensures in
    going_next c.requires c.loop-at.invariant c.loop-at-test.true c.in-Ok.e (sym read ∙ c.in-Ok.is) c.act-answer.new.self c.act-answer.result c.act-answer.ensures c.line_for.ensures
    c.put_line-wrote.ensures.output c.put_line-wrote.ensures.end c.size_of-at.ensures refl refl

pub returns : goal.returns
returns c = going_ends c.requires c.loop-at.invariant c.loop-at-test.false
