-- What is told tells answers apart: number and values, and of a verdict what a head's step tells of it.
use mathlib.Core.Path.{◌≡◌, ap}
use mathlib.Core.Bool.{false}
use mathlib.Core.List.{◌∷◌}
use Rattle.refusal.specs.OneOutcome.{TellsApart}
use Rattle.refusal.proofs.Told.{told_apart}
use Rattle.frame.proofs.Told.{bit_apart}
use Rattle.rules.specs.Verdict.{verdict_values}
use Rattle.rules.specs.declared.Report as rules
use Rattle.rules.specs.declared.Verdict.{Verdict}
use Rattle.head.proofs.Laws as head
use Rattle.turn.specs.declared.Report.{Report}
use Rattle.turn.specs.declared.Done.TheVariants.{Stepped, Linked}
use Rattle.turn.specs.Turn.{done_values, report_values, told}

-- a step's report of a verdict alone
plain : Verdict → rules.Report
plain v = record { verdict = v; full = false; overwrote = false }

verdict_apart : (v u : Verdict) → verdict_values v ≡ verdict_values u → v ≡ u
unfolding plain
verdict_apart v u e = ap (λ (r : rules.Report). r.verdict) (head.report_apart (plain v) (plain u) (ap (λ vs. 0 ∷ 0 ∷ vs) e))

report_apart : (r q : Report) → report_values r ≡ report_values q → r ≡ q
report_apart r q e =
    let switch : r.switch ≡ q.switch = cc in
    let port : r.port ≡ q.port = cc in
    let source : r.source ≡ q.source = cc in
    let destination : r.destination ≡ q.destination = cc in
    let placed : r.placed ≡ q.placed = cc in
    let lost : r.lost ≡ q.lost = cc in
    let received : r.received ≡ q.received = cc in
    let overwrote : r.overwrote ≡ q.overwrote = bit_apart r.overwrote q.overwrote (cc) in
    let values : verdict_values r.verdict ≡ verdict_values q.verdict = cc in
    let verdict : r.verdict ≡ q.verdict = verdict_apart r.verdict q.verdict values in
    λ i.
    record {
      switch = switch i;
      port = port i;
      source = source i;
      destination = destination i;
      verdict = verdict i;
      placed = placed i;
      lost = lost i;
      received = received i;
      overwrote = overwrote i;
    }

done_apart : TellsApart done_values
done_apart (Stepped r) (Stepped q) e = ap Stepped (report_apart r q e)
done_apart (Linked k) (Linked l) e = cc
done_apart (Stepped r) (Linked k) e = cc
done_apart (Linked k) (Stepped q) e = cc

pub answer_apart : TellsApart told
answer_apart = told_apart done_apart
