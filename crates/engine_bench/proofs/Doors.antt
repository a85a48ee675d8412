-- The contract of each C function of the bench has one outcome: the number that it returns, beside what it leaves in all that is lent.
use Prim.Native.Nat.{ℕ}
use mathlib.Core.List.{List}
use Rattle.refusal.specs.OneOutcome.{OneOutcome}
use Rattle.refusal.proofs.Outcomes.{one_outcome, plain}
use Rattle.network.specs.declared.Network.{Network}
use Rattle.event.specs.declared.Event.{Event}
use Rattle.bench.specs.declared.Bench.{Bench}
use Rattle.counters.specs.declared.Counters.{Counters}
use Rattle.engine_bench.specs.Networks.{ReadsLent, WritesLent}
use Rattle.engine_bench.specs.Bench.{FreshensBench, HappensLent}

pub sc_read_has_one_outcome : (n : ℕ) (input b s a : List ℕ) (end : ℕ)
    → OneOutcome (λ (o : ℕ × List ℕ × List ℕ × List ℕ × ℕ). ReadsLent n input b s a end o.0 o.1 o.2 o.3 o.4)
sc_read_has_one_outcome n input b s a end = one_outcome plain (λ o p i. (p.number i, p.bytes i, p.salts i, p.addresses i, p.ends i))

pub sc_write_has_one_outcome : (r : ℕ) (n : Network) (out : List ℕ) (long : ℕ)
    → OneOutcome (λ (o : ℕ × List ℕ × ℕ). WritesLent r n out long o.0 o.1 o.2)
sc_write_has_one_outcome r n out long = one_outcome plain (λ o p i. (p.number i, p.output i, p.told i))

pub sc_fresh_has_one_outcome : (r : ℕ) (n : Network) (b m w v : List ℕ)
    → OneOutcome (λ (o : ℕ × List ℕ × List ℕ × List ℕ × List ℕ). FreshensBench r n b m w v o.0 o.1 o.2 o.3 o.4)
sc_fresh_has_one_outcome r n b m w v =
    one_outcome plain (λ o p i. (p.number i, p.bench.bytes i, p.bench.masks i, p.bench.words i, p.bench.wides i))

pub sc_event_has_one_outcome : (r : ℕ) (x : Bench) (e : Event) (c : Counters) (b m w v cs ns : List ℕ)
    → OneOutcome
    (λ (o : ℕ × List ℕ × List ℕ × List ℕ × List ℕ × List ℕ × List ℕ). HappensLent r x e c b m w v cs ns o.0 o.1 o.2 o.3 o.4 o.5 o.6)
sc_event_has_one_outcome r x e c b m w v cs ns =
    one_outcome
    plain
    (λ o p i. (p.number i, p.bench.bytes i, p.bench.masks i, p.bench.words i, p.bench.wides i, p.counters i, p.report i))
