-- What the event on counters by value gives is what the public event promises.
use Prim.Native.Nat.{ℕ, zero, suc}
use mathlib.Core.Path.{◌≡◌, refl}
use native.Mathlib.Omega.{arith}
use Rattle.std.specs.Prelude.{Ok, Err}
use Rattle.refusal.specs.Refusal.{answered, leaves}
use Rattle.event.specs.declared.Event.{Event}
use Rattle.turn.specs.Turn.{Answer, answer_values, told}
use Rattle.bench.specs.declared.Bench.{Bench}
use Rattle.bench.specs.Events.{event_of}
use Rattle.counters.specs.Counters.{accepted_by}
use Rattle.counters.specs.Event.{Happens, Outcome, event_refusal, happens_of, refusal_numbered}
use Rattle.counters.specs.declared.Counters.{Counters}
use Rattle.counters.proofs.Answering.{counts_one}
use Rattle.counters.proofs.Refusing.{Named, event_named}

-- an accepted event's answer tells its values, a refused one's its number alone
told_so : (n : ℕ) → Named n → (a : Answer) → accepted_by a ≡ 1 → told (leaves n (Err (refusal_numbered n)) a) ≡ answered n (answer_values a)
told_so zero named (Err r) e = absurd (omega arith)
told_so zero named (Ok done) e = refl
told_so (suc n) named a e = rw (named (λ z. omega arith))

pub promised : {b : Bench} {e : Event} {c : Counters} {o : Outcome} → o ≡ happens_of b e c → Happens b c e o.happened.answer o.happened.bench o.counters
unfolding happens_of
promised {b} {e} {c} q = rw q (record {
  answer = told_so (event_refusal b c e) (event_named b c e) (event_of b e).answer (counts_one b e);
  bench = refl;
  counters = refl;
})
