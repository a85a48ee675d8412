-- A bench made fresh, and an event on it, in what a caller lends.
use mathlib.Core.Path.{◌≡◌, refl, sym, ap, subst, ◌∙◌}
use mathlib.Core.Bool.{Bool, true, false, cond, ◌&&◌, and-eq-true_iff}
use mathlib.Core.List.{List, []}
use Prim.Native.Nat.{ℕ, zero, suc}
use native.Mathlib.Omega.{arith}
use lib.Dec.{eqb}
use lib.ListN.{length}
use borrow.Author.Tests.{eqb-true}
use Rattle.std.specs.Prelude.{Result, Ok, Err}
use Rattle.refusal.specs.Refusal.{Told, answered, leaves}
use Rattle.refusal.specs.Number.{number_of}
use Rattle.refusal.specs.Number as refusal
use Rattle.refusal.specs.declared.Refusal.{Refusal}
use Rattle.refusal.specs.declared.Refusal.TheVariants.{BadRecord}
use Rattle.refusal.proofs.Told.{refused_apart}
use Rattle.refusal.proofs.Laws.{accepted_leaves, refused_leaves}
use Rattle.network.specs.declared.Network.{Network}
use Rattle.network.specs.Checks.{network_fault}
use Rattle.event.specs.declared.Event.{Event}
use Rattle.event.specs.declared.Event.TheVariants.{Present, Take, Link}
use Rattle.event.specs.Event.{bad_event, event_in, event_values, read_answer, read_event}
use Rattle.event.proofs.Laws.{answer_is}
use Rattle.turn.specs.declared.Done.{Done}
use Rattle.turn.specs.Turn.{Answer, Answers, answer_values, told}
use Rattle.turn.proofs.Laws.{told_apart}
use Rattle.bench.specs.declared.Bench.{Bench}
use Rattle.bench.specs.Bench.{fresh_bench}
use Rattle.bench.specs.Events.{event_of}
use Rattle.bench.proofs.Laws.{event_accepts}
use Rattle.counters.specs.declared.Counters.{Counters}
use Rattle.counters.specs.Counters.{counted}
use Rattle.counters.specs.Event.{Happens, event_refusal}
use Rattle.layout.specs.Layout.{HoldsBench, LaidBench, bench_bytes, bench_fits, bench_in, bench_wides, seat_masks, seat_words}
use Rattle.engine.proofs.Telling.{tells, tells_number}
use Rattle.engine_bench.specs.Bench.{BenchLent, FreshensBench, HappensLent, counter_size, counter_values, event_fits, event_numbers, event_size, fresh_refusal, happen_refusal}

-- ---- Lengths

pub fits_bench : (b m w v : List ℕ) → bench_fits (length b) (length m) (length w) (length v) ≡ true → HoldsBench b m w v
fits_bench b m w v e =
    let first = (and-eq-true_iff (eqb (length b) 12384 && eqb (length m) 32 && eqb (length w) 32) (eqb (length v) 2561)).0 e in
    let second = (and-eq-true_iff (eqb (length b) 12384 && eqb (length m) 32) (eqb (length w) 32)).0 first.0 in
    let third = (and-eq-true_iff (eqb (length b) 12384) (eqb (length m) 32)).0 second.0 in
    record { bytes = eqb-true _ _ third.0; masks = eqb-true _ _ third.1; words = eqb-true _ _ second.1; wides = eqb-true _ _ first.1 }

-- arrays of an event have their lengths
abbrev pub Fitting : List ℕ → List ℕ → List ℕ → List ℕ → List ℕ → List ℕ → Type 0
Fitting b m w v cs ns = HoldsBench b m w v × (length cs ≡ counter_size) × (length ns ≡ event_size)

pub fits_event : (b m w v cs ns : List ℕ) → event_fits (length b) (length m) (length w) (length v) (length cs) (length ns) ≡ true → Fitting b m w v cs ns
unfolding event_fits
fits_event b m w v cs ns e =
    let first = (and-eq-true_iff (eqb (length cs) counter_size && eqb (length ns) event_size) (bench_fits (length b) (length m) (length w) (length v))).0 e in
    let second = (and-eq-true_iff (eqb (length cs) counter_size) (eqb (length ns) event_size)).0 first.0 in
    (fits_bench b m w v first.1, eqb-true _ _ second.0, eqb-true _ _ second.1)

-- ---- The bench's arrays

module _ {r : ℕ} {x : Bench} {b m w v : List ℕ} where
  bench_laid : {y : Bench} {b' m' w' v' : List ℕ} → 0 ≡ r → y ≡ x → LaidBench y b' m' w' v' → BenchLent r x b m w v b' m' w' v'
  bench_laid none e laid =
      record {
        bytes = laid.bytes ∙ ap bench_bytes e ∙ accepted_leaves none refl b _;
        masks = laid.masks ∙ ap (λ (z : Bench). seat_masks z.seats) e ∙ accepted_leaves none refl m _;
        words = laid.words ∙ ap (λ (z : Bench). seat_words z.seats) e ∙ accepted_leaves none refl w _;
        wides = laid.wides ∙ ap bench_wides e ∙ accepted_leaves none refl v _;
      }

  bench_kept : {k : ℕ} → k ≡ r → (k ≡ 0 → ⊥) → BenchLent r x b m w v b m w v
  bench_kept e some =
      record { bytes = refused_leaves e some _ _; masks = refused_leaves e some _ _; words = refused_leaves e some _ _; wides = refused_leaves e some _ _ }

-- ---- Fresh

-- a refusal's number is not 0, which is none's
some : (r : Refusal) → number_of r ≡ 0 → ⊥
some r e = other (refused_apart r (Ok tt) (sym e))
  where
    other : ◌≡◌ {A = Result (Unit {0}) Refusal} (Ok tt) (Err r) → ⊥
    other p = let z : ◌≡◌ {A = ℕ} 0 1 = cc in omega arith

module _ {n : Network} {b m w v : List ℕ} where
  pub freshen_refused : (r : Refusal) → number_of r ≡ network_fault n → FreshensBench (network_fault n) n b m w v (number_of r) b m w v
  freshen_refused r e = record { number = e; bench = bench_kept e (some r) }

  pub freshen_done : {x : Bench} {b' m' w' v' : List ℕ} → 0 ≡ network_fault n → x ≡ fresh_bench n → LaidBench x b' m' w' v'
      → FreshensBench (network_fault n) n b m w v 0 b' m' w' v'
  freshen_done none e laid = record { number = none; bench = bench_laid none e laid }

module _ {p : Bool} (q : Bool) {n : Network} {b m w v : List ℕ} where
  pub fresh_no_network : p ≡ false → FreshensBench (fresh_refusal p q n) n b m w v 20 b m w v
  unfolding fresh_refusal
  fresh_no_network e = rw e (record { number = refl; bench = bench_kept {k = 20} refl (omega arith) })

module _ {p q : Bool} {n : Network} {b m w v : List ℕ} where
  pub fresh_no_bench : p ≡ true → q ≡ false → FreshensBench (fresh_refusal p q n) n b m w v 28 b m w v
  unfolding fresh_refusal
  fresh_no_bench e f = rw (e, f) (record { number = refl; bench = bench_kept {k = 28} refl (omega arith) })

  pub fresh_inside : {r : ℕ} {b' m' w' v' : List ℕ} → p ≡ true → q ≡ true → FreshensBench (network_fault n) n b m w v r b' m' w' v' → FreshensBench (fresh_refusal p q n) n b m w v r b' m' w' v'
  unfolding fresh_refusal
  fresh_inside e f made = rw (e, f) made

-- the network that was read out of its arrays
pub fresh_of : {n₀ n : Network} {b m w v b' m' w' v' : List ℕ} {r : ℕ} → n₀ ≡ n → FreshensBench (network_fault n₀) n₀ b m w v r b' m' w' v' → FreshensBench (network_fault n) n b m w v r b' m' w' v'
fresh_of {b = b} {m} {w} {v} {b'} {m'} {w'} {v'} {r} q h = subst (λ (k : Network). FreshensBench (network_fault k) k b m w v r b' m' w' v') q h

-- ---- Event

-- what reading an event tells
abbrev told_event : Result Event Refusal → Told
told_event a = refusal.told event_values a

-- an accepted event's answer is no refusal
told_done : (e : Event) (a : Answer) → Answers e a → told a ≡ tells 0 (answer_values a)
told_done (Present p) a (r, q) = rw q
told_done (Take place) a (r, q) = rw q
told_done (Link s) a (cut, q) = rw q

module _ {x : Bench} {e : Event} {c : Counters} {b m w v cs ns : List ℕ} where
  pub happen_refused : (r : Refusal) {x' : Bench} {c' : Counters} → Happens x c e (Err r) x' c' → HappensLent (event_refusal x c e) x e c b m w v cs ns (number_of r) b m w v cs ns
  happen_refused r h =
      let number : number_of r ≡ event_refusal x c e = tells_number (number_of r) (event_refusal x c e) _ [] h.answer in
      record { number = number; bench = bench_kept number (some r); counters = refused_leaves number (some r) _ _; report = refused_leaves number (some r) _ _ }

  pub happen_done : {done : Done} {x' : Bench} {c' : Counters} {b' m' w' v' cs' ns' : List ℕ} → Happens x c e (Ok done) x' c' → LaidBench x' b' m' w' v'
      → cs' ≡ counter_values c' → ns' ≡ event_numbers (Ok done) → HappensLent (event_refusal x c e) x e c b m w v cs ns 0 b' m' w' v' cs' ns'
  happen_done {done} h laid counts numbers =
      let answer = (event_of x e).answer in
      let none : 0 ≡ event_refusal x c e = tells_number 0 (event_refusal x c e) (answer_values answer) (answer_values (Ok done)) h.answer in
      let did : Ok done ≡ answer = told_apart (Ok done) answer (h.answer ∙ ap (λ k. answered k (answer_values answer)) (sym none) ∙ sym (told_done e answer (event_accepts x e))) in
      record {
        number = none;
        bench = bench_laid none (h.bench ∙ sym (accepted_leaves none refl x _)) laid;
        counters = counts ∙ ap counter_values (h.counters ∙ sym (accepted_leaves none refl c _)) ∙ accepted_leaves none refl cs _;
        report = numbers ∙ ap event_numbers did ∙ accepted_leaves none refl ns _;
      }

-- a refused call leaves everything as it was
untouched : (k : ℕ) {x : Bench} {e : Event} {c : Counters} {b m w v cs ns : List ℕ} → HappensLent (suc k) x e c b m w v cs ns (suc k) b m w v cs ns
untouched k = record { number = refl; bench = bench_kept {k = suc k} refl (omega arith); counters = refl; report = refl }

module _ {x : Bench} {c : Counters} {b m w v cs ns : List ℕ} (input : List ℕ) where
  module _ {p : Bool} (q : Bool) where
    pub event_no_network : p ≡ false → HappensLent (happen_refusal p q x c input) x (event_in input) c b m w v cs ns 20 b m w v cs ns
    unfolding happen_refusal
    event_no_network e = rw e (untouched 19)

  module _ {p q : Bool} (e : p ≡ true) where
    pub event_no_bench : q ≡ false → HappensLent (happen_refusal p q x c input) x (event_in input) c b m w v cs ns 28 b m w v cs ns
    unfolding happen_refusal
    event_no_bench f = rw (e, f) (untouched 27)

    module _ {a : Result Event Refusal} (f : q ≡ true) (is : told_event a ≡ read_answer input) where
      pub event_bad : (k : Refusal) → a ≡ Err k → HappensLent (happen_refusal p q x c input) x (event_in input) c b m w v cs ns (number_of k) b m w v cs ns
      unfolding happen_refusal read_event
      event_bad k g = rw (e, f) (by_test (bad_event input) (sym g ∙ answer_is a input is))
        where
          by_test : (t : Bool) → Err k ≡ cond t (Err BadRecord) (Ok (event_in input))
              → HappensLent (cond t 20 (event_refusal x c (event_in input))) x (event_in input) c b m w v cs ns (number_of k) b m w v cs ns
          by_test true h = let twenty : k ≡ BadRecord = cc in rw twenty (untouched 19)
          by_test false h = let z : ◌≡◌ {A = ℕ} 0 1 = cc in absurd (omega arith)

      pub event_inside : {i : Event} {r : ℕ} {b' m' w' v' cs' ns' : List ℕ} → a ≡ Ok i → HappensLent (event_refusal x c i) x i c b m w v cs ns r b' m' w' v' cs' ns'
          → HappensLent (happen_refusal p q x c input) x (event_in input) c b m w v cs ns r b' m' w' v' cs' ns'
      unfolding happen_refusal read_event
      event_inside {i} {r} {b'} {m'} {w'} {v'} {cs'} {ns'} g h = rw (e, f) (by_test (bad_event input) (sym g ∙ answer_is a input is))
        where
          by_test : (t : Bool) → Ok i ≡ cond t (Err BadRecord) (Ok (event_in input))
              → HappensLent (cond t 20 (event_refusal x c (event_in input))) x (event_in input) c b m w v cs ns r b' m' w' v' cs' ns'
          by_test true d = let z : ◌≡◌ {A = ℕ} 0 1 = cc in absurd (omega arith)
          by_test false d = let same : i ≡ event_in input = cc in rw same at h

-- the network that was read out of its arrays
pub event_of_lem : {n₀ n : Network} {c : Counters} {i : Event} {b m w v cs ns b' m' w' v' cs' ns' : List ℕ} {r : ℕ} → n₀ ≡ n
    → HappensLent (event_refusal (bench_in n₀ b m w v) c i) (bench_in n₀ b m w v) i c b m w v cs ns r b' m' w' v' cs' ns'
    → HappensLent (event_refusal (bench_in n b m w v) c i) (bench_in n b m w v) i c b m w v cs ns r b' m' w' v' cs' ns'
event_of_lem {c = c} {i} {b} {m} {w} {v} {cs} {ns} {b'} {m'} {w'} {v'} {cs'} {ns'} {r} q h =
    subst (λ (k : Network). HappensLent (event_refusal (bench_in k b m w v) c i) (bench_in k b m w v) i c b m w v cs ns r b' m' w' v' cs' ns') q h
