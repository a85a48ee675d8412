-- A switch made fresh, and an address looked up, in what a caller lends.
use mathlib.Core.Path.{◌≡◌, refl, sym, ap, ◌∙◌}
use mathlib.Core.Bool.{Bool, true, false, cond, true≢false}
use mathlib.Core.List.{List, [], ◌∷◌}
use Prim.Native.Nat.{ℕ, ◌+◌, ◌-◌, ◌≤◌, ◌<◌}
use native.Mathlib.Omega.{arith}
use lib.ListN.{length, take, length-replicate, replicate-append-replicate}
use lib.Seq.{take_at}
use borrow.Author.Tests.{ne_eqb, not-false}
use Rattle.refusal.specs.Refusal.{Cause, first}
use Rattle.refusal.proofs.Laws.{none_holds}
use Rattle.table.specs.declared.Table.{Table}
use Rattle.table.specs.Table.{empty_table}
use Rattle.filter.specs.Filter.{zeros}
use Rattle.filter.specs.Triple.{is_length, well_formed}
use Rattle.rules.specs.declared.Setup.{Setup}
use Rattle.head.specs.Switch.{switch_causes}
use Rattle.head.specs.Step.{switch_of}
use Rattle.engine.specs.Head.{fresh_of, setup_refusal}

-- ---- Refusal 1 of a fresh switch

pub zeros_front : (k n : ℕ) → k ≤ n → take k (zeros n) ≡ zeros k
zeros_front k n h =
    let whole : k + (n - k) ≡ n = omega arith in
    ap (λ (m : ℕ). take k (zeros m)) (sym whole) ∙ ap (λ (l : List ℕ). take k l) (sym (replicate-append-replicate k (n - k) 0)) ∙ take_at (zeros k) (zeros (n - k)) k (length-replicate k 0)

-- all are causes of refusal 1
abbrev AllOne : List Cause → Type 0
AllOne [] = Unit {0}
AllOne (c ∷ cs) = (c.number ≡ 1) × AllOne cs

-- so where one holds the call is refused with 1
refused_one : (cs : List Cause) → AllOne cs → (first cs ≡ 0 → ⊥) → first cs ≡ 1
refused_one [] ones some = absurd (some refl)
refused_one (c ∷ cs) ones some = by_test c.holds some (refused_one cs ones.1)
  where
    by_test : (b : Bool) → (cond b c.number (first cs) ≡ 0 → ⊥) → ((first cs ≡ 0 → ⊥) → first cs ≡ 1) → cond b c.number (first cs) ≡ 1
    by_test true some go = ones.0
    by_test false some go = go some

-- no filter is longer than 256 cells
too_long : (f : List ℕ) → 2560 < length f → well_formed f ≡ false
unfolding well_formed is_length
too_long f h =
    rw (ne_eqb (length f) 160 (omega arith), ne_eqb (length f) 320 (omega arith), ne_eqb (length f) 640 (omega arith), ne_eqb (length f) 1280 (omega arith), ne_eqb (length f) 2560 (omega arith))

pub long_refused : (s : Setup) (n : ℕ) → 2560 < n → setup_refusal s n ≡ 1
unfolding setup_refusal
long_refused s n h =
    let whole : length (zeros n) ≡ n = length-replicate n 0 in
    let bad = too_long (zeros n) (omega arith) in
    let cs : List Cause = switch_causes (fresh_of s) (zeros n) in
    refused_one cs (refl, (refl, (refl, (refl, (refl, (refl, (refl, tt))))))) (λ e.
    let none = none_holds cs (omega arith) e in
    true≢false (sym (not-false (well_formed (zeros n)) none.1.1.1.1.1.1.0) ∙ bad))

pub tested : (s : Setup) (n : ℕ) {t : Table} {r : ℕ} → t ≡ empty_table → n ≤ 2560 → r ≡ first (switch_causes (switch_of s 0 t) (take n (zeros 2560))) → r ≡ setup_refusal s n
unfolding setup_refusal
tested s n {t} {r} e h q = q ∙ ap (λ (u : Table). first (switch_causes (switch_of s 0 u) (take n (zeros 2560)))) e ∙ ap (λ (f : List ℕ). first (switch_causes (fresh_of s) f)) (zeros_front n 2560 h)
