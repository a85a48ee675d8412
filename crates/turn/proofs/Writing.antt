-- Which places of the array were written.
use Prim.Native.Nat.{ℕ, ◌+◌, ◌-◌, ◌≤◌, ◌<◌}
use mathlib.Core.Path.{◌≡◌, sym, ap, subst, ◌∙◌}
use mathlib.Core.Logic.{◌⊎◌, inl, inr, ⊎_elim, by_cases}
use mathlib.Core.List.{List, []}
use native.Mathlib.Decide.{dec_lt}
use native.Mathlib.Omega.{arith}
use lib.ListN.{length, get_or, take, drop, length-set, length-append, length-drop, take-append-drop}
use lib.Seq.{get_or_at, get_or-set_same, get_or-set_other, length-take-le}
use Rattle.flight.specs.declared.Copy.{Copy}
use Rattle.flight.specs.Flight.{Joined, TakenOut, copies_in, copy_at, laid, no_copy, pack, unpack, without}
use Rattle.flight.proofs.Laws.{copies_length, copy_at_is}
use Rattle.turn.specs.Send.{Written}
use Rattle.turn.specs.Turn.{Laid}

-- one, with the copy that joined
pub written_joined : {n : ℕ} {c : Copy} {before after : List (List ℕ)} → n < length before → Joined n c before after → Written n before (n + 1) after
written_joined {n} {c} {before} {after} less joined =
    record {
      more = omega arith;
      long = ap length joined.words ∙ length-set before n (pack c);
      new = λ i least below. at_end i (omega arith);
      others = λ i outside. ap (λ ws. get_or ws i []) joined.words ∙ get_or-set_other before n i (pack c) [] (not_end i outside);
    }
  where
    its_copy : copy_at after n ≡ c
    its_copy =
        sym (copy_at_is (n + 1) n after (omega arith)) ∙ ap (λ cs. get_or cs n no_copy) joined.copies
        ∙ get_or_at (copies_in n before) c [] no_copy n (copies_length n before (omega arith))

    at_end : (i : ℕ) → i ≡ n → get_or after i [] ≡ pack (copy_at after i)
    at_end i e = rw e (ap (λ ws. get_or ws n []) joined.words ∙ get_or-set_same before n (pack c) [] less ∙ ap pack (sym its_copy))

    not_end : (i : ℕ) → (i < n) ⊎ (n + 1 ≤ i) → i ≡ n → ⊥
    not_end i (inl h) e = omega arith
    not_end i (inr h) e = omega arith

-- some, and then others behind them
pub written_then : {n m k : ℕ} {a b c : List (List ℕ)} → Written n a m b → Written m b k c → Written n a k c
written_then {n} {m} {k} {a} {b} {c} v w =
    record {
      more = omega (arith, v.more, w.more);
      long = w.long ∙ v.long;
      new = λ i least below. by_cases (dec_lt i m) (λ h. earlier i least h) (λ h. w.new i (omega arith) below);
      others = λ i outside. ⊎_elim (λ h. w.others i (inl (omega (arith, v.more))) ∙ v.others i (inl h)) (λ h. w.others i (inr h) ∙ v.others i (inr (omega (arith, w.more)))) outside;
    }
  where
    earlier : (i : ℕ) → n ≤ i → i < m → get_or c i [] ≡ pack (copy_at c i)
    earlier i least h = let same = w.others i (inl h) in same ∙ v.new i least h ∙ ap (λ x. pack (unpack x)) (sym same)

-- ---- What lies in front

pub laid_same : (n : ℕ) (words : List (List ℕ)) → n ≤ length words → laid (take n words) words ≡ words
unfolding laid
laid_same n words h = rw (length-take-le n words h) (take-append-drop n words)

one_fewer : (place : ℕ) (words : List (List ℕ)) → place < length words → length (without place words) + 1 ≡ length words
unfolding without
one_fewer place words h = omega (arith, length-append (take place words) (drop (place + 1) words), length-take-le place words (omega arith), length-drop (place + 1) words)

-- all that is in flight
pub laid_all : {n m : ℕ} {before after : List (List ℕ)} → n ≤ length before → Written n before m after → Laid (take n before) before m after
laid_all {n} {m} {before} {after} h v =
    subst (λ ws. Written (length (take n before)) ws m after) (sym (laid_same n before h)) (subst (λ k. Written k before m after) (sym (length-take-le n before h)) v)

-- all but one
pub laid_without : {n m place : ℕ} {before between after : List (List ℕ)} → place < n → n ≤ length before → TakenOut place n before between
    → Written (n - 1) between m after → Laid (without place (take n before)) before m after
laid_without {n} {m} {place} {before} {between} {after} less h taken v =
    let long = length-take-le n before h in
    let count : n - 1 ≡ length (without place (take n before)) = omega (arith, one_fewer place (take n before) (omega arith)) in
    subst (λ ws. Written (length (without place (take n before))) ws m after) taken.words (subst (λ k. Written k between m after) count v)
