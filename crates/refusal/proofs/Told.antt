-- Number and values tell the answers apart, so a contract that gives them gives the answer.
use Prim.Native.Nat.{ℕ}
use mathlib.Core.Path.{◌≡◌, refl, sym, ap, ◌∙◌}
use mathlib.Core.Bool.{cond, true, false≢true}
use mathlib.Core.List.{List}
use lib.Dec.{eqb}
use native.Mathlib.Omega.{arith}
use borrow.Author.Tests.{ne_eqb}
use Rattle.std.specs.Prelude.{OnOk, Result, Ok, Err}
use Rattle.std.specs.Result.{is_ok}
use Rattle.refusal.specs.Refusal.{Told}
use Rattle.refusal.specs.Number.{number_of, refused_as, told}
use Rattle.refusal.specs.OneOutcome.{TellsApart}
use Rattle.refusal.specs.declared.Refusal.{Refusal}
use Rattle.refusal.specs.declared.Refusal.TheVariants.{
  IllFormed,
  NoSuchPort,
  PortDown,
  BadLength,
  BadSource,
  TaggedInside,
  NotTagged,
  NoHops,
  NoRoom,
  HeaderTooLarge,
  BadRecord,
  NoVersion,
  OutOfRange,
  PortTaken,
  BadAddress,
  TooMany,
  OutOfOrder,
  NoRoomToWrite,
  OutOfShape,
  NoSuchHost,
  ToNobody,
  NoSuchCopy,
  NoSuchLink,
  TooManyEvents,
}

-- the refusal that has a number
refusal_of : ℕ → Refusal
refusal_of n =
    cond (eqb n 1) IllFormed (
    cond (eqb n 2) NoSuchPort (
    cond (eqb n 3) PortDown (
    cond (eqb n 4) BadLength (
    cond (eqb n 5) BadSource (
    cond (eqb n 6) TaggedInside (
    cond (eqb n 7) NotTagged (
    cond (eqb n 8) NoHops (
    cond (eqb n 9) NoRoom (
    cond (eqb n 10) HeaderTooLarge (
    cond (eqb n 20) BadRecord (
    cond (eqb n 21) NoVersion (
    cond (eqb n 22) OutOfRange (
    cond (eqb n 23) PortTaken (
    cond (eqb n 24) BadAddress (
    cond (eqb n 25) TooMany (
    cond (eqb n 26) OutOfOrder (
    cond (eqb n 27) NoRoomToWrite (
    cond (eqb n 28) OutOfShape (
    cond (eqb n 30) NoSuchHost (
    cond (eqb n 31) ToNobody (
    cond (eqb n 32) NoSuchCopy (
    cond (eqb n 33) NoSuchLink (
    TooManyEvents)))))))))))))))))))))))

back : (r : Refusal) → refusal_of (number_of r) ≡ r
unfolding refusal_of
back r = grind arith

-- and none has the number 0
pub some : (r : Refusal) → number_of r ≡ 0 → ⊥
some r e = grind arith

-- each refusal has a number of its own
pub number_apart : TellsApart number_of
number_apart a b e = sym (back a) ∙ ap refusal_of e ∙ back b

module _ {a b : Told} (e : a ≡ b) where
  same_number : a.number ≡ b.number
  same_number = ap (λ (t : Told). t.number) e

  same_values : a.values ≡ b.values
  same_values = ap (λ (t : Told). t.values) e

-- an answer is told apart where its value is
pub told_apart : {A : Type 0} {values : A → List ℕ} → TellsApart values → TellsApart (told values)
told_apart apart (Ok x) (Ok y) e = ap Ok (apart x y (same_values e))
told_apart apart (Ok x) (Err r) e = absurd (some r (sym (same_number e)))
told_apart apart (Err r) (Ok y) e = absurd (some r (same_number e))
told_apart apart (Err r) (Err s) e = ap Err (number_apart r s (same_number e))

-- the number of an answer that is none
pub refused_apart : {A : Type 0} (r : Refusal) (a : Result A Refusal) → refused_as a ≡ number_of r → a ≡ Err r
refused_apart r (Ok x) e = absurd (some r (sym e))
refused_apart r (Err s) e = ap Err (number_apart s r e)

-- an answer is none exactly where its number is 0
pub is_ok_as : {A : Type 0} (a : Result A Refusal) → is_ok a ≡ eqb (refused_as a) 0
is_ok_as (Ok x) = refl
is_ok_as (Err r) = sym (ne_eqb (number_of r) 0 (some r))

-- what is promised of a value holds of an answer that is none
pub on_ok : {A P : Type 0} (a : Result A Refusal) → is_ok a ≡ true → OnOk a P → P
on_ok (Ok x) e p = p
on_ok (Err r) e p = absurd (false≢true e)
