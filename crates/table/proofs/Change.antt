-- Looking up finds a slot, or nothing; learning and erasing write one, or nothing. What holds in both cases holds of them.
use mathlib.Core.Path.{◌≡◌}
use mathlib.Core.Bool.{true, false}
use mathlib.Core.Logic.{◌⊎◌, ◌≢◌, inl, inr, by_cases}
use Prim.Native.Nat.{ℕ, ◌<◌, ◌≤◌}
use native.Mathlib.Decide.{dec_lt, ℕ_discrete}
use native.Mathlib.Omega.{arith}
use borrow.Author.Tests.{eq-eqb, ne_eqb, lt-ltb, le-ltb}
use Rattle.std.specs.Prelude.{Option, Some, None}
use Rattle.table.specs.declared.Entry.{Entry}
use Rattle.table.specs.declared.Table.{Table}
use Rattle.table.specs.Table.{Learned, entry_at, erase_at, erase_of, found_at, learn_at, learn_of, learned_of, lookup_of, put, slot_for, slot_of, slots}

pub lookup_cases : (P : Option Entry → Type 0) (t : Table) (x : ℕ) → (x ≢ 0 → slot_of x t.addresses < slots → P (Some (entry_at t (slot_of x t.addresses))))
    → ((x ≡ 0) ⊎ (slots ≤ slot_of x t.addresses) → P None) → P (lookup_of t x)
unfolding lookup_of found_at
lookup_cases P t x stands absent = by_cases (ℕ_discrete x 0)
    (λ e. rw (eq-eqb x 0 e) (absent (inl e)))
    (λ n. rw (ne_eqb x 0 n) (by_cases (dec_lt (slot_of x t.addresses) slots)
    (λ l. rw (lt-ltb (slot_of x t.addresses) slots l) (stands n l))
    (λ d. let l : slots ≤ slot_of x t.addresses = omega arith in rw (le-ltb (slot_of x t.addresses) slots l) (absent (inr l)))))

pub learn_cases : (P : Learned → Type 0) (t : Table) (x p h : ℕ) → (slot_for x t.addresses < slots → P (learned_of false (put t (slot_for x t.addresses) x p h)))
    → (slots ≤ slot_for x t.addresses → P (learned_of true t)) → P (learn_of t x p h)
unfolding learn_of learn_at
learn_cases P t x p h room full = by_cases (dec_lt (slot_for x t.addresses) slots)
    (λ l. rw (lt-ltb (slot_for x t.addresses) slots l) (room l))
    (λ d. let l : slots ≤ slot_for x t.addresses = omega arith in rw (le-ltb (slot_for x t.addresses) slots l) (full l))

pub erase_cases : (P : Table → Type 0) (t : Table) (x : ℕ) → (slot_of x t.addresses < slots → P (put t (slot_of x t.addresses) 0 0 0))
    → (slots ≤ slot_of x t.addresses → P t) → P (erase_of t x)
unfolding erase_of erase_at
erase_cases P t x stands absent = by_cases (dec_lt (slot_of x t.addresses) slots)
    (λ l. rw (lt-ltb (slot_of x t.addresses) slots l) (stands l))
    (λ d. let l : slots ≤ slot_of x t.addresses = omega arith in rw (le-ltb (slot_of x t.addresses) slots l) (absent l))
