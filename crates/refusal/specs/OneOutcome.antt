-- Document 01, "How tight the contracts are": no two outcomes satisfy a contract. An outcome is what a call gives back, beside what each buffer that was
-- lent to it then holds.
use Rattle.std.specs.Prelude.{◌≡◌}

-- no two outcomes satisfy a contract
abbrev pub OneOutcome : {A : Type 0} → (A → Type 0) → Type 0
OneOutcome {A} Contract = (a b : A) → Contract a → Contract b → a ≡ b

-- two that read the same are the same: so number and values tell the cases of an answer apart
abbrev pub TellsApart : {A B : Type 0} → (A → B) → Type 0
TellsApart {A} read = (a b : A) → read a ≡ read b → a ≡ b
