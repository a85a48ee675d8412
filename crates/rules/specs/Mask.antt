-- Masks over a switch's ports: bit p stands for port p.
use Rattle.std.specs.Prelude.{ℕ, ◌-◌, ◌/◌, ◌%◌, ◌^◌, Bool, eqb}
use Rattle.std.specs.Int.Bits.{bit_and}

-- the mask names port p
unfoldable pub names : ℕ → ℕ → Bool
names mask p = eqb (mask / 2 ^ p % 2) 1

-- the mask of port p alone
abbrev pub only : ℕ → ℕ
only p = 2 ^ p

-- all ports of a mask but p
unfoldable pub all_but : ℕ → ℕ → ℕ
all_but p mask = bit_and mask (65535 - only p)
