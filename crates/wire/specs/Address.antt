-- Addresses are six bytes, here numbers below 2^48 (document 01: "neither zero nor group").
use Rattle.std.specs.Prelude.{ℕ, ◌/◌, ◌%◌, ◌^◌, ◌<◌, ◌≡◌, ◌≢◌, Bool, not, ◌&&◌, eqb, ltb}

-- an address has six bytes
abbrev pub address_bound : ℕ
address_bound = 2 ^ 48

-- its group bit is the lowest of the first byte
abbrev pub group_bit : ℕ → ℕ
group_bit x = x / 2 ^ 40 % 2

-- a source address: six bytes, neither zero nor group
pub record Source (x : ℕ) : Type 0 where
  pub nonzero : x ≢ 0
  pub below : x < address_bound
  pub single : group_bit x ≡ 0

-- the same as a test
unfoldable pub is_source : ℕ → Bool
is_source x = not (eqb x 0) && ltb x address_bound && eqb (group_bit x) 0
