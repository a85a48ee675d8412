-- A copy in three words: each part is read back from bits of its own.
use Prim.Native.Nat.{ℕ, ◌+◌, ◌*◌, ◌/◌, ◌%◌, ◌^◌, ◌<◌}
use mathlib.Core.Path.{◌≡◌}
use mathlib.Core.Bool.{Bool, true, false}
use mathlib.Core.List.{[], ◌∷◌}
use native.Mathlib.Omega.{arith}
use lib.Dec.{eqb}
use borrow.Author.Tests.{eq-eqb, ne_eqb}
use Rattle.frame.specs.Header.{bit}
use Rattle.frame.proofs.Laws.{bit_small}
use Rattle.flight.specs.Flight.{unpack}

bit_read : (n : ℕ) (b : Bool) → n ≡ bit b → eqb n 1 ≡ b
bit_read n true e = eq-eqb n 1 e
bit_read n false e = ne_eqb n 1 (λ q. omega arith)

module _ (link hc nonce : ℕ) (second l f : Bool) (small : link < 2 ^ 8) (hops : hc < 2 ^ 8) (young : nonce < 2 ^ 32) where
  abbrev rest : ℕ
  rest = link + 2 ^ 8 * (bit second + 2 * bit l + 4 * bit f) + 2 ^ 11 * hc + 2 ^ 19 * nonce

  link_read : rest % 2 ^ 8 ≡ link
  link_read = omega (arith, bit_small second, bit_small l, bit_small f)

  second_read : eqb (rest / 2 ^ 8 % 2) 1 ≡ second
  second_read = bit_read (rest / 2 ^ 8 % 2) second (omega (arith, bit_small second, bit_small l, bit_small f))

  l_read : eqb (rest / 2 ^ 9 % 2) 1 ≡ l
  l_read = bit_read (rest / 2 ^ 9 % 2) l (omega (arith, bit_small second, bit_small l, bit_small f))

  f_read : eqb (rest / 2 ^ 10 % 2) 1 ≡ f
  f_read = bit_read (rest / 2 ^ 10 % 2) f (omega (arith, bit_small second, bit_small l, bit_small f))

  hc_read : rest / 2 ^ 11 % 2 ^ 8 ≡ hc
  hc_read = omega (arith, bit_small second, bit_small l, bit_small f)

  nonce_read : rest / 2 ^ 19 % 2 ^ 32 ≡ nonce
  nonce_read = omega (arith, bit_small second, bit_small l, bit_small f)

  pub read_back : (source destination : ℕ) → unpack (source ∷ destination ∷ rest ∷ [])
      ≡ record { link = link; second = second; source = source; destination = destination; header = record { l = l; f = f; hc = hc; nonce = nonce } }
  unfolding unpack
  read_back source destination = rw (link_read, second_read, l_read, f_read, hc_read, nonce_read)
