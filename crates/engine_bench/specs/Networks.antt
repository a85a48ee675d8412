-- A description through the door: a network is lent as the three arrays of `layout`. A network of wrong length is refused with 20, whose cause
-- names a wrong length.
use Rattle.std.specs.Prelude.{ℕ, ◌≡◌, Bool, cond, List, length}
use Rattle.refusal.specs.Refusal.{leaves}
use Rattle.network.specs.declared.Network.{Network}
use Rattle.network.specs.Describe.{image, read_end, read_fault, read_network, write_fault, written}
use Rattle.layout.specs.Layout.{network_addresses, network_bytes, network_salts}

-- reading a description: 20 for arrays that don't fit a network, then the reader's own
unfoldable pub read_refusal : Bool → List ℕ → ℕ
read_refusal fits input = cond fits (read_fault input) 20

-- what reading returns, n being its refusal, and what it leaves in the network's arrays and in the reference to the description's end
pub record ReadsLent (n : ℕ) (input b s a : List ℕ) (end returned : ℕ) (b' s' a' : List ℕ) (end' : ℕ) : Type 0 where
  pub number : returned ≡ n
  pub bytes : b' ≡ leaves n b (network_bytes (read_network input))
  pub salts : s' ≡ leaves n s (network_salts (read_network input))
  pub addresses : a' ≡ leaves n a (network_addresses (read_network input))
  pub ends : end' ≡ leaves n end (read_end input)

-- writing one: 20 for arrays that don't fit, then the writer's own
unfoldable pub write_refusal : Bool → Network → ℕ → ℕ
write_refusal fits n room = cond fits (write_fault n room) 20

-- what writing returns, r being its refusal, and what it leaves in the output and in the reference to the description's length
pub record WritesLent (r : ℕ) (n : Network) (out : List ℕ) (long returned : ℕ) (out' : List ℕ) (long' : ℕ) : Type 0 where
  pub number : returned ≡ r
  pub output : out' ≡ leaves r out (written n out)
  pub told : long' ≡ leaves r long (length (image n))
