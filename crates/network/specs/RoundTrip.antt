-- What the reader and the writer are to each other. Each statement is a type; proofs/Laws has its term, under the same name in lower case.
use Rattle.std.specs.Prelude.{ℕ, ◌≤◌, ◌≡◌, ◌≢◌, List, ◌++◌, length, take, None, Ok}
use Rattle.refusal.specs.Number.{told}
use Rattle.refusal.specs.OneOutcome.{TellsApart}
use Rattle.wire.specs.Wire.{AreBytes}
use Rattle.network.specs.declared.Network.{Network}
use Rattle.network.specs.Network.{cleared, empty_network}
use Rattle.network.specs.Format.{start_of}
use Rattle.network.specs.Checks.{network_fault}
use Rattle.network.specs.Describe.{end_values, read_fault, read_end, read_network, image}

-- the reader accepts bytes as a network whose description ends at a place
pub record ReadsAs (b : List ℕ) (n : Network) (end : ℕ) : Type 0 where
  pub accepted : read_fault b ≡ 0
  pub ended : read_end b ≡ end
  pub network : read_network b ≡ n

-- what the writer accepts and writes reads back as the same network, its unused places all zeros, and ends where it was written to
abbrev pub WrittenReadsBack : Type 0
WrittenReadsBack = (n : Network) → network_fault n ≡ 0 → ReadsAs (image n) (cleared n) (length (image n))

-- the same with events behind it, as long as the input isn't too long
abbrev pub EventsBehind : Type 0
EventsBehind = (n : Network) (events : List ℕ) → network_fault n ≡ 0 → start_of events ≡ Ok None → length (image n ++ events) ≤ 60000 → ReadsAs (image n ++ events) (cleared n) (length (image n))

-- what the reader accepts the writer accepts, and writes back as the input's bytes up to where the description ended
abbrev pub ReadWritesBack : Type 0
ReadWritesBack = (b : List ℕ) → AreBytes b → read_fault b ≡ 0 → (network_fault (read_network b) ≡ 0) × (image (read_network b) ≡ take (read_end b) b)

-- there are bytes that the reader accepts as a network
pub record Readable (n : Network) : Type 0 where
  pub bytes : List ℕ
  pub are_bytes : AreBytes bytes
  pub end : ℕ
  pub reads : ReadsAs bytes n end

-- reader and writer accept the same networks, up to unused places: the writer a network, exactly if the reader finds it somewhere with all zeros there
abbrev pub SameNetworks : Type 0
SameNetworks = (n : Network) → (network_fault n ≡ 0 → Readable (cleared n)) × (Readable (cleared n) → network_fault n ≡ 0)

-- what the reader gives has all zeros at its unused places
abbrev pub ReadsCleared : Type 0
ReadsCleared = (b : List ℕ) → read_fault b ≡ 0 → cleared (read_network b) ≡ read_network b

-- an input that is refused is read as no network
abbrev pub RefusedReadsNone : Type 0
RefusedReadsNone = (b : List ℕ) → read_fault b ≢ 0 → read_network b ≡ empty_network

-- two answers that tell the same are the same
abbrev pub ToldApart : Type 0
ToldApart = TellsApart (told end_values)
