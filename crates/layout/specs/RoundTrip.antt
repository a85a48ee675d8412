-- What was laid down is read back as it was, so that event after event through C is event after event on the bench.
-- Each statement is a type; proofs/Back has its term, under the same name in lower case.
use Rattle.std.specs.Prelude.{◌≡◌}
use Rattle.network.specs.declared.Network.{Network}
use Rattle.bench.specs.declared.Bench.{Bench}
use Rattle.layout.specs.Layout.{SizedBench, SizedNetwork, bench_bytes, bench_in, bench_wides, network_addresses, network_bytes, network_in, network_salts, seat_masks, seat_words}

-- a network whose arrays are as long as its type says
abbrev pub NetworkReadsBack : Type 0
NetworkReadsBack = (n : Network) → SizedNetwork n → network_in (network_bytes n) (network_salts n) (network_addresses n) ≡ n

-- a bench whose arrays are so, and whose copies' numbers are within their types
abbrev pub BenchReadsBack : Type 0
BenchReadsBack = (b : Bench) → SizedBench b → bench_in b.network (bench_bytes b) (seat_masks b.seats) (seat_words b.seats) (bench_wides b) ≡ b
