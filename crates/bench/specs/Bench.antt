-- Document 01, "The bench": what a bench is, and a fresh one. The list of copies is the start of an array; what a count leaves unused is no part of the bench.
use Rattle.std.specs.Prelude.{ℕ, zero, suc, Bool, true, ◌≡◌, List, [], ◌∷◌, ◌++◌, Result, IfOk, get_or, replicate, take}
use Rattle.network.specs.declared.Network.{Network}
use Rattle.network.specs.Network.{empty_network, most_switches, most_links, padded}
use Rattle.network.specs.Checks.{network_fault}
use Rattle.refusal.specs.declared.Refusal.{Refusal}
use Rattle.refusal.specs.Refusal.{leaves}
use Rattle.refusal.specs.Number.{refused_as}
use Rattle.rules.specs.declared.Setup.{Setup}
use Rattle.cabling.specs.Cabling.{plugs_of, setup_of}
use Rattle.seat.specs.declared.Seat.{Seat}
use Rattle.seat.specs.Seat.{fresh_seat}
use Rattle.flight.specs.declared.Copy.{Copy}
use Rattle.flight.specs.Flight.{most, no_copy}
use Rattle.bench.specs.declared.Bench.{Bench}

-- a bench of these parts
abbrev pub bench_of : Network → List Bool → List Seat → List Copy → ℕ → Bench
bench_of network up seats copies flying = record { network = network; up = up; seats = seats; copies = copies; flying = flying }

-- the copies in flight, in a list
unfoldable pub in_flight : Bench → List Copy
in_flight b = take b.flying b.copies

-- a place with no head: a setup of zeros
abbrev pub no_setup : Setup
no_setup = record { ports = 0; live = 0; host = 0; limit = 0; salt = 0 }

-- its seat: nothing learned, nothing recorded
abbrev pub no_seat : Seat
no_seat = fresh_seat no_setup

-- the head with a number
unfoldable pub seat_at : Bench → ℕ → Seat
seat_at b k = get_or b.seats k no_seat

-- the first heads of a stand: tables and filters empty, nonces 0
unfoldable pub fresh_heads : Network → List Bool → ℕ → List Seat
fresh_heads n up zero = []
fresh_heads n up (suc k) = fresh_heads n up k ++ (fresh_seat (setup_of n (plugs_of n) up k) ∷ [])

-- all links up
abbrev pub all_up : List Bool
all_up = replicate most_links true

-- a fresh bench
unfoldable pub fresh_bench : Network → Bench
fresh_bench n = bench_of n all_up (padded no_seat most_switches (fresh_heads n all_up n.nswitches)) (replicate most no_copy) 0

-- what stands beside the answer: the fresh bench, that of the empty network where the writer would refuse this one
abbrev pub fresh_or_empty : Network → Bench
fresh_or_empty n = fresh_bench (leaves (network_fault n) empty_network n)

-- a network that the writer would refuse is refused with that number; of any other there is its fresh bench
pub record Freshens (n : Network) (r : Result Bench Refusal) : Type 0 where
  pub refused : refused_as r ≡ network_fault n
  pub bench : IfOk r (λ b. b ≡ fresh_bench n)
