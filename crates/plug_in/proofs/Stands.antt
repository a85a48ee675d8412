-- Small stands on which the prover computes runs.
use Prim.Native.Nat.{ℕ}
use mathlib.Core.List.{List, [], ◌∷◌}
use Rattle.network.specs.declared.Network.{Network}
use Rattle.network.specs.declared.Record.{Record}
use Rattle.network.specs.declared.Record.TheVariants.{Switch as OfSwitch, Host as OfHost, Link as OfLink}
use Rattle.network.specs.Network.{built, empty_network}
use Rattle.event.specs.declared.Address.{Address}

-- a switch: ports, limit, salt
abbrev pub switch : ℕ → ℕ → ℕ → Record
switch ports limit salt = OfSwitch (record { ports = ports; limit = limit; salt = salt })

-- a host: its switch and port, its address
abbrev pub host : ℕ → ℕ → ℕ → Record
host s p address = OfHost (record { port = record { switch = s; number = p }; address = address })

-- a link: the switch and port of each end
abbrev pub link : ℕ → ℕ → ℕ → ℕ → Record
link s p t q = OfLink (record { first = record { switch = s; number = p }; second = record { switch = t; number = q } })

abbrev pub stand : List Record → Network
stand rs = built empty_network rs

-- an address that is no host's
abbrev pub away : Address
away = record { b0 = 0; b1 = 0; b2 = 0; b3 = 0; b4 = 0; b5 = 9 }

-- ---- The stands; host 0, which sends, has address 2 and is on switch 0

-- two switches, each with a host; the limits are 2
unfoldable pub pair : Network
pair =
    stand
    (switch 2 2 1 ∷ switch 2 2 2
    ∷ host 0 0 2 ∷ host 1 0 4
    ∷ link 0 1 1 1
    ∷ [])

-- the same, but the second switch has limit 1
unfoldable pub low : Network
low =
    stand
    (switch 2 2 1 ∷ switch 2 1 2
    ∷ host 0 0 2 ∷ host 1 0 4
    ∷ link 0 1 1 1
    ∷ [])

-- the same, with two hosts on the second switch
unfoldable pub trio : Network
trio =
    stand
    (switch 2 2 1 ∷ switch 3 2 2
    ∷ host 0 0 2 ∷ host 1 0 4 ∷ host 1 1 6
    ∷ link 0 1 1 2
    ∷ [])

-- a ring of three switches, each with a host; the limits are 3
unfoldable pub ring : Network
ring =
    stand
    (switch 3 3 1 ∷ switch 3 3 2 ∷ switch 3 3 3
    ∷ host 0 0 2 ∷ host 1 0 4 ∷ host 2 0 6
    ∷ link 0 1 1 1 ∷ link 0 2 2 1 ∷ link 1 2 2 2
    ∷ [])

-- switch 1 has a host and seven links, to each other switch; switch 0 has a host; the limits are 8
unfoldable pub star : Network
star =
    stand
    (switch 2 8 1 ∷ switch 8 8 2 ∷ switch 1 8 3 ∷ switch 1 8 4 ∷ switch 1 8 5 ∷ switch 1 8 6 ∷ switch 1 8 7 ∷ switch 1 8 8
    ∷ host 0 0 2 ∷ host 1 0 4
    ∷ link 0 1 1 1 ∷ link 1 2 2 0 ∷ link 1 3 3 0 ∷ link 1 4 4 0 ∷ link 1 5 5 0 ∷ link 1 6 6 0 ∷ link 1 7 7 0
    ∷ [])

-- a ring of four switches, and a fifth on switch 1 alone; no two are more than three links apart, and the limits are 4
unfoldable pub spur : Network
spur =
    stand
    (switch 3 4 1 ∷ switch 4 4 2 ∷ switch 2 4 3 ∷ switch 2 4 4 ∷ switch 2 4 5
    ∷ host 0 0 2 ∷ host 1 0 4 ∷ host 4 1 6
    ∷ link 0 1 1 1 ∷ link 0 2 3 1 ∷ link 1 2 2 0 ∷ link 1 3 4 0 ∷ link 2 1 3 0
    ∷ [])

-- the ring of four, where switch 4 is reached from switch 1 and, over switch 5, from switch 3; the limits are 6
unfoldable pub mesh : Network
mesh =
    stand
    (switch 3 6 1 ∷ switch 3 6 2 ∷ switch 2 6 3 ∷ switch 3 6 4 ∷ switch 2 6 5 ∷ switch 2 6 6
    ∷ host 0 0 2
    ∷ link 0 1 1 0 ∷ link 0 2 3 0 ∷ link 1 1 2 0 ∷ link 1 2 4 0 ∷ link 2 1 3 1 ∷ link 3 2 5 0 ∷ link 4 1 5 1
    ∷ [])
