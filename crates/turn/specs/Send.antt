-- What becomes of the copies of a step: a host port's host receives one, a link carries one to its other end, in ascending port order while there is room.
-- `send_out` says it port by port, `new_copies`, `Adds` and `Reaches` all at once; proofs/Laws says that it is the same.
use Rattle.std.specs.Prelude.{ℕ, zero, suc, ◌+◌, ◌-◌, ◌^◌, ◌≤◌, ◌<◌, ◌≡◌, ◌⊎◌, true, cond, Option, Some, None, List, [], ◌∷◌, ◌++◌, ltb, drop, get_or, length, take}
use Rattle.std.specs.Int.Bits.{bit_or}
use Rattle.frame.specs.declared.Header.{Header}
use Rattle.rules.specs.Mask.{names}
use Rattle.rules.specs.declared.Arrival.{Arrival}
use Rattle.rules.specs.declared.Send.{Send}
use Rattle.cabling.specs.declared.End.{End}
use Rattle.cabling.specs.declared.Plug.{Plug}
use Rattle.cabling.specs.declared.Plug.TheVariants.{Open, Host, Link}
use Rattle.cabling.specs.Cabling.{most_ports, other_end}
use Rattle.flight.specs.declared.Copy.{Copy}
use Rattle.flight.specs.Flight.{copy_at, most, pack}
use Rattle.turn.specs.declared.sending.Sent.{Sent}

-- the copies in flight, the hosts that received, and how many copies were placed and lost
pub record Outbox : Type 0 where
  pub flying : List Copy
  pub received : ℕ
  pub placed : ℕ
  pub lost : ℕ

-- the copies in flight, and the numbers beside them
abbrev pub outbox : List Copy → Sent → Outbox
outbox flying s = record { flying = flying; received = s.received; placed = s.placed; lost = s.lost }

-- before anything is sent
abbrev pub nothing_sent : List Copy → Outbox
nothing_sent flying = record { flying = flying; received = 0; placed = 0; lost = 0 }

-- the numbers then
abbrev pub nothing : Sent
nothing = record { received = 0; placed = 0; lost = 0 }

-- the copy of an arrival's frame that a link carries to an end, under the outgoing header
abbrev pub copy_to : End → Arrival → Header → Copy
copy_to e a h = record { link = e.link; second = e.second; source = a.source; destination = a.destination; header = h }

-- a new copy joins the end while there is room; the others are lost
unfoldable pub joins : Copy → Outbox → Outbox
joins c x =
    cond (ltb (length x.flying) most)
    (record { flying = x.flying ++ (c ∷ []); received = x.received; placed = x.placed + 1; lost = x.lost })
    (record { flying = x.flying; received = x.received; placed = x.placed; lost = x.lost + 1 })

-- host i receives: its bit is set
unfoldable pub receives : ℕ → Outbox → Outbox
receives i x = record { flying = x.flying; received = bit_or x.received (2 ^ i); placed = x.placed; lost = x.lost }

-- one port sends: to its host, or to the other end of its link
unfoldable pub send_on : Plug → Arrival → Header → Outbox → Outbox
send_on Open a h x = x
send_on (Host i) a h x = receives i x
send_on (Link e) a h x = joins (copy_to (other_end e) a h) x

-- a port sends where the mask names it
unfoldable pub send_at : (ℕ → Plug) → Arrival → ℕ → Header → ℕ → Outbox → Outbox
send_at plug a mask h p x = cond (names mask p) (send_on (plug p) a h x) x

-- so many ports from p on send, in ascending order
unfoldable pub send_from : (ℕ → Plug) → Arrival → ℕ → Header → ℕ → ℕ → Outbox → Outbox
send_from plug a mask h zero p x = x
send_from plug a mask h (suc n) p x = send_from plug a mask h n (p + 1) (send_at plug a mask h p x)

-- what a verdict sends goes out on all its ports
unfoldable pub send_out : (ℕ → Plug) → Arrival → Option Send → Outbox → Outbox
send_out plug a None x = x
send_out plug a (Some s) x = send_from plug a s.mask s.header most_ports 0 x

-- ---- The same, all ports at once

-- the copy for what is plugged into a port: of a link, to its other end
abbrev pub copy_on : Plug → Arrival → Header → List Copy
copy_on Open a h = []
copy_on (Host i) a h = []
copy_on (Link e) a h = copy_to (other_end e) a h ∷ []

-- those for the ports that the mask names, of so many from p on
unfoldable pub copies_from : (ℕ → Plug) → Arrival → ℕ → Header → ℕ → ℕ → List Copy
copies_from plug a mask h zero p = []
copies_from plug a mask h (suc n) p = cond (names mask p) (copy_on (plug p) a h) [] ++ copies_from plug a mask h n (p + 1)

-- the new copies of what is sent, in ascending port order
unfoldable pub new_copies : (ℕ → Plug) → Arrival → Option Send → List Copy
new_copies plug a None = []
new_copies plug a (Some s) = copies_from plug a s.mask s.header most_ports 0

-- for how many more there is room
abbrev pub room_in : List Copy → ℕ
room_in flying = most - length flying

-- as many as there is room for join the end of the list and are placed; the others are lost
pub record Adds (new : List Copy) (before after : Outbox) : Type 0 where
  pub flying : after.flying ≡ before.flying ++ take (room_in before.flying) new
  pub placed : after.placed ≡ before.placed + length (take (room_in before.flying) new)
  pub lost : after.lost ≡ before.lost + length (drop (room_in before.flying) new)

-- a port that the mask names is host i's
pub record Reaches (plug : ℕ → Plug) (mask i : ℕ) : Type 0 where
  pub port : ℕ
  pub below : port < most_ports
  pub named : names mask port ≡ true
  pub plugged : plug port ≡ Host i

-- ---- Words of the code that sends

-- only the places from n on to m were written, each with the words of the copy that it then carries
pub record Written (n : ℕ) (before : List (List ℕ)) (m : ℕ) (after : List (List ℕ)) : Type 0 where
  pub more : n ≤ m
  pub long : length after ≡ length before
  pub new : (i : ℕ) → n ≤ i → i < m → get_or after i [] ≡ pack (copy_at after i)
  pub others : (i : ℕ) → (i < n) ⊎ (m ≤ i) → get_or after i [] ≡ get_or before i []

-- a host has one of 32 numbers
abbrev pub Numbered : Plug → Type 0
Numbered Open = Unit {0}
Numbered (Host i) = i < 32
Numbered (Link e) = Unit {0}

-- host i's bit was set, and nothing else
pub record Received (i : ℕ) (s r : Sent) : Type 0 where
  pub box : (xs : List Copy) → outbox xs r ≡ receives i (outbox xs s)
  pub sent : r.placed + r.lost ≡ s.placed + s.lost
