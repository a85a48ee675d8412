-- The learning table of document 01, "The head's switch". A slot is a place of three lists: an address, a port and a hop count. Clients cite what
-- stands above "The tests", by the laws of proofs/Laws; the tests are what the code computes of `WellFormed`, and the laws say that they agree.
use Rattle.std.specs.Prelude.{ℕ, suc, ◌+◌, ◌/◌, ◌%◌, ◌^◌, ◌<◌, ◌≤◌, ◌≡◌, ◌⊎◌, ◌≢◌, Bool, true, false, cond, ◌&&◌, List, [], ◌∷◌, Option, Some, None, drop, get_or, set, replicate, length, eqb, ltb, leb}
use Rattle.std.specs.Int.Bits.{bit_xor}
use Rattle.wire.specs.Address.{Source, is_source}
use Rattle.wire.specs.Below.{all_below}
use Rattle.table.specs.declared.Table.{Table}
use Rattle.table.specs.declared.Entry.{Entry}

-- ---- Numbers of document 01

-- the slots of a table
abbrev pub slots : ℕ
slots = 64

-- the least hop count that a slot may hold
abbrev pub least_hops : ℕ
least_hops = 1

-- the most
abbrev pub most_hops : ℕ
most_hops = 62

-- ---- The table

-- the table that three lists are
abbrev pub table_of : List ℕ → List ℕ → List ℕ → Table
table_of addresses ports hops = record { addresses = addresses; ports = ports; hops = hops }

-- it has 64 slots, as its type says
pub record Sized (t : Table) : Type 0 where
  pub addresses : length t.addresses ≡ slots
  pub ports : length t.ports ≡ slots
  pub hops : length t.hops ≡ slots

-- the address in slot i
abbrev pub address_at : Table → ℕ → ℕ
address_at t i = get_or t.addresses i 0

-- its port
abbrev pub port_at : Table → ℕ → ℕ
port_at t i = get_or t.ports i 0

-- its hop count
abbrev pub hops_at : Table → ℕ → ℕ
hops_at t i = get_or t.hops i 0

-- an entry: port p, hop count h
abbrev pub entry_of : ℕ → ℕ → Entry
entry_of p h = record { port = p; hops = h }

-- the entry in slot i
abbrev pub entry_at : Table → ℕ → Entry
entry_at t i = entry_of (port_at t i) (hops_at t i)

-- an empty table: every slot is all zeros
unfoldable pub empty_table : Table
empty_table = table_of (replicate slots 0) (replicate slots 0) (replicate slots 0)

-- the first place of x, or the length where there is none
unfoldable pub slot_of : ℕ → List ℕ → ℕ
slot_of x [] = 0
slot_of x (y ∷ ys) = cond (eqb y x) 0 (suc (slot_of x ys))

-- a place of a list, none from its length on
unfoldable pub place_in : List ℕ → ℕ → Option ℕ
place_in l i = cond (ltb i (length l)) (Some i) None

-- a search that passed i slots, none of which has x, goes on with the rest
pub record Passed (x : ℕ) (l : List ℕ) (i : ℕ) : Type 0 where
  pub within : i ≤ length l
  pub rest : slot_of x l ≡ i + slot_of x (drop i l)

-- none of four is x
pub record NoneOf (x a b c d : ℕ) : Type 0 where
  pub first : a ≢ x
  pub second : b ≢ x
  pub third : c ≢ x
  pub fourth : d ≢ x

-- ---- Looking up

-- slot s is found, or nothing where there is no such slot
unfoldable pub found_at : Table → ℕ → Option Entry
found_at t s = cond (ltb s slots) (Some (entry_at t s)) None

-- an address is found in its slot; address zero finds nothing
unfoldable pub lookup_of : Table → ℕ → Option Entry
lookup_of t x = cond (eqb x 0) None (found_at t (slot_of x t.addresses))

-- ---- Learning and erasing

-- the table with x, p and h in slot s
unfoldable pub put : Table → ℕ → ℕ → ℕ → ℕ → Table
put t s x p h = table_of (set t.addresses s x) (set t.ports s p) (set t.hops s h)

-- whether the table was full, and the table afterwards
pub record Learned : Type 0 where
  pub full : Bool
  pub table : Table

abbrev pub learned_of : Bool → Table → Learned
learned_of full table = record { full = full; table = table }

-- a known address keeps its slot, a new one takes the lowest empty slot; the length where there is neither
unfoldable pub slot_for : ℕ → List ℕ → ℕ
slot_for x l = cond (ltb (slot_of x l) (length l)) (slot_of x l) (slot_of 0 l)

-- learned in slot s; where there is no such slot the table is full, and stays as it is
unfoldable pub learn_at : Table → ℕ → ℕ → ℕ → ℕ → Learned
learn_at t s x p h = cond (ltb s slots) (learned_of false (put t s x p h)) (learned_of true t)

-- address x is learned with port p and hop count h. Zero is treated like any other: the lowest empty slot gets p and h, which nothing finds
unfoldable pub learn_of : Table → ℕ → ℕ → ℕ → Learned
learn_of t x p h = learn_at t (slot_for x t.addresses) x p h

-- slot s is zeroed; where there is no such slot nothing changes
unfoldable pub erase_at : Table → ℕ → Table
erase_at t s = cond (ltb s slots) (put t s 0 0 0) t

-- an address is erased from its slot
unfoldable pub erase_of : Table → ℕ → Table
erase_of t x = erase_at t (slot_of x t.addresses)

-- ---- Well-formed

-- an empty slot: all zeros
pub record Empty (x p h : ℕ) : Type 0 where
  pub address : x ≡ 0
  pub port : p ≡ 0
  pub hops : h ≡ 0

-- what a slot may hold on a switch of n ports: a source address, a port of the switch and a hop count 1 to 62
pub record MayHold (n x p h : ℕ) : Type 0 where
  pub source : Source x
  pub port : p < n
  pub least : least_hops ≤ h
  pub most : h ≤ most_hops

-- slot i is empty, or holds what it may
abbrev pub Slot : ℕ → Table → ℕ → Type 0
Slot n t i = Empty (address_at t i) (port_at t i) (hops_at t i) ⊎ MayHold n (address_at t i) (port_at t i) (hops_at t i)

-- a table of a switch of n ports: 64 slots, each empty or holding what it may, and no address stands twice
pub record WellFormed (n : ℕ) (t : Table) : Type 0 where
  pub sized : Sized t
  pub slot : (i : ℕ) → i < slots → Slot n t i
  pub once : (i j : ℕ) → i < slots → j < slots → address_at t i ≢ 0 → address_at t i ≡ address_at t j → i ≡ j

-- address x stands in a slot
pub record Holds (t : Table) (x : ℕ) : Type 0 where
  pub nonzero : x ≢ 0
  pub slot : ℕ
  pub within : slot < slots
  pub here : address_at t slot ≡ x

-- ---- The tests

-- what a slot may hold
unfoldable pub may_hold : ℕ → ℕ → ℕ → ℕ → Bool
may_hold n x p h = ltb p n && leb least_hops h && leb h most_hops && is_source x

-- slot i is all zeros, or holds what it may and is the first slot of its address
unfoldable pub slot_fits : ℕ → Table → ℕ → Bool
slot_fits n t i =
    cond (eqb (address_at t i) 0) (eqb (port_at t i) 0 && eqb (hops_at t i) 0)
    (may_hold n (address_at t i) (port_at t i) (hops_at t i) && eqb (slot_of (address_at t i) t.addresses) i)

-- every slot fits
unfoldable pub well_formed : ℕ → Table → Bool
well_formed n t = all_below (slot_fits n t) slots

-- how many marks the code's test has
abbrev pub marks : ℕ
marks = 1024

-- which of them is an address's: any function of the address would do
unfoldable pub mark_of : ℕ → ℕ
mark_of x = bit_xor (bit_xor x (x / 2 ^ 10)) (x / 2 ^ 20) % marks
