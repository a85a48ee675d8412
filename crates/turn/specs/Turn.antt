-- Document 01, "The bench": the three kinds of events, their own refusals, and the turn that a head takes at an accepted one.
-- `own_refusal`, `head_of`, `turn_of`, `told` and the parts of an answer that a line prints (`refusal_of`, `verdict_of`, `received_by`) are the interface; the others serve them, or are the words of laws and of the code.
use Rattle.std.specs.Prelude.{ℕ, ◌+◌, ◌-◌, ◌^◌, ◌<◌, ◌≤◌, ◌≡◌, Bool, true, false, ◌||◌, Result, Ok, Err, List, [], ◌∷◌, eqb, leb, get_or, set, take, length}
use Rattle.std.specs.Int.Count.{ones}
use Rattle.wire.specs.Address.{address_bound}
use Rattle.refusal.specs.declared.Refusal.{Refusal}
use Rattle.refusal.specs.Number as refusal
use Rattle.refusal.specs.Number.{refused_as}
use Rattle.refusal.specs.Refusal.{Cause, Told, first, when}
use Rattle.frame.specs.Header.{bit}
use Rattle.network.specs.declared.Network.{Network}
use Rattle.network.specs.declared.Port.{Port}
use Rattle.network.specs.declared.Host.{Host}
use Rattle.network.specs.Network.{most_links}
use Rattle.rules.specs.declared.Arrival.{Arrival}
use Rattle.rules.specs.Verdict.{letter_of, sending_of, verdict_values}
use Rattle.cabling.specs.declared.End.{End}
use Rattle.cabling.specs.declared.Plug.{Plug}
use Rattle.cabling.specs.Cabling.{first_of, host_at, most_ports, plug_at, plugs_of, port_of}
use Rattle.seat.specs.declared.Seat.{Seat}
use Rattle.seat.specs.Seat.{Seated, from_host, from_link, step_of}
use Rattle.flight.specs.declared.Copy.{Copy}
use Rattle.flight.specs.Flight.{copies_in, laid, most, no_copy, spared, spared_words, without}
use Rattle.event.specs.declared.Event.{Event}
use Rattle.event.specs.declared.Event.TheVariants.{Present, Take, Link}
use Rattle.event.specs.declared.Setting.{Setting}
use Rattle.event.specs.Event.{address_of}
use Rattle.turn.specs.Send.{Outbox, Written, nothing_sent, send_out}
use Rattle.turn.specs.declared.Report.{Report}
use Rattle.turn.specs.declared.Done.{Done}
use Rattle.turn.specs.declared.Done.TheVariants.{Stepped, Linked}

-- ---- An event's own refusals

-- 30: no such host
abbrev pub no_host : ℕ → ℕ → Bool
no_host hosts host = leb hosts host

-- 31: destination zero; or of more than six bytes, which no address has
abbrev pub to_zero : ℕ → Bool
to_zero to = eqb to 0 || leb address_bound to

-- 32: no such copy
abbrev pub no_copy_at : ℕ → ℕ → Bool
no_copy_at flying place = leb flying place

-- 33: no such link, or its state not 0 or 1
abbrev pub no_link : ℕ → Setting → Bool
no_link links s = leb links s.link || leb 2 s.state

-- its own causes by number
abbrev pub own_causes : Network → ℕ → Event → List Cause
own_causes n flying (Present e) = when 30 (no_host n.nhosts e.host) ∷ when 31 (to_zero (address_of e.to)) ∷ []
own_causes n flying (Take place) = when 32 (no_copy_at flying place) ∷ []
own_causes n flying (Link e) = when 33 (no_link n.nlinks e) ∷ []

-- the first of them decides; 0 for none
unfoldable pub own_refusal : Network → ℕ → Event → ℕ
own_refusal n flying e = first (own_causes n flying e)

-- ---- The answer's number and values

-- which switch stepped, its verdict with mask and header, the arrival port, the frame's addresses, placed, lost, the hosts that received, overwritten
abbrev pub report_values : Report → List ℕ
report_values r = r.switch ∷ r.port ∷ r.source ∷ r.destination ∷ r.placed ∷ r.lost ∷ r.received ∷ bit r.overwrote ∷ verdict_values r.verdict

-- a refusal, or what was done
abbrev pub Answer : Type 0
Answer = Result Done Refusal

-- a step's values are its report, a link's setting's the letter K and how many copies were cut
abbrev pub done_values : Done → List ℕ
done_values (Stepped r) = report_values r
done_values (Linked cut) = 0x4B ∷ cut ∷ []

-- number and values of each case
abbrev pub told : Answer → Told
told a = refusal.told done_values a

-- a refusal has its number alone
abbrev pub answer_values : Answer → List ℕ
answer_values a = (told a).values

-- its refusal number, 0 for none
abbrev pub refusal_of : Answer → ℕ
refusal_of a = refused_as a

-- its verdict's letter: R if refused, K for a link
abbrev pub verdict_of : Answer → ℕ
verdict_of (Err r) = 0x52
verdict_of (Ok (Stepped r)) = letter_of r.verdict
verdict_of (Ok (Linked cut)) = 0x4B

-- the hosts that received
abbrev pub received_by : Answer → ℕ
received_by (Err r) = 0
received_by (Ok (Stepped r)) = r.received
received_by (Ok (Linked cut)) = 0

-- ---- What an accepted event does: one head takes a turn

-- the host with a number
unfoldable pub host_of : Network → ℕ → Host
host_of n i = host_at n i

-- what is plugged into a port of a switch
unfoldable pub plug_of : Network → ℕ → ℕ → Plug
plug_of n k p = plug_at (plugs_of n) k p

-- the links' states, the head and the copies in flight behind a turn, and what was done
pub record Turn : Type 0 where
  pub up : List Bool
  pub seat : Seat
  pub flying : List Copy
  pub done : Done

-- ---- A head steps on an arrival

-- the report of head k's step on an arrival, with what became of its copies
abbrev pub step_report : ℕ → Arrival → Seated → Outbox → Report
step_report k a w x =
    record {
      switch = k;
      port = a.port;
      source = a.source;
      destination = a.destination;
      verdict = w.report.verdict;
      placed = x.placed;
      lost = x.lost;
      received = x.received;
      overwrote = w.report.overwrote;
    }

-- the links stay as they are
abbrev pub step_turn : List Bool → ℕ → Arrival → Seated → Outbox → Turn
step_turn up k a w x = record { up = up; seat = w.seat; flying = x.flying; done = Stepped (step_report k a w x) }

-- what a verdict sends goes out behind the copies in flight
unfoldable pub outbox_of : Network → ℕ → Seated → Arrival → List Copy → Outbox
outbox_of n k w a flying = send_out (plug_of n k) a (sending_of w.report.verdict) (nothing_sent flying)

-- head k, which is s, steps
unfoldable pub steps : Network → List Bool → ℕ → Seat → Arrival → List Copy → Turn
steps n up k s a flying = step_turn up k a (step_of s a) (outbox_of n k (step_of s a) a flying)

-- ---- Kind 4: the host presents a frame and its switch steps at once

-- rule 1 makes it arrive on the host's port
unfoldable pub host_arrival : Seat → Host → ℕ → Arrival
host_arrival s h to = from_host s h.port.number h.address to

-- the step of the host's switch
unfoldable pub presents : Network → List Bool → Seat → List Copy → Host → ℕ → Turn
presents n up s flying h to = steps n up h.port.switch s (host_arrival s h to) flying

-- ---- Kind 5: the copy at a place is taken out, those behind move up one, its switch steps

-- the copy at a place
abbrev pub copy_at : List Copy → ℕ → Copy
copy_at flying place = get_or flying place no_copy

-- the end that receives a copy
abbrev pub end_of : Copy → End
end_of c = record { link = c.link; second = c.second }

-- the port at that end
unfoldable pub port_to : Network → Copy → Port
port_to n c = port_of n (end_of c)

-- rule 1 makes it arrive there
unfoldable pub copy_arrival : Network → Copy → Arrival
copy_arrival n c = from_link (port_to n c).number c.source c.destination c.header

-- the step of that switch, with the others in flight
unfoldable pub takes : Network → List Bool → Seat → List Copy → ℕ → Turn
takes n up s flying place =
    steps n up (port_to n (copy_at flying place)).switch s (copy_arrival n (copy_at flying place)) (without place flying)

-- ---- Kind 6: a link is set; set down it loses the copies on it

-- the state that a number stands for
abbrev pub is_up : ℕ → Bool
is_up state = eqb state 1

-- what a link's state spares
abbrev pub spared_by : Bool → ℕ → List Copy → List Copy
spared_by true l flying = flying
spared_by false l flying = spared l flying

-- no head steps; those that are not spared are cut
unfoldable pub sets : List Bool → Seat → List Copy → ℕ → Bool → Turn
sets up s flying l state =
    record { up = set up l state; seat = s; flying = spared_by state l flying; done = Linked (length flying - length (spared_by state l flying)) }

-- ---- The event

-- the head whose turn it is; a link's is the one at its first end, which then only follows
unfoldable pub head_of : Network → List Copy → Event → ℕ
head_of n flying (Present e) = (host_of n e.host).port.switch
head_of n flying (Take place) = (port_to n (copy_at flying place)).switch
head_of n flying (Link e) = (port_of n (first_of e.link)).switch

-- the turn that it takes
unfoldable pub turn_of : Network → List Bool → Seat → List Copy → Event → Turn
turn_of n up s flying (Present e) = presents n up s flying (host_of n e.host) (address_of e.to)
turn_of n up s flying (Take place) = takes n up s flying place
turn_of n up s flying (Link e) = sets up s flying e.link (is_up e.state)

-- ---- What comes and goes

-- the copies that join the list
abbrev pub come : Answer → ℕ
come (Err r) = 0
come (Ok (Stepped r)) = r.placed
come (Ok (Linked cut)) = 0

-- those that leave it: the one taken, or those cut
abbrev pub gone : Event → Answer → ℕ
gone (Present e) a = 0
gone (Take place) a = 1
gone (Link e) (Err r) = 0
gone (Link e) (Ok (Stepped r)) = 0
gone (Link e) (Ok (Linked cut)) = cut

-- a step's report is small: one copy and one host for each port at most, and hosts by 32 bits
pub record Small (r : Report) : Type 0 where
  pub copies : r.placed + r.lost ≤ most_ports
  pub hosts : ones r.received ≤ most_ports
  pub bits : r.received < 2 ^ 32

-- an accepted event is answered by a step's report, or by how many copies were cut
abbrev pub Answers : Event → Answer → Type 0
Answers (Present e) a = (r : Report) × (a ≡ Ok (Stepped r))
Answers (Take place) a = (r : Report) × (a ≡ Ok (Stepped r))
Answers (Link e) a = (cut : ℕ) × (a ≡ Ok (Linked cut))

-- ---- Words of the code

-- what the code has in hand behind a turn: so many of the array's copies are in flight
pub record Turns (t : Turn) (u : List Bool) (s : Seat) (words : List (List ℕ)) (n : ℕ) (d : Done) : Type 0 where
  pub up : u ≡ t.up
  pub seat : s ≡ t.seat
  pub copies : copies_in n words ≡ t.flying
  pub done : d ≡ t.done
  pub whole : length words ≡ most
  pub few : n ≤ most

-- a copy can be taken: it is there, its port is among sixteen, its hop count has room for one more
pub record CanTake (n : Network) (flying : List Copy) (place : ℕ) : Type 0 where
  pub there : place < length flying
  pub port : (port_to n (copy_at flying place)).number < 16
  pub hops : (copy_at flying place).header.hc ≤ 63

-- the words that a link's state spares
abbrev pub spared_words_by : Bool → ℕ → List (List ℕ) → List (List ℕ)
spared_words_by true l words = words
spared_words_by false l words = spared_words l words

-- what a link's state spares is left in the array
pub record Spares (state : Bool) (l : ℕ) (before : List (List ℕ)) (flying : ℕ) (after : List (List ℕ)) (left : ℕ) : Type 0 where
  pub copies : copies_in left after ≡ spared_by state l (copies_in flying before)
  pub words : after ≡ laid (spared_words_by state l (take flying before)) before
  pub count : left ≡ length (spared_words_by state l (take flying before))
  pub whole : length after ≡ most
  pub few : left ≤ flying

-- these words lie in front, and those of the new copies behind them; the others hold what they held
abbrev pub Laid : List (List ℕ) → List (List ℕ) → ℕ → List (List ℕ) → Type 0
Laid front before n after = Written (length front) (laid front before) n after

-- the words of the copies that an event leaves in flight
unfoldable pub staying : Event → List (List ℕ) → List (List ℕ)
staying (Present e) words = words
staying (Take place) words = without place words
staying (Link e) words = spared_words_by (is_up e.state) e.link words

-- what a turn asks of its event: a port among sixteen, a copy or a link that there is
abbrev pub CanTurn : Network → List Copy → Event → Type 0
CanTurn n flying (Present e) = (host_of n e.host).port.number < 16
CanTurn n flying (Take place) = CanTake n flying place
CanTurn n flying (Link e) = e.link < most_links

-- the array is whole, and the list is within it
pub record Kept (words : List (List ℕ)) (flying : ℕ) : Type 0 where
  pub whole : length words ≡ most
  pub few : flying ≤ most
