-- Document 01, "One step": rules 1 to 11 in their order, each under its own number. t is the table and f the filter as a rule finds them.
use Rattle.std.specs.Prelude.{ℕ, ◌+◌, ◌%◌, ◌^◌, ◌<◌, Bool, true, false, cond, not, ◌&&◌, ◌||◌, List, Option, Some, None, eqb, ltb}
use Rattle.table.specs.declared.Table.{Table}
use Rattle.table.specs.declared.Entry.{Entry}
use Rattle.table.specs.Table.{Learned, lookup_of, learn_of, learned_of, erase_of}
use Rattle.filter.specs.Filter.{holds, overwrites, recorded}
use Rattle.filter.specs.Triple.{triple}
use Rattle.frame.specs.declared.Header.{Header}
use Rattle.frame.specs.Header.{bit}
use Rattle.frame.specs.Frame.{source_of, destination_of, header_in}
use Rattle.rules.specs.Mask.{names, only, all_but}
use Rattle.rules.specs.declared.Setup.{Setup}
use Rattle.rules.specs.declared.Arrival.{Arrival}
use Rattle.rules.specs.declared.Send.{Send}
use Rattle.rules.specs.declared.Outcome.{Outcome}
use Rattle.rules.specs.declared.Report.{Report}
use Rattle.rules.specs.declared.Verdict.{Verdict}
use Rattle.rules.specs.declared.Verdict.TheVariants.{X, D, G, E, F, N, B, H, U}

-- ---- what the rules speak of

-- no entry was found
abbrev pub is_absent : Option Entry → Bool
is_absent (Some e) = false
is_absent None = true

-- flood: all live ports but the arrival port
abbrev pub flood : Setup → Arrival → ℕ
flood s a = all_but a.port s.live

-- the triple that the filter knows a frame by
abbrev pub triple_of : Arrival → Header → List ℕ
triple_of a h = triple a.source h.nonce (bit h.l)

-- a header with its flags set anew
abbrev pub flagged : Bool → Bool → Header → Header
flagged l f h = record { l = l; f = f; hc = h.hc; nonce = h.nonce }

-- copies of one header on a mask's ports
abbrev pub sends : ℕ → Header → Send
sends mask header = record { mask = mask; header = header }

-- table, filter and verdict behind a rule, and whether its record overwrote
pub record After : Type 0 where
  pub table : Table
  pub filter : List ℕ
  pub outcome : Outcome

-- a verdict, and whether its record overwrote
abbrev pub outcome : Verdict → Bool → Outcome
outcome v overwrote = record { verdict = v; overwrote = overwrote }

-- table and filter as they are left, with an outcome
abbrev pub left : Table → List ℕ → Outcome → After
left t f o = record { table = t; filter = f; outcome = o }

-- the same, from the outcome's parts
abbrev pub after : Table → List ℕ → Verdict → Bool → After
after t f v overwrote = left t f (outcome v overwrote)

-- a verdict that records nothing
abbrev pub plainly : Table → List ℕ → Verdict → After
plainly t f v = after t f v false

-- ---- 1. Host port: HC 1, L set, the next nonce, F set exactly if the source has no entry. Switch port: HC is the received one plus 1.

-- the port's role decides
abbrev pub on_host_port : Setup → ℕ → Bool
on_host_port s port = names s.host port

-- a frame as it arrives, with the header that it has from now on
abbrev pub arrival : ℕ → List ℕ → Header → Arrival
arrival port frame h = record { port = port; source = source_of frame; destination = destination_of frame; header = h }

-- on a host port
abbrev pub host_header : ℕ → Table → List ℕ → Header
host_header nonce t frame = record { l = true; f = is_absent (lookup_of t (source_of frame)); hc = 1; nonce = nonce }

-- on a switch port
abbrev pub hop_header : Header → Header
hop_header h = record { l = h.l; f = h.f; hc = h.hc + 1; nonce = h.nonce }

-- the arrival that the other rules see
unfoldable pub rule1 : Setup → ℕ → Table → ℕ → List ℕ → Arrival
rule1 s nonce t port frame = arrival port frame (cond (on_host_port s port) (host_header nonce t frame) (hop_header (header_in frame)))

-- the nonce advances on a host port, 2^24 - 1 to 0
unfoldable pub nonce_on : Setup → ℕ → ℕ → ℕ
nonce_on s nonce port = cond (on_host_port s port) ((nonce + 1) % 2 ^ 24) nonce

-- ---- 2. HC above the limit: if F is clear, erase the destination. X.

-- the hop count is above the limit
abbrev pub too_old : Setup → Arrival → Bool
too_old s a = ltb s.limit a.header.hc

unfoldable pub rule2 : Table → List ℕ → Arrival → After
rule2 t f a = plainly (cond a.header.f t (erase_of t a.destination)) f X

-- ---- 3. F set: ask the filter if it is a duplicate, then record the triple. F clear: not a duplicate, nothing recorded.

-- what the filter answers
unfoldable pub is_duplicate : Setup → List ℕ → Arrival → Bool
is_duplicate s f a = a.header.f && holds f s.salt (triple_of a a.header)

-- the filter afterwards
unfoldable pub rule3 : Setup → List ℕ → Arrival → List ℕ
rule3 s f a = cond a.header.f (recorded f s.salt (triple_of a a.header)) f

-- whether a different triple was replaced
unfoldable pub overwrote3 : Setup → List ℕ → Arrival → Bool
overwrote3 s f a = a.header.f && overwrites f s.salt (triple_of a a.header)

-- ---- 4. Read the source's entry now; rules 5 and 6 use this reading.

abbrev pub reading : Table → Arrival → Option Entry
reading t a = lookup_of t a.source

-- ---- 5. Not a duplicate, L clear, entry present with HC 1: erase the destination.

-- an entry with HC 1
abbrev pub at_one : Option Entry → Bool
at_one (Some e) = eqb e.hops 1
at_one None = false

-- whether rule 5 erases
unfoldable pub erases : Arrival → Bool → Option Entry → Bool
erases a dup found = not dup && not a.header.l && at_one found

unfoldable pub rule5 : Table → Arrival → Bool → Option Entry → Table
rule5 t a dup found = cond (erases a dup found) (erase_of t a.destination) t

-- ---- 6. No entry, or HC less than the entry's, or L set and not a duplicate: learn source, arrival port, HC.

-- no entry, or HC less than the entry's
abbrev pub is_nearer : ℕ → Option Entry → Bool
is_nearer hc (Some e) = ltb hc e.hops
is_nearer hc None = true

-- whether rule 6 learns
unfoldable pub learns : Arrival → Bool → Option Entry → Bool
learns a dup found = is_nearer a.header.hc found || (a.header.l && not dup)

unfoldable pub rule6 : Table → Arrival → Bool → Option Entry → Learned
rule6 t a dup found = cond (learns a dup found) (learn_of t a.source a.port a.header.hc) (learned_of false t)

-- rules 4 to 6
unfoldable pub learning : Table → Arrival → Bool → Learned
learning t a dup = rule6 (rule5 t a dup (reading t a)) a dup (reading t a)

-- ---- 7. Duplicate: D.

abbrev pub rule7 : Table → List ℕ → After
rule7 t f = plainly t f D

-- ---- 8. F set: flood. F.

abbrev pub rule8 : Setup → Table → List ℕ → Arrival → After
rule8 s t f a = plainly t f (F (sends (flood s a) a.header))

-- ---- 9. If no entry for the destination stands, or its port is down ..

-- an entry counts where its port is up
abbrev pub if_up : ℕ → Option Entry → Option Entry
if_up live (Some e) = cond (names live e.port) (Some e) None
if_up live None = None

-- an entry that stands names one of sixteen ports
abbrev pub PortWithin : Option Entry → Type 0
PortWithin (Some e) = e.port < 16
PortWithin None = Unit {0}

-- the entry that stands for an address
unfoldable pub standing : Setup → Table → ℕ → Option Entry
standing s t x = if_up s.live (lookup_of t x)

-- .. with L clear, drop, G. With HC 1, set F, record the triple, flood, N. Otherwise set F, clear L, record, flood, and send on the arrival port also, B.
abbrev pub begun : Setup → Table → List ℕ → Arrival → Header → Verdict → After
begun s t f a h v = after t (recorded f s.salt (triple_of a h)) v (overwrites f s.salt (triple_of a h))

unfoldable pub rule9 : Setup → Table → List ℕ → Arrival → After
rule9 s t f a =
    cond a.header.l
    (cond (eqb a.header.hc 1)
    (begun s t f a (flagged true true a.header) (N (sends (flood s a) (flagged true true a.header))))
    (begun s t f a (flagged false true a.header) (B (sends s.live (flagged false true a.header)))))
    (plainly t f G)

-- ---- 10. The entry's port is the arrival port: with L set, clear it and send there, H. With L clear, erase the destination, E.

unfoldable pub rule10 : Table → List ℕ → Arrival → After
rule10 t f a =
    cond a.header.l (plainly t f (H (sends (only a.port) (flagged false a.header.f a.header))))
    (plainly (erase_of t a.destination) f E)

-- ---- 11. Otherwise send on the entry's port. U.

unfoldable pub rule11 : Table → List ℕ → Arrival → ℕ → After
rule11 t f a port = plainly t f (U (sends (only port) a.header))

-- rules 9 to 11, by the destination's entry
abbrev pub onward_by : Setup → Table → List ℕ → Arrival → Option Entry → After
onward_by s t f a None = rule9 s t f a
onward_by s t f a (Some e) = cond (eqb e.port a.port) (rule10 t f a) (rule11 t f a e.port)

unfoldable pub onward : Setup → Table → List ℕ → Arrival → After
onward s t f a = onward_by s t f a (standing s t a.destination)

-- rules 7 to 11
unfoldable pub forwarding : Setup → Table → List ℕ → Arrival → Bool → After
forwarding s t f a dup = cond dup (rule7 t f) (cond a.header.f (rule8 s t f a) (onward s t f a))

-- ---- Rules 2 to 11 one behind the other: table, filter and report

pub record Ruled : Type 0 where
  pub table : Table
  pub filter : List ℕ
  pub report : Report

-- what was learned, recorded by rule 3, and decided
abbrev pub report_of : Bool → Bool → Outcome → Report
report_of full overwrote o = record { verdict = o.verdict; full = full; overwrote = overwrote || o.overwrote }

abbrev pub ruled_as : Table → List ℕ → Report → Ruled
ruled_as t f r = record { table = t; filter = f; report = r }

abbrev pub reported : Bool → Bool → After → Ruled
reported full overwrote w = ruled_as w.table w.filter (report_of full overwrote w.outcome)

-- rules 7 to 11, behind what was learned
abbrev pub from_learning : Setup → List ℕ → Arrival → Bool → Bool → Learned → Ruled
from_learning s f a dup overwrote k = reported k.full overwrote (forwarding s k.table f a dup)

unfoldable pub rules : Setup → Table → List ℕ → Arrival → Ruled
rules s t f a =
    cond (too_old s a) (reported false false (rule2 t f a))
    (from_learning s (rule3 s f a) a (is_duplicate s f a) (overwrote3 s f a) (learning t a (is_duplicate s f a)))
