-- What the code of a turn has in hand, as the turn that it is.
use Prim.Native.Nat.{ℕ, ◌-◌, ◌≤◌, ◌<◌}
use mathlib.Core.Path.{◌≡◌, refl, sym, ap, ap₂, subst, ◌∙◌}
use mathlib.Core.Logic.{by_cases}
use mathlib.Core.Bool.{Bool, true, false, cond}
use mathlib.Core.List.{List, [], ◌∷◌}
use native.Mathlib.Decide.{dec_lt}
use native.Mathlib.Omega.{arith}
use lib.Dec.{eqb, leb}
use lib.ListN.{length, set, take, length-map, get_or-eq_default}
use lib.Seq.{length-take-le}
use borrow.Author.Tests.{leb-false, eqb-false}
use Rattle.wire.specs.Address.{address_bound}
use Rattle.refusal.specs.Exact.{NoneHolds, Numbered}
use Rattle.refusal.proofs.Laws.{neither, none_holds}
use Rattle.rules.specs.declared.Arrival.{Arrival}
use Rattle.rules.specs.Verdict.{sending_of}
use Rattle.network.specs.declared.Network.{Network}
use Rattle.network.specs.declared.Port.{Port}
use Rattle.network.specs.declared.Host.{Host}
use Rattle.cabling.specs.Cabling.{plug_at, plugs_of}
use Rattle.seat.specs.declared.Seat.{Seat}
use Rattle.seat.specs.Seat.{Seated, arrival_of, from_host, from_link, host_header, step_of}
use Rattle.flight.specs.declared.Copy.{Copy}
use Rattle.flight.specs.declared.Flight.{Flight}
use Rattle.flight.specs.Flight as flight
use Rattle.flight.specs.Flight.{Cut, copies_in, most, no_copy, spared, spared_words, unpack, without}
use Rattle.flight.proofs.Laws.{copies_length, copy_at_is, spared_words_lem}
use Rattle.event.specs.declared.Event.{Event}
use Rattle.event.specs.declared.Event.TheVariants.{Present, Take, Link}
use Rattle.event.specs.declared.Presented.{Presented}
use Rattle.event.specs.declared.Setting.{Setting}
use Rattle.event.specs.Event.{address_of}
use Rattle.turn.proofs.Writing.{laid_same}
use Rattle.turn.specs.declared.Done.{Done}
use Rattle.turn.specs.declared.Done.TheVariants.{Stepped, Linked}
use Rattle.turn.specs.declared.sending.Sent.{Sent}
use Rattle.turn.specs.Send.{Outbox, nothing_sent, outbox, send_out}
use Rattle.turn.specs.Turn.{CanTake, Kept, Spares, Turn, Turns, copy_arrival, copy_at, host_arrival, host_of, is_up, outbox_of, own_causes, own_refusal, plug_of, port_to, presents, sets, step_report, steps, takes, turn_of}

-- ---- The list

-- the parts that are lent
pub kept : (f : Flight) → Kept f.words f.flying
kept f = record { whole = f.whole; few = f.few }

kept_long : {words : List (List ℕ)} {flying : ℕ} → Kept words flying → length (copies_in flying words) ≡ flying
kept_long {words} {flying} kept = copies_length flying words (omega (arith, kept.whole, kept.few))

-- a turn by another name
pub turns_as : {t t' : Turn} {up : List Bool} {s : Seat} {words : List (List ℕ)} {n : ℕ} {a : Done} → t ≡ t' → Turns t up s words n a → Turns t' up s words n a
turns_as {up = up} {s = s} {words = words} {n = n} {a = a} e v = subst (λ t. Turns t up s words n a) e v

-- ---- A step

-- the seat behind the step, and what it sent
pub head_steps : (n : Network) (up : List Bool) (k : ℕ) (s : Seat) (a : Arrival) {w : Seated} {sent : Sent} {plugs : List ℕ} {after : List (List ℕ)} {m : ℕ} (flying : List Copy)
    → w ≡ step_of s a → outbox (copies_in m after) sent ≡ send_out (plug_at plugs k) a (sending_of w.report.verdict) (nothing_sent flying)
    → Kept after m → plugs ≡ plugs_of n
    → Turns (steps n up k s a flying) up w.seat after m (Stepped (step_report k a w (outbox (copies_in m after) sent)))
unfolding steps outbox_of plug_of
head_steps n up k s a {w} {sent} {plugs} {after} {m} flying stepped went kept same =
    let out : outbox (copies_in m after) sent ≡ outbox_of n k (step_of s a) a flying
    = went ∙ ap₂ (λ ps (u : Seated). send_out (plug_at ps k) a (sending_of u.report.verdict) (nothing_sent flying)) same stepped in
    record {
      up = refl;
      seat = ap (λ (u : Seated). u.seat) stepped;
      copies = ap (λ (x : Outbox). x.flying) out;
      done = ap₂ (λ (u : Seated) (x : Outbox). Stepped (step_report k a u x)) stepped out;
      whole = kept.whole;
      few = kept.few;
    }

-- ---- A host presents

module _ (s : Seat) (h : Host) (to : ℕ) {a : Arrival} (arrives : a ≡ arrival_of h.port.number h.address to (host_header s.switch.nonce s.switch.table h.address)) where
  pub presented_is : (n : Network) (up : List Bool) (flying : List Copy) → steps n up h.port.switch s a flying ≡ presents n up s flying h to
  unfolding presents host_arrival from_host
  presented_is n up flying = ap (λ b. steps n up h.port.switch s b flying) arrives

-- ---- A copy is taken

-- the copy at a place is the one that the words there carry
pub copy_there : {words : List (List ℕ)} {flying place : ℕ} {c : Copy} → Kept words flying → place < flying → c ≡ flight.copy_at words place → c ≡ copy_at (copies_in flying words) place
copy_there {words} {flying} {place} kept less e = e ∙ sym (copy_at_is flying place words less)

-- also of the whole array
pub copy_anywhere : (words : List (List ℕ)) (place : ℕ) {c : Copy} → c ≡ flight.copy_at words place → c ≡ copy_at (copies_in (length words) words) place
unfolding copies_in unpack
copy_anywhere words place e =
    by_cases (dec_lt place (length words)) (λ less. e ∙ sym (copy_at_is (length words) place words less))
    (λ out.
    e ∙ ap unpack (get_or-eq_default words [] (omega arith))
    ∙ sym (get_or-eq_default (copies_in (length words) words) no_copy (omega (arith, copies_length (length words) words (omega arith)))))

-- and says the switch whose turn it is
pub port_switch : (n : Network) {c : Copy} {p : Port} → p ≡ port_to n c → {d : Copy} → c ≡ d → p.switch ≡ (port_to n d).switch
port_switch n q e = ap (λ (p : Port). p.switch) q ∙ ap (λ c. (port_to n c).switch) e

pub place_there : {n : Network} {words : List (List ℕ)} {flying place : ℕ} → Kept words flying → CanTake n (copies_in flying words) place → place < flying
place_there kept can = omega (arith, can.there, kept_long kept)

-- what has been read of it
pub record Read (n : Network) (c : Copy) (place : ℕ) (flying : List Copy) (p : Port) : Type 0 where
  pub copy : c ≡ copy_at flying place
  pub port : p ≡ port_to n c

pub read_there : {n : Network} {words : List (List ℕ)} {flying place : ℕ} {c : Copy} {p : Port} → Kept words flying → CanTake n (copies_in flying words) place
    → c ≡ flight.copy_at words place → p ≡ port_to n c → Read n c place (copies_in flying words) p
read_there kept can e q = record { copy = copy_there kept (place_there kept can) e; port = q }

module _ {n : Network} {c : Copy} {place : ℕ} {flying : List Copy} {p : Port} (read : Read n c place flying p) where
  pub read_hops : CanTake n flying place → c.header.hc < 64
  read_hops can = omega (arith, can.hops, ap (λ (d : Copy). d.header.hc) read.copy)

  there : p ≡ port_to n (copy_at flying place)
  there = read.port ∙ ap (port_to n) read.copy

  module _ {a : Arrival} (arrives : a ≡ from_link p.number c.source c.destination c.header) where
    pub taken_port : CanTake n flying place → a.port < 16
    unfolding from_link
    taken_port can = omega (arith, can.port, ap (λ (q : Port). q.number) there, ap (λ (b : Arrival). b.port) arrives)

    pub taken_is : (up : List Bool) (s : Seat) {left : List Copy} → left ≡ without place flying → steps n up p.switch s a left ≡ takes n up s flying place
    unfolding takes copy_arrival
    taken_is up s {left} e =
        ap (λ (q : Port). steps n up q.switch s a left) there
        ∙ ap₂ (steps n up (port_to n (copy_at flying place)).switch s) (arrives ∙ ap₂ (λ (q : Port) (d : Copy). from_link q.number d.source d.destination d.header) there read.copy) e

-- ---- A link is set

-- no more are left than there were
pub fewer : (l : ℕ) (xs : List Copy) → length (spared l xs) ≤ length xs
unfolding spared
fewer l [] = omega arith
fewer l (x ∷ xs) = by_link (eqb x.link l) (fewer l xs)
  where
    by_link : (b : Bool) → length (spared l xs) ≤ length xs → length (cond b (spared l xs) (x ∷ spared l xs)) ≤ length (x ∷ xs)
    by_link true h = omega arith
    by_link false h = omega arith

pub spared_up : {state : Bool} {words : List (List ℕ)} {flying link : ℕ} → state ≡ true → Kept words flying → Spares state link words flying words flying
spared_up {words = words} {flying = flying} e kept =
    let fits : flying ≤ length words = omega (arith, kept.whole, kept.few) in
    rw e (record { copies = refl; words = sym (laid_same flying words fits); count = sym (length-take-le flying words fits); whole = kept.whole; few = omega arith })

pub spared_down : {state : Bool} {words after : List (List ℕ)} {flying link left : ℕ} → state ≡ false → Kept words flying → Cut link flying words after left → length after ≡ most
    → Spares state link words flying after left
unfolding copies_in
spared_down {words = words} {flying = flying} {link = link} e kept c long =
    rw e
    (record {
      copies = c.copies;
      words = c.words;
      count = c.count ∙ ap length (sym (spared_words_lem link (take flying words))) ∙ length-map (spared_words link (take flying words)) unpack;
      whole = long;
      few = omega (arith, c.count, fewer link (copies_in flying words), kept_long kept);
    })

pub set_is : {state : Bool} {words after : List (List ℕ)} {flying link left : ℕ} (up : List Bool) (s : Seat) → Kept words flying → Spares state link words flying after left
    → Turns (sets up s (copies_in flying words) link state) (set up link state) s after left (Linked (flying - left))
unfolding sets
set_is {state} {words} {after} {flying} {link} {left} up s kept spares =
    let long : length (copies_in flying words) ≡ flying = kept_long kept in
    let short : length (copies_in left after) ≡ left = copies_length left after (omega (arith, spares.whole, spares.few, kept.few)) in
    record {
      up = refl;
      seat = refl;
      copies = spares.copies;
      done = ap₂ (λ x y. Linked (x - y)) (sym long) (sym short ∙ ap length spares.copies);
      whole = spares.whole;
      few = omega (arith, spares.few, kept.few);
    }

-- ---- Own refusals

module _ (n : Network) (flying : ℕ) where
  numbered : (e : Event) → Numbered (own_causes n flying e)
  numbered (Present p) = ((λ z. omega arith), ((λ z. omega arith), tt))
  numbered (Take place) = ((λ z. omega arith), tt)
  numbered (Link s) = ((λ z. omega arith), tt)

  -- an accepted event has none of its causes
  none : (e : Event) → own_refusal n flying e ≡ 0 → NoneHolds (own_causes n flying e)
  unfolding own_refusal
  none e = none_holds (own_causes n flying e) (numbered e)

  -- its host is there, and it isn't to address zero
  pub host_accepted : (p : Presented) → own_refusal n flying (Present p) ≡ 0 → p.host < n.nhosts
  host_accepted p e = leb-false n.nhosts p.host (none (Present p) e).0

  pub to_accepted : (p : Presented) → own_refusal n flying (Present p) ≡ 0 → (1 ≤ address_of p.to) × (address_of p.to < address_bound)
  to_accepted p e =
      let to = address_of p.to in
      let none = neither (eqb to 0) (leb address_bound to) (none (Present p) e).1.0 in
      let some = eqb-false to 0 none.0 in
      (omega arith, leb-false address_bound to none.1)

  -- its copy is there
  pub place_accepted : (place : ℕ) → own_refusal n flying (Take place) ≡ 0 → place < flying
  place_accepted place e = leb-false flying place (none (Take place) e).0

  -- its link is there, and its state is 0 or 1
  pub link_accepted : (s : Setting) → own_refusal n flying (Link s) ≡ 0 → s.link < n.nlinks
  link_accepted s e = leb-false n.nlinks s.link (neither (leb n.nlinks s.link) (leb 2 s.state) (none (Link s) e).0).0

-- ---- By the event

module _ (n : Network) (up : List Bool) (s : Seat) (flying : List Copy) {e : Event} where
  pub present_turn : {p : Presented} {h : Host} {to : ℕ} → e ≡ Present p → h ≡ host_of n p.host → to ≡ address_of p.to → presents n up s flying h to ≡ turn_of n up s flying e
  unfolding turn_of
  present_turn q t z = rw q (ap₂ (presents n up s flying) t z)

  pub take_turn : {place : ℕ} → e ≡ Take place → takes n up s flying place ≡ turn_of n up s flying e
  unfolding turn_of
  take_turn q = rw q

  pub link_turn : {l : Setting} → e ≡ Link l → sets up s flying l.link (is_up l.state) ≡ turn_of n up s flying e
  unfolding turn_of
  link_turn q = rw q
