-- One step on the bench: what it keeps, and how large its report is.
use Prim.Native.Nat.{ℕ, zero, suc, ◌+◌, ◌^◌, ◌≤◌, ◌<◌}
use mathlib.Core.Path.{◌≡◌, refl, sym, ap, subst, ◌∙◌}
use mathlib.Core.Logic.{◌≢◌, ⊎_elim, by_cases}
use mathlib.Core.Bool.{Bool, true, false, cond}
use mathlib.Core.List.Memᴰ
use mathlib.Core.List.{List, [], ◌∷◌, Memᴰ}
use native.Mathlib.Decide.{ℕ_discrete, dec_lt}
use native.Mathlib.Nat.{le_of_suc-le-suc}
use native.Mathlib.Omega.{arith}
use lib.Dec.{eqb}
use lib.ListN.{length, get_or, set, take, drop, length-append, length-take, length-drop, take-append-drop}
use lib.Seq.{get_or-set_same, get_or-set_other, set_out}
use borrow.Author.Tests.{eqb-false, ne_eqb}
use Rattle.std.specs.Prelude.{Some}
use Rattle.wire.specs.Address.{address_bound}
use Rattle.rules.specs.declared.Arrival.{Arrival}
use Rattle.rules.specs.declared.Send.{Send}
use Rattle.rules.specs.Mask.{names}
use Rattle.rules.specs.Words.{Arrives}
use Rattle.rules.specs.Verdict.{sending_of}
use Rattle.network.specs.declared.Network.{Network}
use Rattle.network.specs.Checks.{network_fault}
use Rattle.cabling.specs.Cabling.{plugs_of, setup_of}
use Rattle.cabling.proofs.Laws.{link_there, link_up}
use Rattle.seat.specs.declared.Seat.{Seat}
use Rattle.seat.specs.Seat.{Seated, step_of}
use Rattle.seat.specs.Words.{Formed}
use Rattle.seat.proofs.Laws.{may_send, step_formed}
use Rattle.flight.specs.declared.Copy.{Copy}
use Rattle.flight.specs.Flight.{All, most, no_copy, spared, without}
use Rattle.turn.specs.Send.{Adds, new_copies, nothing_sent, room_in}
use Rattle.turn.specs.Turn.{Small, copy_at, outbox_of, plug_of, spared_by, step_report}
use Rattle.turn.specs.Fits.{CopyFits, SeatFits}
use Rattle.turn.proofs.LawsOfSending.{NewFor, adds_out, below_out, new_few, new_for, ones_out}
use Rattle.turn.proofs.Outboxes.{numbered}

-- ---- Lists

-- what stands at a place is in the list
place_in : (xs : List Copy) (i : ℕ) → i < length xs → Memᴰ (get_or xs i no_copy) xs
place_in [] i h = absurd (omega arith)
place_in (x ∷ xs) zero h = Memᴰ.head refl
place_in (x ∷ xs) (suc i) h = Memᴰ.tail (place_in xs i (le_of_suc-le-suc h))

take_in : (k : ℕ) (xs : List Copy) {c : Copy} → Memᴰ c (take k xs) → Memᴰ c xs
take_in zero xs m = absurd (Memᴰ.not-nil m)
take_in (suc k) [] m = m
take_in (suc k) (x ∷ xs) m = ⊎_elim (λ e. Memᴰ.head e) (λ r. Memᴰ.tail (take_in k xs r)) (Memᴰ.cases_cons m)

drop_in : (k : ℕ) (xs : List Copy) {c : Copy} → Memᴰ c (drop k xs) → Memᴰ c xs
drop_in zero xs m = m
drop_in (suc k) [] m = m
drop_in (suc k) (x ∷ xs) m = Memᴰ.tail (drop_in k xs m)

module _ {P : Copy → Type 0} {flying : List Copy} (all : All P flying) where
  pub all_at : (place : ℕ) → place < length flying → P (copy_at flying place)
  all_at place h = all.each _ (place_in flying place h)

  pub all_without : (place : ℕ) → All P (without place flying)
  unfolding without
  all_without place =
      record { each = λ c m. ⊎_elim (λ t. all.each c (take_in place flying t)) (λ d. all.each c (drop_in (place + 1) flying d)) (Memᴰ.append_cases (take place flying) m) }

pub without_few : (place : ℕ) (xs : List Copy) → length (without place xs) ≤ length xs
unfolding without
without_few place xs = omega (arith, length-append (take place xs) (drop (place + 1) xs), length-take place xs, length-drop (place + 1) xs)

-- ---- What a step sends

module _ (n : Network) (k : ℕ) (w : Seated) (a : Arrival) (flying : List Copy) where
  new : List Copy
  new = new_copies (plug_of n k) a (sending_of w.report.verdict)

  pub adds_outbox : Adds (new_copies (plug_of n k) a (sending_of w.report.verdict)) (nothing_sent flying) (outbox_of n k w a flying)
  unfolding outbox_of
  adds_outbox = adds_out (plug_of n k) a (sending_of w.report.verdict) (nothing_sent flying)

  -- no more than there is room for
  pub few_outbox : length flying ≤ most → length (outbox_of n k w a flying).flying ≤ most
  unfolding new
  few_outbox h = omega (arith, ap length adds_outbox.flying, length-append flying (take (room_in flying) new), length-take (room_in flying) new)

  -- those that joined are placed
  pub count_outbox : length flying + (outbox_of n k w a flying).placed ≡ length (outbox_of n k w a flying).flying
  unfolding new
  count_outbox = omega (arith, adds_outbox.placed, ap length adds_outbox.flying, length-append flying (take (room_in flying) new))

  pub small_report : Small (step_report k a w (outbox_of n k w a flying))
  unfolding outbox_of plug_of new
  small_report =
      let whole = ap length (take-append-drop (room_in flying) new) in
      let parts = length-append (take (room_in flying) new) (drop (room_in flying) new) in
      record {
        copies = omega (arith, adds_outbox.placed, adds_outbox.lost, whole, parts, new_few (plug_of n k) a (sending_of w.report.verdict));
        hosts = ones_out (plug_of n k) a (sending_of w.report.verdict) flying;
        bits = below_out (plug_of n k) a (sending_of w.report.verdict) flying (numbered (plugs_of n) k);
      }

-- ---- What a step keeps

-- what arrives at a head can arrive there
pub record Comes (s : Seat) (a : Arrival) : Type 0 where
  pub arrives : Arrives s.switch.setup.ports a
  pub nonce : a.header.nonce < 2 ^ 24
  pub some : 1 ≤ a.destination
  pub below : a.destination < address_bound

module _ (n : Network) (fine : network_fault n ≡ 0) (up : List Bool) (k : ℕ) (s : Seat) (fits : SeatFits n up k s) (a : Arrival) (comes : Comes s a) where
  pub step_stays : Formed (step_of s a).seat
  step_stays = step_formed s a fits.formed comes.arrives

  -- a new copy goes out on a live port, and so over a live link
  new_fits : (c : Copy) (g : Send) → sending_of (step_of s a).report.verdict ≡ Some g → NewFor (plug_of n k) a g.mask g.header c → CopyFits n up c
  unfolding plug_of
  new_fits c g e v =
      let may = may_send s a fits.formed comes.arrives comes.nonce g e in
      let live : names (setup_of n (plugs_of n) up k).live v.port ≡ true = rw fits.setup at (may.live v.port v.named) in
      rw v.copy
      (record {
        link = (link_there n fine k v.port v.end v.plugged).0;
        live = sym (link_up n fine up k v.port v.end v.plugged) ∙ live;
        source = comes.arrives.source;
        destination_some = comes.some;
        destination_below = comes.below;
        hops_some = may.some_hops;
        hops_few = omega (arith, may.low_hops);
        nonce = may.nonce;
      })

  pub copies_stay : (flying : List Copy) → All (CopyFits n up) flying → All (CopyFits n up) (outbox_of n k (step_of s a) a flying).flying
  copies_stay flying fit =
      let new = new_copies (plug_of n k) a (sending_of (step_of s a).report.verdict) in
      record {
        each = λ c m.
            ⊎_elim (fit.each c) (λ t. let (g, e, v) = new_for (plug_of n k) a (sending_of (step_of s a).report.verdict) c (take_in (room_in flying) new t) in new_fits c g e v)
            (Memᴰ.append_cases flying (subst (Memᴰ c) (adds_outbox n k (step_of s a) a flying).flying m));
      }

-- ---- What a link's state keeps

spared_in : (l : ℕ) (xs : List Copy) {c : Copy} → Memᴰ c (spared l xs) → Memᴰ c xs × (c.link ≢ l)
unfolding spared
spared_in l [] m = absurd (Memᴰ.not-nil m)
spared_in l (x ∷ xs) {c} m = by_link (eqb x.link l) refl m (λ r. spared_in l xs r)
  where
    by_link : (b : Bool) → eqb x.link l ≡ b → Memᴰ c (cond b (spared l xs) (x ∷ spared l xs)) → (Memᴰ c (spared l xs) → Memᴰ c xs × (c.link ≢ l)) → Memᴰ c (x ∷ xs) × (c.link ≢ l)
    by_link true e r go = (Memᴰ.tail (go r).0, (go r).1)
    by_link false e r go =
        ⊎_elim (λ same. (Memᴰ.head same, λ q. eqb-false x.link l e (ap (λ (d : Copy). d.link) (sym same) ∙ q))) (λ t. (Memᴰ.tail (go t).0, (go t).1)) (Memᴰ.cases_cons r)

-- none is on it, and all are spared
pub spared_all : (l : ℕ) (xs : List Copy) → ((c : Copy) → Memᴰ c xs → c.link ≢ l) → spared l xs ≡ xs
unfolding spared
spared_all l [] none = refl
spared_all l (x ∷ xs) none = rw (ne_eqb x.link l (none x (Memᴰ.head refl))) (ap (λ ys. x ∷ ys) (spared_all l xs (λ c m. none c (Memᴰ.tail m))))

module _ (n : Network) (up : List Bool) (flying : List Copy) (fit : All (CopyFits n up) flying) (l : ℕ) where
  moved : (state : Bool) (c : Copy) → CopyFits n up c → get_or (set up l state) c.link false ≡ true → CopyFits n (set up l state) c
  moved state c v live =
      record {
        link = v.link;
        live = live;
        source = v.source;
        destination_some = v.destination_some;
        destination_below = v.destination_below;
        hops_some = v.hops_some;
        hops_few = v.hops_few;
        nonce = v.nonce;
      }

  stays_live : (i : ℕ) → get_or up i false ≡ true → get_or (set up l true) i false ≡ true
  stays_live i live =
      by_cases (ℕ_discrete i l) (λ same. by_cases (dec_lt l (length up)) (λ h. rw same (get_or-set_same up l true false h)) (λ h. rw (set_out up l true (omega arith)) live))
      (λ other. get_or-set_other up l i true false other ∙ live)

  pub spared_stay : (state : Bool) → All (CopyFits n (set up l state)) (spared_by state l flying)
  spared_stay true = record { each = λ c m. let v = fit.each c m in moved true c v (stays_live c.link v.live) }
  spared_stay false = record { each = λ c m. let (there, off) = spared_in l flying m in let v = fit.each c there in moved false c v (get_or-set_other up l c.link false false off ∙ v.live) }
