-- What goes out, all ports at once: the list behind it, its new copies, and the hosts that received.
use Prim.Native.Nat.{ℕ, zero, suc, ◌+◌, ◌-◌, ◌^◌, ◌≤◌, ◌<◌}
use mathlib.Core.Path.{◌≡◌, refl, sym, ap, ap₂, subst, ◌∙◌}
use mathlib.Core.Logic.{◌⊎◌, ◌↔◌, inl, inr, ⊎_elim, by_cases}
use mathlib.Core.Bool.{Bool, true, false, cond, ◌||◌, or-true, true≢false}
use mathlib.Core.List.Memᴰ
use mathlib.Core.List.{List, [], ◌∷◌, ◌++◌, append_assoc, append-nil, Memᴰ}
use native.Mathlib.Decide.{dec_lt, ℕ_discrete}
use native.Mathlib.Omega.{arith}
use lib.Bits.{bit_or, or_lt}
use lib.Count.{ones, ones_in}
use lib.Dec.{eqb}
use lib.ListN.{length, take, drop, length-append, length-take}
use lib.Pow.{pow-lt}
use lib.Seq.{take-nil, drop-nil}
use borrow.Author.Tests.{eq-eqb, eqb-true}
use Rattle.std.specs.Prelude.{Option, Some, None}
use Rattle.frame.specs.declared.Header.{Header}
use Rattle.rules.specs.declared.Arrival.{Arrival}
use Rattle.rules.specs.declared.Send.{Send}
use Rattle.rules.specs.Mask.{names}
use Rattle.rules.specs.Verdict.{sent_by}
use Rattle.rules.proofs.Bits.{names_none}
use Rattle.cabling.specs.declared.End.{End}
use Rattle.cabling.specs.declared.Plug.{Plug}
use Rattle.cabling.specs.declared.Plug.TheVariants.{Open, Host, Link}
use Rattle.cabling.specs.Cabling.{most_ports, other_end}
use Rattle.flight.specs.declared.Copy.{Copy}
use Rattle.flight.specs.Flight.{most}
use Rattle.turn.specs.Send.{Adds, Numbered, Outbox, Reaches, copies_from, copy_on, copy_to, joins, new_copies, nothing_sent, receives, room_in, send_at, send_from, send_on, send_out}
use Rattle.turn.proofs.LawsOfMasks.{names_with, ones_with}
use Rattle.turn.proofs.Outboxes.{joins_room, joins_full}

-- ---- New copies join the list

take_append : (r : ℕ) (u v : List Copy) → take r (u ++ v) ≡ take r u ++ take (r - length u) v
take_append zero [] v = refl
take_append (suc r) [] v = let z : suc r - 0 ≡ suc r = omega arith in rw z
take_append zero (c ∷ u) v = let z : 0 - length (c ∷ u) ≡ 0 = omega arith in rw z
take_append (suc r) (c ∷ u) v = let z : suc r - length (c ∷ u) ≡ r - length u = omega arith in rw z (ap (λ xs. c ∷ xs) (take_append r u v))

drop_append : (r : ℕ) (u v : List Copy) → drop r (u ++ v) ≡ drop r u ++ drop (r - length u) v
drop_append zero [] v = refl
drop_append (suc r) [] v = let z : suc r - 0 ≡ suc r = omega arith in rw z
drop_append zero (c ∷ u) v = let z : 0 - length (c ∷ u) ≡ 0 = omega arith in rw z
drop_append (suc r) (c ∷ u) v = let z : suc r - length (c ∷ u) ≡ r - length u = omega arith in rw z (drop_append r u v)

adds_none : (x : Outbox) → Adds [] x x
adds_none x =
    let r = room_in x.flying in
    record {
      flying = sym (ap (λ xs. x.flying ++ xs) (take-nil r) ∙ append-nil x.flying);
      placed = omega (arith, ap length (take-nil {A = Copy} r));
      lost = omega (arith, ap length (drop-nil {A = Copy} r));
    }

adds_same : {x y : Outbox} → y.flying ≡ x.flying → y.placed ≡ x.placed → y.lost ≡ x.lost → Adds [] x y
adds_same {x} f p l = let none = adds_none x in record { flying = f ∙ none.flying; placed = p ∙ none.placed; lost = l ∙ none.lost }

-- first some, then others
adds_then : {u v : List Copy} {x y z : Outbox} → Adds u x y → Adds v y z → Adds (u ++ v) x z
adds_then {u} {v} {x} {y} {z} a b =
    let r = room_in x.flying in
    let left : room_in y.flying ≡ r - length u = omega (arith, ap length a.flying, length-append x.flying (take r u), length-take r u) in
    let kept : take (room_in y.flying) v ≡ take (r - length u) v = ap (λ k. take k v) left in
    let gone : drop (room_in y.flying) v ≡ drop (r - length u) v = ap (λ k. drop k v) left in
    record {
      flying = b.flying ∙ ap₂ (λ xs ys. xs ++ ys) a.flying kept ∙ append_assoc x.flying (take r u) (take (r - length u) v) ∙ ap (λ xs. x.flying ++ xs) (sym (take_append r u v));
      placed = omega (arith, a.placed, b.placed, ap length kept, ap length (take_append r u v), length-append (take r u) (take (r - length u) v));
      lost = omega (arith, a.lost, b.lost, ap length gone, ap length (drop_append r u v), length-append (drop r u) (drop (r - length u) v));
    }

adds_join : (c : Copy) (x : Outbox) → Adds (c ∷ []) x (joins c x)
adds_join c x =
    by_cases (dec_lt (length x.flying) most) (λ less. with_room (room_in x.flying - 1) (omega arith) less)
    (λ full. without_room (omega arith) (omega arith))
  where
    with_room : (k : ℕ) → room_in x.flying ≡ suc k → length x.flying < most → Adds (c ∷ []) x (joins c x)
    with_room k e less =
        rw (joins_room c x less)
        (record {
          flying = rw (e, take-nil {A = Copy} k);
          placed = rw (e, take-nil {A = Copy} k);
          lost = rw (e, drop-nil {A = Copy} k) (omega arith);
        })

    without_room : room_in x.flying ≡ 0 → most ≤ length x.flying → Adds (c ∷ []) x (joins c x)
    without_room e full = rw (joins_full c x full) (record { flying = rw e (sym (append-nil x.flying)); placed = rw e (omega arith); lost = rw e })

module _ (a : Arrival) (h : Header) where
  adds_on : (plug : Plug) (x : Outbox) → Adds (copy_on plug a h) x (send_on plug a h x)
  unfolding send_on receives
  adds_on Open x = adds_none x
  adds_on (Host i) x = adds_same refl refl refl
  adds_on (Link e) x = adds_join (copy_to (other_end e) a h) x

  module _ (plug : ℕ → Plug) (mask : ℕ) where
    adds_at : (p : ℕ) (x : Outbox) → Adds (cond (names mask p) (copy_on (plug p) a h) []) x (send_at plug a mask h p x)
    unfolding send_at
    adds_at p x = by_name (names mask p)
      where
        by_name : (b : Bool) → Adds (cond b (copy_on (plug p) a h) []) x (cond b (send_on (plug p) a h x) x)
        by_name true = adds_on (plug p) x
        by_name false = adds_none x

    adds_from : (n p : ℕ) (x : Outbox) → Adds (copies_from plug a mask h n p) x (send_from plug a mask h n p x)
    unfolding send_from copies_from
    adds_from zero p x = adds_none x
    adds_from (suc n) p x = adds_then (adds_at p x) (adds_from n (p + 1) (send_at plug a mask h p x))

-- the copies in flight are those before, followed by as many new ones as there was room for
pub adds_out : (plug : ℕ → Plug) (a : Arrival) (g : Option Send) (x : Outbox) → Adds (new_copies plug a g) x (send_out plug a g x)
unfolding send_out new_copies
adds_out plug a None x = adds_none x
adds_out plug a (Some s) x = adds_from a s.header plug s.mask most_ports 0 x

-- ---- The new copies

-- one is for a port that the mask names, with a link plugged in
pub record NewFor (plug : ℕ → Plug) (a : Arrival) (mask : ℕ) (h : Header) (c : Copy) : Type 0 where
  pub port : ℕ
  pub end : End
  pub named : names mask port ≡ true
  pub plugged : plug port ≡ Link end
  pub copy : c ≡ copy_to (other_end end) a h

module _ (plug : ℕ → Plug) (a : Arrival) (mask : ℕ) (h : Header) where
  new_at : (p : ℕ) (c : Copy) → Memᴰ c (cond (names mask p) (copy_on (plug p) a h) []) → NewFor plug a mask h c
  new_at p c = by_name (names mask p) refl
    where
      by_plug : (q : Plug) → plug p ≡ q → names mask p ≡ true → Memᴰ c (copy_on q a h) → NewFor plug a mask h c
      by_plug Open e t m = absurd (Memᴰ.not-nil m)
      by_plug (Host i) e t m = absurd (Memᴰ.not-nil m)
      by_plug (Link f) e t m = record { port = p; end = f; named = t; plugged = e; copy = Memᴰ.eq_of_singleton m }

      by_name : (b : Bool) → names mask p ≡ b → Memᴰ c (cond b (copy_on (plug p) a h) []) → NewFor plug a mask h c
      by_name true t m = by_plug (plug p) refl t m
      by_name false t m = absurd (Memᴰ.not-nil m)

  new_from : (n p : ℕ) (c : Copy) → Memᴰ c (copies_from plug a mask h n p) → NewFor plug a mask h c
  unfolding copies_from
  new_from zero p c m = absurd (Memᴰ.not-nil m)
  new_from (suc n) p c m = ⊎_elim (new_at p c) (new_from n (p + 1) c) (Memᴰ.append_cases (cond (names mask p) (copy_on (plug p) a h) []) m)

  -- at most one for each port
  few_at : (p : ℕ) → length (cond (names mask p) (copy_on (plug p) a h) []) ≤ 1
  few_at p = by_name (names mask p)
    where
      by_plug : (q : Plug) → length (copy_on q a h) ≤ 1
      by_plug Open = omega arith
      by_plug (Host i) = omega arith
      by_plug (Link f) = omega arith

      by_name : (b : Bool) → length (cond b (copy_on (plug p) a h) []) ≤ 1
      by_name true = by_plug (plug p)
      by_name false = omega arith

  few_from : (n p : ℕ) → length (copies_from plug a mask h n p) ≤ n
  unfolding copies_from
  few_from zero p = omega arith
  few_from (suc n) p =
      omega (arith, length-append (cond (names mask p) (copy_on (plug p) a h) []) (copies_from plug a mask h n (p + 1)), few_at p, few_from n (p + 1))

pub new_few : (plug : ℕ → Plug) (a : Arrival) (g : Option Send) → length (new_copies plug a g) ≤ most_ports
unfolding new_copies
new_few plug a None = omega arith
new_few plug a (Some s) = few_from plug a s.mask s.header most_ports 0

pub new_for : (plug : ℕ → Plug) (a : Arrival) (g : Option Send) (c : Copy) → Memᴰ c (new_copies plug a g) → (s : Send) × (g ≡ Some s) × NewFor plug a s.mask s.header c
unfolding new_copies
new_for plug a None c m = absurd (Memᴰ.not-nil m)
new_for plug a (Some s) c m = (s, refl, new_from plug a s.mask s.header most_ports 0 c m)

-- ---- The hosts that received

-- what joins leaves them
joins_received : (c : Copy) (x : Outbox) → (joins c x).received ≡ x.received
joins_received c x =
    by_cases (dec_lt (length x.flying) most) (λ less. ap (λ (y : Outbox). y.received) (joins_room c x less)) (λ full. ap (λ (y : Outbox). y.received) (joins_full c x (omega arith)))

module _ (plug : ℕ → Plug) (a : Arrival) (mask : ℕ) (h : Header) where
  -- a port that sends adds its host, if it has one; the others keep what holds
  keeps_at : (P : ℕ → Type 0) (p : ℕ) (x : Outbox) → P x.received → ((i : ℕ) → names mask p ≡ true → plug p ≡ Host i → P (bit_or x.received (2 ^ i))) → P (send_at plug a mask h p x).received
  unfolding send_at send_on receives
  keeps_at P p x old new = by_name (names mask p) refl
    where
      by_plug : (q : Plug) → plug p ≡ q → names mask p ≡ true → P (send_on q a h x).received
      by_plug Open e t = old
      by_plug (Host i) e t = new i t e
      by_plug (Link f) e t = rw (joins_received (copy_to (other_end f) a h) x) old

      by_name : (b : Bool) → names mask p ≡ b → P (cond b (send_on (plug p) a h x) x).received
      by_name true t = by_plug (plug p) refl t
      by_name false t = old

  -- received stays received
  stays_at : (i p : ℕ) (x : Outbox) → names x.received i ≡ true → names (send_at plug a mask h p x).received i ≡ true
  stays_at i p x e = keeps_at (λ m. names m i ≡ true) p x e (λ j _ _. names_with x.received j i ∙ ap (λ b. b || eqb i j) e)

  stays_from : (i n p : ℕ) (x : Outbox) → names x.received i ≡ true → names (send_from plug a mask h n p x).received i ≡ true
  unfolding send_from
  stays_from i zero p x e = e
  stays_from i (suc n) p x e = stays_from i n (p + 1) (send_at plug a mask h p x) (stays_at i p x e)

  -- a port's own host receives
  hears_at : (i p : ℕ) (x : Outbox) → names mask p ≡ true → plug p ≡ Host i → names (send_at plug a mask h p x).received i ≡ true
  unfolding send_at send_on receives
  hears_at i p x t e = rw (t, e) (names_with x.received i i ∙ rw (eq-eqb i i refl) (or-true (names x.received i)))

  hears_from : (i n p q : ℕ) (x : Outbox) → p ≤ q → q < p + n → names mask q ≡ true → plug q ≡ Host i → names (send_from plug a mask h n p x).received i ≡ true
  unfolding send_from
  hears_from i zero p q x least less t e = absurd (omega arith)
  hears_from i (suc n) p q x least less t e =
      by_cases (ℕ_discrete q p) (λ same. stays_from i n (p + 1) (send_at plug a mask h p x) (hears_at i p x (rw same at t) (rw same at e)))
      (λ other. hears_from i n (p + 1) q (send_at plug a mask h p x) (omega arith) (omega arith) t e)

  -- and nobody else
  record Between (i p n : ℕ) : Type 0 where
    port : ℕ
    least : p ≤ port
    less : port < p + n
    named : names mask port ≡ true
    plugged : plug port ≡ Host i

  only_at : (i p : ℕ) (x : Outbox) → names (send_at plug a mask h p x).received i ≡ true → (names x.received i ≡ true) ⊎ Between i p 1
  only_at i p x =
      keeps_at (λ m. names m i ≡ true → (names x.received i ≡ true) ⊎ Between i p 1) p x inl
      (λ j t e heard. by_old (names x.received i) refl j t e (sym (names_with x.received j i) ∙ heard))
    where
      by_old : (b : Bool) → names x.received i ≡ b → (j : ℕ) → names mask p ≡ true → plug p ≡ Host j → (names x.received i || eqb i j) ≡ true → (names x.received i ≡ true) ⊎ Between i p 1
      by_old true q j t e heard = inl q
      by_old false q j t e heard =
          let same : i ≡ j = eqb-true i j (rw q at heard) in
          inr (record { port = p; least = omega arith; less = omega arith; named = t; plugged = rw same e })

  only_from : (i n p : ℕ) (x : Outbox) → names (send_from plug a mask h n p x).received i ≡ true → (names x.received i ≡ true) ⊎ Between i p n
  unfolding send_from
  only_from i zero p x heard = inl heard
  only_from i (suc n) p x heard =
      ⊎_elim
      (λ before. ⊎_elim inl (λ (b : Between i p 1). inr (record { port = b.port; least = b.least; less = omega (arith, b.less); named = b.named; plugged = b.plugged })) (only_at i p x before))
      (λ (b : Between i (p + 1) n). inr (record { port = b.port; least = omega (arith, b.least); less = omega (arith, b.less); named = b.named; plugged = b.plugged }))
      (only_from i n (p + 1) (send_at plug a mask h p x) heard)

  -- at most one more for each port
  ones_from : (n p : ℕ) (x : Outbox) → ones (send_from plug a mask h n p x).received ≤ ones x.received + n
  unfolding send_from
  ones_from zero p x = omega arith
  ones_from (suc n) p x =
      let one : ones (send_at plug a mask h p x).received ≤ ones x.received + 1
      = keeps_at (λ m. ones m ≤ ones x.received + 1) p x (omega arith) (λ i _ _. ones_with i x.received) in
      omega (arith, one, ones_from n (p + 1) (send_at plug a mask h p x))

  -- each of them one of 32
  below_from : ((p : ℕ) → Numbered (plug p)) → (n p : ℕ) (x : Outbox) → x.received < 2 ^ 32 → (send_from plug a mask h n p x).received < 2 ^ 32
  unfolding send_from
  below_from numbered zero p x less = less
  below_from numbered (suc n) p x less =
      below_from numbered n (p + 1) (send_at plug a mask h p x)
      (keeps_at (λ m. m < 2 ^ 32) p x less (λ i _ e. or_lt 32 x.received (2 ^ i) less (pow-lt (subst Numbered e (numbered p)))))

module _ (plug : ℕ → Plug) (a : Arrival) (g : Option Send) (flying : List Copy) where
  -- the bits that are set are those of the hosts whose ports the mask names
  pub heard_out : (i : ℕ) → (names (send_out plug a g (nothing_sent flying)).received i ≡ true) ↔ Reaches plug (sent_by g).mask i
  unfolding send_out
  heard_out i = by_sending g
    where
      none : (k : ℕ) → names 0 k ≡ true → ⊥
      none k e = true≢false (sym e ∙ names_none 0 0 k (omega arith) (omega arith))

      by_sending : (g : Option Send) → (names (send_out plug a g (nothing_sent flying)).received i ≡ true) ↔ Reaches plug (sent_by g).mask i
      by_sending None = ((λ heard. absurd (none i heard)), (λ r. absurd (none r.port r.named)))
      by_sending (Some s) = (
        (λ heard. ⊎_elim (λ old. absurd (none i old)) (λ (b : Between plug a s.mask s.header i 0 most_ports). record { port = b.port; below = omega (arith, b.less); named = b.named; plugged = b.plugged })
            (only_from plug a s.mask s.header i most_ports 0 (nothing_sent flying) heard)),
        (λ r. hears_from plug a s.mask s.header i most_ports 0 r.port (nothing_sent flying) (omega arith) (omega (arith, r.below)) r.named r.plugged),
      )

  -- at most one for each port
  pub ones_out : ones (send_out plug a g (nothing_sent flying)).received ≤ most_ports
  unfolding send_out ones ones_in
  ones_out = by_sending g
    where
      by_sending : (g : Option Send) → ones (send_out plug a g (nothing_sent flying)).received ≤ most_ports
      by_sending None = omega arith
      by_sending (Some s) = omega (arith, ones_from plug a s.mask s.header most_ports 0 (nothing_sent flying))

  -- each of them one of 32
  pub below_out : ((p : ℕ) → Numbered (plug p)) → (send_out plug a g (nothing_sent flying)).received < 2 ^ 32
  unfolding send_out
  below_out numbered = by_sending g
    where
      by_sending : (g : Option Send) → (send_out plug a g (nothing_sent flying)).received < 2 ^ 32
      by_sending None = omega arith
      by_sending (Some s) = below_from plug a s.mask s.header numbered most_ports 0 (nothing_sent flying) (omega arith)
