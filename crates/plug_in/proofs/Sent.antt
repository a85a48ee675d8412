-- What a step sends, told of single copies: those that were in flight stay, each new one went over the link of a port that the mask names, and a host
-- receives exactly if the mask names its port.
use Prim.Native.Nat.{ℕ, zero, suc, ◌+◌, ◌≤◌, ◌<◌}
use mathlib.Core.Path.{◌≡◌, refl, sym, subst, ◌∙◌}
use mathlib.Core.Logic.{◌⊎◌, inl, inr, ⊎_elim, by_cases}
use mathlib.Core.Bool.{Bool, true, false, cond, true≢false}
use mathlib.Core.List.Memᴰ
use mathlib.Core.List.{List, [], Memᴰ}
use native.Mathlib.Decide.{ℕ_discrete}
use native.Mathlib.Omega.{arith}
use Rattle.std.proofs.lemmas.Bool.{false_from_ne_true}
use Rattle.std.proofs.lemmas.List.{take_all}
use lib.ListN.{drop, length-drop, take, take-append-drop}
use Rattle.frame.specs.declared.Header.{Header}
use Rattle.rules.specs.Mask.{names}
use Rattle.rules.specs.Verdict.{sent_by}
use Rattle.rules.specs.declared.Arrival.{Arrival}
use Rattle.std.specs.Prelude.{Option, Some, None}
use Rattle.rules.specs.declared.Send.{Send}
use Rattle.rules.proofs.Bits.{names_none}
use Rattle.cabling.specs.declared.End.{End}
use Rattle.cabling.specs.declared.Plug.{Plug}
use Rattle.cabling.specs.declared.Plug.TheVariants.{Open, Host, Link}
use Rattle.cabling.specs.Cabling.{most_ports, other_end}
use Rattle.flight.specs.declared.Copy.{Copy}
use Rattle.turn.specs.Send.{Adds, copies_from, copy_on, copy_to, new_copies, nothing_sent, room_in, send_out}
use Rattle.turn.proofs.Laws.{received_by_lem, sent_list}

-- no mask at all names no port
pub names_nothing : (p : ℕ) → names 0 p ≡ false
names_nothing p = names_none 0 0 p (omega arith) (omega arith)

-- a copy that went out at a port which the mask names, over the link there
pub record WentOut (plug : ℕ → Plug) (a : Arrival) (mask : ℕ) (h : Header) (c : Copy) : Type 0 where
  pub port : ℕ
  pub named : names mask port ≡ true
  pub end : End
  pub plugged : plug port ≡ Link end
  pub is : c ≡ copy_to (other_end end) a h

-- ---- The new copies

module _ (plug : ℕ → Plug) (a : Arrival) (mask : ℕ) (h : Header) where
  -- the copy of one port
  port_copy : (p : ℕ) {c : Copy} → Memᴰ c (cond (names mask p) (copy_on (plug p) a h) []) → WentOut plug a mask h c
  port_copy p {c} = by_port (names mask p) refl (plug p) refl
    where
      by_port : (b : Bool) → names mask p ≡ b → (q : Plug) → plug p ≡ q → Memᴰ c (cond b (copy_on q a h) []) → WentOut plug a mask h c
      by_port false e q d m = absurd (Memᴰ.not-nil m)
      by_port true e Open d m = absurd (Memᴰ.not-nil m)
      by_port true e (Host i) d m = absurd (Memᴰ.not-nil m)
      by_port true e (Link f) d m = record { port = p; named = e; end = f; plugged = d; is = Memᴰ.eq_of_singleton m }

  -- each is of a port that the mask names
  new_went : (n p : ℕ) {c : Copy} → Memᴰ c (copies_from plug a mask h n p) → WentOut plug a mask h c
  unfolding copies_from
  new_went zero p m = absurd (Memᴰ.not-nil m)
  new_went (suc n) p m = ⊎_elim (port_copy p) (new_went n (p + 1)) (Memᴰ.append_cases (cond (names mask p) (copy_on (plug p) a h) []) m)

  -- a port with a link that the mask names has a copy
  own_copy : (p : ℕ) {e : End} → names mask p ≡ true → plug p ≡ Link e → Memᴰ (copy_to (other_end e) a h) (cond (names mask p) (copy_on (plug p) a h) [])
  own_copy p named there = rw (named, there) (Memᴰ.head refl)

  -- and each such port with a link has one
  went_new : (n p q : ℕ) {e : End} → p ≤ q → q < p + n → names mask q ≡ true → plug q ≡ Link e → Memᴰ (copy_to (other_end e) a h) (copies_from plug a mask h n p)
  unfolding copies_from
  went_new zero p q low high named there = absurd (omega arith)
  went_new (suc n) p q {e} low high named there =
      by_cases (ℕ_discrete q p) (λ same. Memᴰ.append_left (copies_from plug a mask h n (p + 1)) (own_copy p (rw same at named) (rw same at there)))
      (λ other. Memᴰ.append_right (cond (names mask p) (copy_on (plug p) a h) []) (went_new n (p + 1) q (omega arith) (omega arith) named there))

-- ---- A verdict

-- what is taken of a list stands in it
member_take : {c : Copy} (n : ℕ) (cs : List Copy) → Memᴰ c (take n cs) → Memᴰ c cs
member_take {c} n cs m = subst (Memᴰ c) (take-append-drop n cs) (Memᴰ.append_left (drop n cs) m)

module _ (plug : ℕ → Plug) (a : Arrival) (s : Option Send) (rest : List Copy) where
  -- what the laws of a turn say of it
  adds : Adds (new_copies plug a s) (nothing_sent rest) (send_out plug a s (nothing_sent rest))
  adds = sent_list plug a s (nothing_sent rest)

  -- the copies that were in flight stay
  pub kept_out : {c : Copy} → Memᴰ c rest → Memᴰ c (send_out plug a s (nothing_sent rest)).flying
  kept_out {c} m = subst (Memᴰ c) (sym adds.flying) (Memᴰ.append_left (take (room_in rest) (new_copies plug a s)) m)

  -- each other went out at a port that the mask names, over the link there
  pub new_out : {c : Copy} → Memᴰ c (send_out plug a s (nothing_sent rest)).flying → Memᴰ c rest ⊎ WentOut plug a (sent_by s).mask (sent_by s).header c
  unfolding new_copies
  new_out {c} m = ⊎_elim inl (λ n. inr (by_sending s (member_take (room_in rest) (new_copies plug a s) n))) (Memᴰ.append_cases rest (subst (Memᴰ c) adds.flying m))
    where
      by_sending : (s : Option Send) → Memᴰ c (new_copies plug a s) → WentOut plug a (sent_by s).mask (sent_by s).header c
      by_sending None m = absurd (Memᴰ.not-nil m)
      by_sending (Some s) m = new_went plug a s.mask s.header most_ports 0 m

  -- and if none is lost, one goes over each such link
  pub placed_out : (p : ℕ) {e : End} → p < most_ports → names (sent_by s).mask p ≡ true → plug p ≡ Link e → (send_out plug a s (nothing_sent rest)).lost ≡ 0
      → Memᴰ (copy_to (other_end e) a (sent_by s).header) (send_out plug a s (nothing_sent rest)).flying
  unfolding new_copies
  placed_out p {e} within named there none =
      subst (Memᴰ _) (sym adds.flying) (Memᴰ.append_right rest (subst (Memᴰ _) (sym all) (by_sending s named)))
    where
      all : take (room_in rest) (new_copies plug a s) ≡ new_copies plug a s
      all = take_all (room_in rest) (new_copies plug a s) (omega (arith, adds.lost, length-drop (room_in rest) (new_copies plug a s)))

      by_sending : (s : Option Send) → names (sent_by s).mask p ≡ true → Memᴰ (copy_to (other_end e) a (sent_by s).header) (new_copies plug a s)
      by_sending None named = absurd (true≢false (sym named ∙ names_nothing p))
      by_sending (Some s) named = went_new plug a s.mask s.header most_ports 0 p (omega arith) (omega arith) named there

  -- a host that is plugged in at port p alone receives exactly if the mask names p
  pub received_out : (i p : ℕ) → p < most_ports → plug p ≡ Host i → ((q : ℕ) → plug q ≡ Host i → q ≡ p)
      → names (send_out plug a s (nothing_sent rest)).received i ≡ names (sent_by s).mask p
  received_out i p within there alone =
      same_tests _ _ (λ e. let w = (received_by_lem plug a s rest i).0 e in subst (λ q. names (sent_by s).mask q ≡ true) (alone w.port w.plugged) w.named)
      (λ e. (received_by_lem plug a s rest i).1 (record { port = p; below = within; named = e; plugged = there }))
    where
      same_tests : (x y : Bool) → (x ≡ true → y ≡ true) → (y ≡ true → x ≡ true) → x ≡ y
      same_tests true y f g = sym (f refl)
      same_tests false true f g = g refl
      same_tests false false f g = refl

  -- one that isn't plugged in receives nothing
  pub unplugged_out : (i : ℕ) → ((q : ℕ) → plug q ≡ Host i → ⊥) → names (send_out plug a s (nothing_sent rest)).received i ≡ false
  unplugged_out i none = false_from_ne_true _ (λ e. let w = (received_by_lem plug a s rest i).0 e in none w.port w.plugged)
