-- What the code that sends has done so far, as an outbox: one lemma for each way on.
use Prim.Native.Nat.{ℕ, zero, suc, ◌+◌, ◌-◌, ◌*◌, ◌/◌, ◌%◌, ◌^◌, ◌≤◌, ◌<◌}
use mathlib.Core.Path.{◌≡◌, refl, ap, ◌∙◌}
use mathlib.Core.Bool.{Bool, true, false, cond}
use mathlib.Core.List.{List, [], ◌∷◌, ◌++◌}
use native.Mathlib.Nat.{one-mul, mod-eq_of_lt}
use native.Mathlib.Omega.{arith}
use lib.Dec.{eqb, ltb}
use lib.ListN.{length, get_or}
use lib.Pow.{pow-lt}
use borrow.Author.Tests.{lt-ltb, le-ltb, ltb-true}
use Rattle.frame.specs.declared.Header.{Header}
use Rattle.rules.specs.declared.Arrival.{Arrival}
use Rattle.cabling.specs.declared.End.{End}
use Rattle.cabling.specs.declared.Plug.{Plug}
use Rattle.cabling.specs.declared.Plug.TheVariants.{Open, Host, Link}
use Rattle.cabling.specs.Cabling.{most_ports, plug_at, plug_in}
use Rattle.flight.specs.declared.Copy.{Copy}
use Rattle.flight.specs.Flight.{most}
use Rattle.turn.specs.declared.sending.Sent.{Sent}
use Rattle.turn.specs.Send.{Numbered, Outbox, joins, outbox, send_at, send_from}

-- ---- A copy joins

-- while there is room
pub joins_room : (c : Copy) (x : Outbox) → length x.flying < most
    → joins c x ≡ record { flying = x.flying ++ (c ∷ []); received = x.received; placed = x.placed + 1; lost = x.lost }
unfolding joins
joins_room c x h = rw (lt-ltb (length x.flying) most h)

-- or is lost
pub joins_full : (c : Copy) (x : Outbox) → most ≤ length x.flying
    → joins c x ≡ record { flying = x.flying; received = x.received; placed = x.placed; lost = x.lost + 1 }
unfolding joins
joins_full c x h = rw (le-ltb (length x.flying) most h)

-- ---- A host receives

-- the bit of one of 32 hosts
pub host_bit : (i : ℕ) → i < 32 → 1 * 2 ^ i % 2 ^ 32 ≡ 2 ^ i
host_bit i h = ap (λ x. x % 2 ^ 32) (one-mul (2 ^ i)) ∙ mod-eq_of_lt (pow-lt h)

-- ---- A host's number

numbered_in : (x : ℕ) → Numbered (plug_in x)
unfolding plug_in
numbered_in x = by_none (ltb x 1)
  where
    end : End
    end = record { link = (x - 33) / 2; second = eqb ((x - 33) % 2) 1 }

    by_host : (b : Bool) → ltb x 33 ≡ b → Numbered (cond b (Host (x - 1)) (Link end))
    by_host true e = omega (arith, ltb-true x 33 e)
    by_host false e = tt

    by_none : (b : Bool) → Numbered (cond b Open (cond (ltb x 33) (Host (x - 1)) (Link end)))
    by_none true = tt
    by_none false = by_host (ltb x 33) refl

-- whatever the places hold, a host has one of 32 numbers
pub numbered : (ps : List ℕ) (k p : ℕ) → Numbered (plug_at ps k p)
unfolding plug_at
numbered ps k p = by_test (ltb p most_ports)
  where
    by_test : (b : Bool) → Numbered (cond b (plug_in (get_or ps (k * most_ports + p) 0)) Open)
    by_test true = numbered_in (get_or ps (k * most_ports + p) 0)
    by_test false = tt

-- ---- Port by port

-- the ports below one have sent: what the others send makes up the whole
pub record Reached (plug : ℕ → Plug) (a : Arrival) (mask : ℕ) (h : Header) (whole : Outbox) (flying : List Copy) (s : Sent) (port : ℕ) : Type 0 where
  pub left : ℕ
  pub count : port + left ≡ most_ports
  pub room : s.placed + s.lost ≤ port
  pub so_far : send_from plug a mask h left port (outbox flying s) ≡ whole

module _ {plug : ℕ → Plug} {a : Arrival} {mask : ℕ} {h : Header} {whole : Outbox} {flying : List Copy} {s : Sent} {port : ℕ} where
  pub reached_next : {after : List Copy} {r : Sent} → Reached plug a mask h whole flying s port → port < most_ports
      → outbox after r ≡ send_at plug a mask h port (outbox flying s)
      → r.placed + r.lost ≤ s.placed + s.lost + 1 → Reached plug a mask h whole after r (port + 1)
  unfolding send_from
  reached_next {after} {r} v less e room = by_left v.left v.count v.so_far
    where
      by_left : (left : ℕ) → port + left ≡ most_ports → send_from plug a mask h left port (outbox flying s) ≡ whole → Reached plug a mask h whole after r (port + 1)
      by_left zero count so_far = absurd (omega arith)
      by_left (suc left) count so_far =
          record {
            left = left;
            count = omega arith;
            room = omega (arith, room, v.room);
            so_far = ap (send_from plug a mask h left (port + 1)) e ∙ so_far;
          }

  pub reached_end : Reached plug a mask h whole flying s port → most_ports ≤ port → outbox flying s ≡ whole
  unfolding send_from
  reached_end v least = by_left v.left v.count v.so_far
    where
      by_left : (left : ℕ) → port + left ≡ most_ports → send_from plug a mask h left port (outbox flying s) ≡ whole → outbox flying s ≡ whole
      by_left zero count so_far = so_far
      by_left (suc left) count so_far = absurd (omega arith)
