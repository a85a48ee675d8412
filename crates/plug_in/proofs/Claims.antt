-- The order's claims, out of the two halves of the flood theorem; and the start of the run.
use Prim.Native.Nat.{ℕ, ◌+◌, ◌<◌}
use mathlib.Core.Path.{◌≡◌, refl, sym, ap, subst, ◌∙◌}
use mathlib.Core.List.{List, [], ◌∷◌}
use native.Mathlib.Omega.{arith}
use Rattle.filter.specs.Triple.{triple}
use Rattle.frame.specs.declared.Header.{Header}
use Rattle.frame.specs.Header.{bit}
use Rattle.flight.specs.Flight.{All}
use Rattle.event.specs.declared.Address.{Address}
use Rattle.event.specs.Event.{address_of}
use Rattle.turn.specs.Turn.{host_of}
use Rattle.bench.specs.Bench.{in_flight}
use Rattle.counters.specs.History.{Moment as Happened, State, after, happens_at}
use Rattle.flood.specs.Mesh as flood
use Rattle.flood.specs.Mesh.{Joined}
use Rattle.flood.specs.Delivery.{Delivers, LimitsSuffice, Quiet}
use Rattle.flood.proofs.Laws.{flood_delivers, flooding}
use Rattle.plug_in.specs.Demand.{AllHaveRecords, AllReceivedOne, EachPortOnce, NoneFlies, PluggedIn, Starts, sends}
use Rattle.plug_in.specs.Words.{LimitsReach, LosesNone, NamesNowhere, address_of_host, home_of, times}
use Rattle.plug_in.proofs.Begin.{begun, first_ours, first_in, home_in, nonce_in}
use Rattle.plug_in.proofs.Carrying.{Carries, Says, carried, receives_as_sent}
use Rattle.plug_in.proofs.Following.{leads, leads_home, recorded}
use Rattle.plug_in.proofs.Happening.{Steps}
use Rattle.plug_in.proofs.Mesh.{cable_back, cable_inside, joined, mesh}
use Rattle.plug_in.proofs.Ours.{Ours, ours_sent}
use Rattle.plug_in.proofs.Reached.{Reached, presents_steps, reachable_after, reached}
use Rattle.plug_in.proofs.Run.{Flowing, happened}
use Rattle.plug_in.proofs.Stand.{host_stands}
use Rattle.plug_in.proofs.View.{moment, start}

-- ---- The start: A sends its frame

module _ (s : State) (A : ℕ) (to : Address) (starts : Starts s A to) where
  -- what is known of the bench then
  abbrev known : Reached s.bench
  known = reached s starts.reachable

  -- nothing names A
  nowhere : NamesNowhere (host_of s.bench.network A).address s.bench
  unfolding address_of_host
  nowhere = starts.nowhere

  -- A's switch steps
  steps : Steps s.bench (home_in s.bench A).switch (first_in s.bench A (address_of to)) (in_flight s.bench) (after s (sends A to)).bench (happens_at s (sends A to)).happened.answer
  steps = presents_steps s known (record { host = A; to = to }) starts.accepted

  -- no copy named A, so each that does is of this frame
  carries : All (Carries (host_of s.bench.network A).address (nonce_in s.bench A)) (in_flight (after s (sends A to)).bench)
  unfolding address_of_host
  carries =
      carried steps
      (λ d m. record { away = λ _. (nowhere.copies.each d m).1; says = λ mine. absurd ((nowhere.copies.each d m).0 mine) }) (λ other. absurd (other ours.source))
      (λ p named q. says (ours_sent known (host_stands s.bench.network known.shape.described A starts.host).switch ours p named))
    where
      ours : Ours (host_of s.bench.network A).address (nonce_in s.bench A) (first_in s.bench A (address_of to))
      ours = first_ours s.bench known A (address_of to) starts.host nowhere

      says : {g : Header} → g ≡ (first_in s.bench A (address_of to)).header → Says (nonce_in s.bench A) g
      says e = subst (Says (nonce_in s.bench A)) (sym e) (record { l = ours.l; f = ours.f; nonce = ours.nonce })

  -- the run is at the flood's first moment
  pub flows_from : LosesNone (host_of s.bench.network A).address (happens_at s (sends A to)).happened.answer
      → Flowing s.bench.network s.bench.up A (host_of s.bench.network A).address (nonce_in s.bench A) (after s (sends A to)) (happened s (sends A to) ∷ [])
  unfolding times
  flows_from room =
      record {
        reachable = reachable_after starts.reachable (sends A to);
        network = steps.network;
        links = steps.up;
        there = starts.host;
        address = refl;
        fine = known.shape.described;
        carries = carries;
        counts = λ i l. ap (λ w. bit w + 0) (receives_as_sent known steps (host_of s.bench.network A).address i l);
        recording = begun s.bench known A (address_of to) starts.host nowhere steps room (happened s (sends A to)) refl;
      }

-- ---- The claims

module _ {A x nonce : ℕ} {s : State} {h : List Happened} (v : Flowing s.bench.network s.bench.up A x nonce s h) where
  -- the first half of the flood theorem
  delivers : Delivers (flooding v.recording)
  delivers = flood_delivers _ _ _ (flooding v.recording)

  -- each port has sent the frame at most once
  once : EachPortOnce x h
  unfolding moment
  once k p = delivers.once (record { switch = k; number = p })

  -- the limits suffice, since the first switch's copies say one hop
  suffice : LimitsReach s.bench.network → LimitsSuffice (start s.bench.network s.bench.up v.fine x A)
  suffice limits k inside = omega (arith, limits k inside)

  -- no copy of it is in flight, in the flood's sense
  quiet : NoneFlies x s.bench → Quiet (moment s.bench.network s.bench.up v.fine x (triple x nonce 1) s.bench h)
  unfolding moment
  quiet none p k w = none (record { copy = w.copy; there = w.there; mine = w.mine })

  -- what is joined is a switch of the stand
  inside : (t : ℕ) → Joined (mesh s.bench.network s.bench.up v.fine) (host_of s.bench.network A).port.switch t → t < s.bench.network.nswitches
  inside t flood.here = (host_stands s.bench.network v.fine A v.there).switch
  inside t (flood.over j a) = subst (λ t. t < s.bench.network.nswitches) a.arrives (cable_inside s.bench.network s.bench.up v.fine _ _ (cable_back s.bench.network s.bench.up _ _ a.cable))

  -- all switches joined to A have a record
  all_have : LimitsReach s.bench.network → NoneFlies x s.bench → AllHaveRecords x (host_of s.bench.network A).port.switch s.bench
  all_have limits none k j =
      let to = joined s.bench v.fine j in
      recorded v (inside k to) ((leads v).all (suffice limits) (quiet none) k to)

  -- all other hosts on them have received one copy
  all_received : LimitsReach s.bench.network → NoneFlies x s.bench → AllReceivedOne A x (host_of s.bench.network A).port.switch s h
  unfolding moment home_of
  all_received limits none i there other j =
      v.counts i there
      ∙ delivers.receives (suffice limits) (quiet none) (host_of s.bench.network i).port (joined s.bench v.fine j) (i, there, other, refl)

  -- all four claims
  pub claims : LimitsReach s.bench.network → PluggedIn A x (host_of s.bench.network A).port.switch s h
  claims limits = record { once = once; lead_home = leads_home v; records = all_have limits; received = all_received limits }
