-- Beside the flood: what all copies of A's frame say, and that a host receives exactly as often as its port sends.
use Prim.Native.Nat.{ℕ, ◌<◌}
use mathlib.Core.Path.{◌≡◌, sym, ap, subst, ◌∙◌}
use mathlib.Core.Logic.{◌≢◌, ⊎_elim, by_cases}
use mathlib.Core.Bool.{true, ◌&&◌}
use mathlib.Core.List.{List, Memᴰ}
use native.Mathlib.Decide.{ℕ_discrete}
use lib.Dec.{eqb}
use borrow.Author.Tests.{eq-eqb, ne_eqb}
use Rattle.std.proofs.Math.Bool.{and_assoc}
use Rattle.frame.specs.declared.Header.{Header}
use Rattle.network.specs.declared.Network.{Network}
use Rattle.rules.specs.Mask.{names}
use Rattle.rules.specs.declared.Arrival.{Arrival}
use Rattle.cabling.specs.declared.Plug.TheVariants.{Host as OfHost}
use Rattle.flight.specs.declared.Copy.{Copy}
use Rattle.flight.specs.Flight.{All}
use Rattle.turn.specs.Turn.{Answer, copy_arrival, host_of, plug_of}
use Rattle.bench.specs.declared.Bench.{Bench}
use Rattle.bench.specs.Bench.{in_flight}
use Rattle.plug_in.specs.Words.{receives_by}
use Rattle.plug_in.proofs.Happening.{Steps, out_in, sent_in, step_new, step_received, step_unplugged}
use Rattle.plug_in.proofs.Ours.{Ours}
use Rattle.plug_in.proofs.Reached.{Reached, copy_from, copy_header}
use Rattle.plug_in.proofs.Sent.{WentOut}
use Rattle.plug_in.proofs.Stand.{host_plugged, host_stands, host_there}
use Rattle.plug_in.proofs.Stepping.{receives_is, sends_is}
use Rattle.plug_in.proofs.View.{sends_to}

-- ---- What a copy says

-- L and F are set, and its nonce is A's
pub record Says (next : ℕ) (h : Header) : Type 0 where
  pub l : h.l ≡ true
  pub f : h.f ≡ true
  pub nonce : h.nonce ≡ next

-- a copy of A's frame says so, and one of another's isn't for A
pub record Carries (x nonce : ℕ) (c : Copy) : Type 0 where
  pub away : c.source ≢ x → c.destination ≢ x
  pub says : c.source ≡ x → Says nonce c.header

-- where such a copy arrives it is A's frame
pub ours : (n : Network) {x nonce : ℕ} {c : Copy} → Carries x nonce c → c.source ≡ x → Ours x nonce (copy_arrival n c)
ours n {x} {nonce} {c} v mine =
    record {
      source = copy_from n c ∙ mine;
      l = ap (λ (h : Header). h.l) (copy_header n c) ∙ (v.says mine).l;
      f = ap (λ (h : Header). h.f) (copy_header n c) ∙ (v.says mine).f;
      nonce = ap (λ (h : Header). h.nonce) (copy_header n c) ∙ (v.says mine).nonce;
    }

-- a step keeps it so, where it is so of what arrives and of what is sent
pub carried : {b : Bench} {k : ℕ} {a : Arrival} {rest : List Copy} {c : Bench} {told : Answer} → Steps b k a rest c told → {x nonce : ℕ} → ((d : Copy) → Memᴰ d rest → Carries x nonce d)
    → (a.source ≢ x → a.destination ≢ x) → ((p : ℕ) → names (sent_in b k a).mask p ≡ true → a.source ≡ x → Says nonce (sent_in b k a).header) → All (Carries x nonce) (in_flight c)
carried {b} {k} {a} v {x} {nonce} were away says = record { each = λ d m. ⊎_elim (were d) sent (step_new v m) }
  where
    sent : {d : Copy} → WentOut (plug_of b.network k) a (sent_in b k a).mask (sent_in b k a).header d → Carries x nonce d
    sent w = subst (Carries x nonce) (sym w.is) (record { away = away; says = says w.port w.named })

-- ---- Who receives

-- a host receives exactly if its port sends
pub receives_as_sent : {b : Bench} → Reached b → {k : ℕ} {a : Arrival} {rest : List Copy} {c : Bench} {told : Answer} → Steps b k a rest c told → (x i : ℕ) → i < b.network.nhosts
    → receives_by x i told ≡ sends_to x b.network i told
receives_as_sent {b} r {k} {a} {rest} v x i there =
    receives_is v x i
    ∙ ap (λ w. eqb a.source x && w) (by_cases (ℕ_discrete (host_of b.network i).port.switch k) here (λ d. elsewhere (λ e. d (sym e))))
    ∙ sym (and_assoc (eqb a.source x) (eqb k (host_of b.network i).port.switch) (names (sent_in b k a).mask (host_of b.network i).port.number))
    ∙ sym (sends_is v x (host_of b.network i).port.switch (host_of b.network i).port.number)
  where
    here : (host_of b.network i).port.switch ≡ k
        → names (out_in b k a rest).received i ≡ (eqb k (host_of b.network i).port.switch && names (sent_in b k a).mask (host_of b.network i).port.number)
    here e =
        step_received v i (host_of b.network i).port.number (host_stands b.network r.shape.described i there).few
        (subst (λ k. plug_of b.network k (host_of b.network i).port.number ≡ OfHost i) e (host_plugged b.network r.shape.described i there))
        (λ q d. sym (host_there b.network r.shape.described k q i d).2)
        ∙ ap (λ w. w && names (sent_in b k a).mask (host_of b.network i).port.number) (sym (eq-eqb k (host_of b.network i).port.switch (sym e)))

    elsewhere : k ≢ (host_of b.network i).port.switch
        → names (out_in b k a rest).received i ≡ (eqb k (host_of b.network i).port.switch && names (sent_in b k a).mask (host_of b.network i).port.number)
    elsewhere d =
        step_unplugged v i (λ q e. d (sym (host_there b.network r.shape.described k q i e).1))
        ∙ ap (λ w. w && names (sent_in b k a).mask (host_of b.network i).port.number) (sym (ne_eqb k (host_of b.network i).port.switch d))
