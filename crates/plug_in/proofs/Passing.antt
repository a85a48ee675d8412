-- Events that are nothing to A's frame: refused ones, links set to the state that they have, and steps on the frames of others.
use Prim.Native.Nat.{ℕ, ◌^◌, ◌<◌}
use mathlib.Core.Path.{◌≡◌, refl, sym, ap, subst, ◌∙◌}
use mathlib.Core.Logic.{◌≢◌, inl, ⊎_elim, by_cases}
use mathlib.Core.Bool.{true, false}
use mathlib.Core.List.{List, [], ◌∷◌, ◌++◌, Memᴰ}
use native.Mathlib.Decide.{dec_lt, ℕ_discrete}
use native.Mathlib.Omega.{arith}
use borrow.Author.Tests.{both_ways, ne_eqb}
use Rattle.std.proofs.lemmas.Bool.{false_from_ne_true}
use Rattle.wire.specs.Address.{Source}
use Rattle.network.specs.declared.Port.{Port}
use Rattle.filter.specs.Filter.{holds}
use Rattle.filter.specs.Triple.{triple}
use Rattle.rules.specs.declared.Arrival.{Arrival}
use Rattle.rules.proofs.Laws.{bystander_kept, held_before}
use Rattle.seat.specs.declared.Seat.{Seat}
use Rattle.flight.specs.declared.Copy.{Copy}
use Rattle.turn.specs.Turn.{Answer}
use Rattle.bench.specs.declared.Bench.{Bench}
use Rattle.bench.specs.Bench.{in_flight, seat_at}
use Rattle.bench.specs.Kept as bench
use Rattle.counters.specs.History.{Moment as Happened}
use Rattle.flood.specs.Delivery.{Passes}
use Rattle.plug_in.specs.Words.{KeepsRecord, holds_at, sends_by}
use Rattle.plug_in.proofs.Happening.{Steps, step_kept, step_new}
use Rattle.plug_in.proofs.Reached.{Reached}
use Rattle.plug_in.proofs.Stepping.{found_stays, held_after, held_at, keeps, moment_in, sends_is, sources_apart, times_not}
use Rattle.plug_in.proofs.View.{Flies, found_in, head_beyond, head_inside, head_at, held_elsewhere, held_in, moment, same_head, same_held, still_flies}

-- a filter of the stand holds a key, in the words of the order
held_word : (b c : Bench) (key : List ℕ) {t : ℕ} → c.network ≡ b.network → t < b.network.nswitches → held_in b.network c key t ≡ holds_at c t key
unfolding held_in holds_at
held_word b c key same h = ap (λ (s : Seat). holds s.cells s.switch.setup.salt key) (head_inside b.network c h)

-- while a copy is in flight no filter loses the frame
kept_by : (b c : Bench) (x : ℕ) (key : List ℕ) → c.network ≡ b.network → KeepsRecord x key b c → (p : Port) (j : ℕ) → Flies b.network x b p j
    → (t : ℕ) → held_in b.network b key t ≡ true → held_in b.network c key t ≡ true
kept_by b c x key same keeps p j w t held =
    by_cases (dec_lt t b.network.nswitches)
    (λ h. held_word b c key same h ∙ keeps (record { copy = w.copy; there = w.there; mine = w.mine }) t h (sym (held_word b b key refl h) ∙ held))
    (λ h. same_held b.network b c key t (head_beyond b.network c (omega arith) ∙ sym (head_beyond b.network b (omega arith))) ∙ held)

-- ---- A step on another's frame

module _ {b : Bench} (r : Reached b) {k : ℕ} {a : Arrival} {rest : List Copy} {c : Bench} {told : Answer} (v : Steps b k a rest c told) (inside : k < b.network.nswitches)
    (x nonce : ℕ) (other : a.source ≢ x) (far : a.destination ≢ x) where
  module _ (source : Source a.source) (below : x < 2 ^ 48) where
    -- it makes no record of A's frame
    unmade : (t : ℕ) → held_in b.network b (triple x nonce 1) t ≡ false → held_in b.network c (triple x nonce 1) t ≡ false
    unmade t free = by_cases (ℕ_discrete t k) (λ e. rw e (here (rw e at free))) (λ d. held_elsewhere v (triple x nonce 1) t d ∙ free)
      where
        here : held_in b.network b (triple x nonce 1) k ≡ false → held_in b.network c (triple x nonce 1) k ≡ false
        here free =
            held_after v inside (triple x nonce 1)
            ∙ false_from_ne_true _
            (λ e. ⊎_elim (both_ways _ (sym (held_at b k inside (triple x nonce 1)) ∙ free)) (λ w. other (sources_apart w.0.nonce nonce source.below below (sym w.1)))
            (held_before (seat_at b k).switch.setup (seat_at b k).switch.table (seat_at b k).cells a (triple x nonce 1) refl e))

    -- A's frame passes
    pub others_pass : ((d : Copy) → Memᴰ d rest → Memᴰ d (in_flight b)) → ((d : Copy) → Memᴰ d (in_flight b) → d.source ≡ x → Memᴰ d rest)
        → KeepsRecord x (triple x nonce 1) b c → (h : List Happened) (m : Happened) → m.answer ≡ told
        → Passes (moment_in b r x nonce b h) (moment_in b r x nonce c (h ++ (m ∷ [])))
    unfolding moment
    others_pass were left keeps h m said =
        record {
          gone = λ p j w. inl (still_flies w (step_kept v (left w.copy w.there w.mine)));
          only = λ p j w. still_flies w (old w);
          kept = λ p j w t held. kept_by b c x (triple x nonce 1) v.network keeps p j w t held;
          unmade = unmade;
          silent = λ p. times_not (sends_by x p.switch p.number) h m (ap (sends_by x p.switch p.number) said ∙ sends_is v x p.switch p.number ∙ rw (ne_eqb a.source x other));
        }
      where
        old : {p : Port} {j : ℕ} (w : Flies b.network x c p j) → Memᴰ w.copy (in_flight b)
        old w = ⊎_elim (were w.copy) (λ o. absurd (other (sym (ap (λ (d : Copy). d.source) o.is) ∙ w.mine))) (step_new v w.there)

  -- and no record for A changes
  pub others_keep : (t : ℕ) → found_in b.network c x t ≡ found_in b.network b x t
  others_keep =
      found_stays v inside x
      (bystander_kept (seat_at b k).switch.setup (seat_at b k).switch.table (seat_at b k).cells a (r.shape.seats k inside).formed.table.sized x (λ e. other (sym e)) (λ e. far (sym e)))

-- ---- Nothing happens

-- heads and copies in flight are as before
pub record Unchanged (b c : Bench) : Type 0 where
  pub network : c.network ≡ b.network
  pub up : c.up ≡ b.up
  pub heads : (t : ℕ) → head_at b.network c t ≡ head_at b.network b t
  pub flying : in_flight c ≡ in_flight b

-- as behind a refused event
pub same_bench : {b c : Bench} → c ≡ b → Unchanged b c
same_bench {b} {c} e =
    record { network = ap (λ (b : Bench). b.network) e; up = ap (λ (b : Bench). b.up) e; heads = λ t. ap (λ c. head_at b.network c t) e; flying = ap in_flight e }

-- and behind a link that is set to the state that it has
pub same_link : {b c : Bench} {told : Answer} → bench.Unchanged b (record { bench = c; answer = told }) → Unchanged b c
same_link {b} {c} v = record { network = v.network; up = v.links; heads = λ t. same_head b.network b c t (v.seats t); flying = v.copies }

-- A's frame passes, where the answer says that no port sent it
pub nothing_passes : {b c : Bench} (r : Reached b) (x nonce : ℕ) → Unchanged b c → (h : List Happened) (m : Happened) → ((t p : ℕ) → sends_by x t p m.answer ≡ false)
    → Passes (moment_in b r x nonce b h) (moment_in b r x nonce c (h ++ (m ∷ [])))
unfolding moment
nothing_passes {b} {c} r x nonce v h m said =
    record {
      gone = λ p j w. inl (still_flies w (subst (Memᴰ w.copy) (sym v.flying) w.there));
      only = λ p j w. still_flies w (subst (Memᴰ w.copy) v.flying w.there);
      kept = λ p j w t held. same_held b.network b c (triple x nonce 1) t (v.heads t) ∙ held;
      unmade = λ t free. same_held b.network b c (triple x nonce 1) t (v.heads t) ∙ free;
      silent = λ p. times_not (sends_by x p.switch p.number) h m (said p.switch p.number);
    }
