-- No proviso of the order is idle: for the limit, the cables, room, the records and the start a run without it in which a claim fails. And the two traps of
-- document 01: limits above the diameter don't suffice, and records needn't be shortest. The prover computes these runs.
use Prim.Native.Nat.{ℕ}
use mathlib.Core.Path.{◌≡◌, refl, sym, ap, subst, ◌∙◌}
use mathlib.Core.Logic.{⊎_elim}
use mathlib.Core.Bool.{Bool, true, false, not, ◌&&◌}
use mathlib.Core.List.Memᴰ
use mathlib.Core.List.{List, [], ◌∷◌, ◌++◌, Memᴰ}
use native.Mathlib.Omega.{arith}
use lib.Dec.{eqb}
use lib.ListN.{replicate}
use borrow.Author.Tests.{both_ways, eq-eqb, not-true}
use Rattle.std.proofs.lemmas.Bool.{and_parts}
use Rattle.std.proofs.lemmas.Option.{none-some}
use Rattle.network.specs.declared.Network.{Network}
use Rattle.network.specs.Checks.{network_fault}
use Rattle.std.specs.Prelude.{Some, None}
use Rattle.table.specs.Table.{entry_of, lookup_of}
use Rattle.flight.specs.declared.Copy.{Copy}
use Rattle.event.specs.declared.Event.{Event}
use Rattle.event.specs.declared.Event.TheVariants.{Link, Take}
use Rattle.bench.specs.declared.Bench.{Bench}
use Rattle.counters.specs.History.{State, fresh_state, history_of, run_of}
use Rattle.counters.proofs.Laws.{InRun, fresh_in_run, run_in_run}
use Rattle.bench.specs.Bench as bench
use Rattle.plug_in.specs.Words as words
use Rattle.plug_in.specs.Demand.{NoneFlies, sends}
use Rattle.plug_in.specs.Words.{Cabled, HasRecord, JoinedTo, receives_by, sends_by, times}
use Rattle.plug_in.proofs.Stands.{away, low, mesh, pair, ring, spur, star, trio}
use Rattle.plug_in.proofs.Trying.{all_free, checking, computing, ends, history_tells, leaves, run_ends, tells}

-- ---- The runs; host 0 sends to an address that is no host's

-- the limit: at switch 1 the frame has two hops, above its limit
abbrev pub aged : List Event
aged = sends 0 away ∷ Take 0 ∷ []

-- the cable: it is set down while the only copy is on it, and then up again
abbrev pub parted : List Event
parted = sends 0 away ∷ Link (record { link = 0; state = 0 }) ∷ Link (record { link = 0; state = 1 }) ∷ []

-- room: host 1 has sent 74 frames of seven copies each, of which none was taken, so that 512 are in flight
abbrev pub crowded : List Event
crowded = replicate 74 (sends 1 away) ++ (sends 0 away ∷ [])

-- the record: switch 1 takes host 1's frame, whose triple has the same cell, before the copy that comes from switch 2
abbrev pub forgot : List Event
forgot = sends 0 away ∷ Take 0 ∷ Take 0 ∷ sends 1 away ∷ Take 1 ∷ []

-- a trap: switch 1 takes the copy first that came over switches 3 and 2, so that switch 4's only copy has five hops
abbrev pub detour : List Event
detour = sends 0 away ∷ Take 1 ∷ Take 1 ∷ Take 1 ∷ Take 2 ∷ Take 0 ∷ Take 0 ∷ []

-- a trap: so it does here, and switch 4 records the way over switches 5 and 3, of four hops; over switch 1 it has three
abbrev pub longer : List Event
longer = sends 0 away ∷ Take 1 ∷ Take 1 ∷ Take 2 ∷ Take 1 ∷ Take 3 ∷ Take 0 ∷ Take 0 ∷ Take 0 ∷ Take 0 ∷ []

-- the start: hosts 0 and 1 have sent before, so that host 0's next frame, to host 1's address, goes there alone
abbrev pub before : List Event
before = sends 0 away ∷ Take 0 ∷ sends 1 away ∷ Take 0 ∷ []

abbrev pub known : List Event
known = sends 0 (record { b0 = 0; b1 = 0; b2 = 0; b3 = 0; b4 = 0; b5 = 4 }) ∷ Take 0 ∷ []

-- ---- What is computed

record Accepted : Type 0 where
  pub pair : network_fault pair ≡ 0
  pub low : network_fault low ≡ 0
  pub trio : network_fault trio ≡ 0
  pub ring : network_fault ring ≡ 0
  pub star : network_fault star ≡ 0
  pub spur : network_fault spur ≡ 0
  pub mesh : network_fault mesh ≡ 0

accepted : Accepted
unfolding pair low trio ring star spur mesh checking
accepted = record { pair = refl; low = refl; trio = refl; ring = refl; star = refl; spur = refl; mesh = refl }

-- no copy of a list is from host 0
unfoldable none_flying : List Copy → Bool
none_flying [] = true
none_flying (c ∷ cs) = not (eqb c.source 2) && none_flying cs

-- a run of events that all take effect, after which no copy of the frame is in flight and switch k, which is joined to host 0's by live cables, has no record
record Left (n : Network) (es : List Event) (k : ℕ) : Type 0 where
  pub free : all_free (fresh_state n) es ≡ true
  pub quiet : none_flying (bench.in_flight (ends (fresh_state n) es).bench) ≡ true
  pub joined : JoinedTo (ends (fresh_state n) es).bench 0 k
  pub absent : lookup_of (bench.seat_at (ends (fresh_state n) es).bench k).switch.table 2 ≡ None

record Computed : Type 0 where
  pub aged_left : Left low aged 1
  pub parted_left : Left pair parted 1
  pub crowded_left : Left star crowded 1
  pub detour_left : Left spur detour 4
  pub forgot_free : all_free (fresh_state ring) forgot ≡ true
  pub forgot_twice : times (sends_by 2 1 0) (tells (fresh_state ring) forgot) ≡ 2
  pub before_free : all_free (fresh_state trio) before ≡ true
  pub known_free : all_free (ends (fresh_state trio) before) known ≡ true
  pub known_quiet : none_flying (bench.in_flight (ends (ends (fresh_state trio) before) known).bench) ≡ true
  pub known_none : times (receives_by 2 2) (tells (ends (fresh_state trio) before) known) ≡ 0
  pub longer_free : all_free (fresh_state mesh) longer ≡ true
  pub longer_quiet : none_flying (bench.in_flight (ends (fresh_state mesh) longer).bench) ≡ true
  pub longer_entry : lookup_of (bench.seat_at (ends (fresh_state mesh) longer).bench 4).switch.table 2 ≡ Some (entry_of 1 4)
  pub shorter : Cabled (ends (fresh_state mesh) longer).bench 0 1
  pub shorter_on : Cabled (ends (fresh_state mesh) longer).bench 1 4

computed : Computed
unfolding pair low trio ring star spur mesh all_free ends leaves tells none_flying words.times computing
computed =
    record {
      aged_left = record { free = refl; quiet = refl; joined = words.over words.here (record { near = record { link = 0; second = false }; there = omega arith; live = refl; from = refl; to = refl }); absent = refl };
      parted_left = record { free = refl; quiet = refl; joined = words.over words.here (record { near = record { link = 0; second = false }; there = omega arith; live = refl; from = refl; to = refl }); absent = refl };
      crowded_left = record { free = refl; quiet = refl; joined = words.over words.here (record { near = record { link = 0; second = false }; there = omega arith; live = refl; from = refl; to = refl }); absent = refl };
      detour_left = record {
        free = refl;
        quiet = refl;
        joined = words.over (words.over words.here (record { near = record { link = 0; second = false }; there = omega arith; live = refl; from = refl; to = refl })) (record { near = record { link = 3; second = false }; there = omega arith; live = refl; from = refl; to = refl });
        absent = refl;
      };
      forgot_free = refl;
      forgot_twice = refl;
      before_free = refl;
      known_free = refl;
      known_quiet = refl;
      known_none = refl;
      longer_free = refl;
      longer_quiet = refl;
      longer_entry = refl;
      shorter = record { near = record { link = 0; second = false }; there = omega arith; live = refl; from = refl; to = refl };
      shorter_on = record { near = record { link = 3; second = false }; there = omega arith; live = refl; from = refl; to = refl };
    }

-- ---- The claims that fail

none_flies : (b : Bench) → none_flying (bench.in_flight b) ≡ true → NoneFlies 2 b
unfolding none_flying
none_flies b q w = go (bench.in_flight b) q w.there
  where
    go : (cs : List Copy) → none_flying cs ≡ true → Memᴰ w.copy cs → ⊥
    go [] q m = Memᴰ.not-nil m
    go (c ∷ cs) q m =
        let p = and_parts (not (eqb c.source 2)) (none_flying cs) q in
        ⊎_elim (λ e. both_ways _ (not-true _ p.0) (eq-eqb c.source 2 (sym (ap (λ (d : Copy). d.source) e) ∙ w.mine))) (go cs p.1) (Memᴰ.cases_cons m)

-- no copy of the frame is in flight, and a switch that is joined to host 0's by live cables has no record
pub record Misses (b : Bench) (k : ℕ) : Type 0 where
  pub quiet : NoneFlies 2 b
  pub joined : JoinedTo b 0 k
  pub unknown : HasRecord 2 b k → ⊥

misses : (n : Network) → network_fault n ≡ 0 → (es : List Event) (k : ℕ) → Left n es k → Misses (run_of (fresh_state n) es).bench k
misses n fine es k v =
    subst (λ (s : State). Misses s.bench k) (sym (run_ends (fresh_in_run n fine) es v.free))
    (record { quiet = none_flies (ends (fresh_state n) es).bench v.quiet; joined = v.joined; unknown = λ r. none-some _ (sym v.absent ∙ r.found) })

-- the limit one less than the number of switches
pub aged_misses : Misses (run_of (fresh_state low) aged).bench 1
aged_misses = misses low accepted.low aged 1 computed.aged_left

-- a cable that changes
pub parted_misses : Misses (run_of (fresh_state pair) parted).bench 1
parted_misses = misses pair accepted.pair parted 1 computed.parted_left

-- no room for the copy
pub crowded_misses : Misses (run_of (fresh_state star) crowded).bench 1
crowded_misses = misses star accepted.star crowded 1 computed.crowded_left

-- limits above the diameter, but below the number of switches
pub detour_misses : Misses (run_of (fresh_state spur) detour).bench 4
detour_misses = misses spur accepted.spur detour 4 computed.detour_left

-- a record overwritten: the port of host 1 sends the frame twice
pub forgot_twice : times (sends_by 2 1 0) (history_of (fresh_state ring) forgot) ≡ 2
forgot_twice = ap (times (sends_by 2 1 0)) (history_tells (fresh_in_run ring accepted.ring) forgot computed.forgot_free) ∙ computed.forgot_twice

-- a sender that is known: no copy of its frame is in flight, and host 2 has received none
pub record Unheard (s : State) : Type 0 where
  pub quiet : NoneFlies 2 (run_of s known).bench
  pub none : times (receives_by 2 2) (history_of s known) ≡ 0

pub known_unheard : Unheard (run_of (fresh_state trio) before)
known_unheard = subst Unheard (sym start) (record {
  quiet = subst (λ (s : State). NoneFlies 2 s.bench) (sym (run_ends in_run known computed.known_free)) (none_flies (ends (ends (fresh_state trio) before) known).bench computed.known_quiet);
  none = ap (times (receives_by 2 2)) (history_tells in_run known computed.known_free) ∙ computed.known_none;
})
  where
    start : run_of (fresh_state trio) before ≡ ends (fresh_state trio) before
    start = run_ends (fresh_in_run trio accepted.trio) before computed.before_free

    in_run : InRun (ends (fresh_state trio) before)
    in_run = subst InRun start (run_in_run (fresh_in_run trio accepted.trio) before)

-- a record that isn't shortest: in the end switch 4 names its port to switch 5, with four hops, though two cables lead to host 0's switch
pub record NotShortest (b : Bench) : Type 0 where
  pub quiet : NoneFlies 2 b
  pub entry : lookup_of (bench.seat_at b 4).switch.table 2 ≡ Some (entry_of 1 4)
  pub first : Cabled b 0 1
  pub second : Cabled b 1 4

pub longer_way : NotShortest (run_of (fresh_state mesh) longer).bench
longer_way =
    subst (λ (s : State). NotShortest s.bench) (sym (run_ends (fresh_in_run mesh accepted.mesh) longer computed.longer_free))
    (record { quiet = none_flies (ends (fresh_state mesh) longer).bench computed.longer_quiet; entry = computed.longer_entry; first = computed.shorter; second = computed.shorter_on })
