-- The loop over the events of an input: what it has written so far, with the lines of the events to come, is what is to be written.
use Prim.Native.Nat.{ℕ, suc, ◌+◌, ◌*◌, ◌-◌, ◌<◌, ◌≤◌}
use mathlib.Core.Path.{◌≡◌, refl, sym, ap, ap₂, subst, ◌∙◌}
use mathlib.Core.List.{List, [], ◌∷◌, ◌++◌, append_assoc, append-nil}
use native.Mathlib.Omega.{arith}
use lib.ListN.{drop, drop_of_length-le, length, length-append, length-drop, length-set}
use lib.Seq.{drop-drop}
use Rattle.std.specs.Prelude.{Ok, Err}
use Rattle.refusal.specs.declared.Refusal.{Refusal}
use Rattle.wire.specs.Wire.{put}
use Rattle.wire.proofs.Laws.{put_put}
use Rattle.network.specs.declared.Network.{Network}
use Rattle.network.specs.Network.{most_switches}
use Rattle.network.specs.Checks.{network_fault}
use Rattle.network.proofs.Laws.{accepted_is_sound, switches_long}
use Rattle.flight.specs.Flight.{All}
use Rattle.flight.proofs.Laws.{copies_length}
use Rattle.event.specs.declared.Event.{Event}
use Rattle.event.specs.Event.{read_event, size_of}
use Rattle.event.proofs.Laws.{size_range}
use Rattle.lines.specs.declared.Line.{Line}
use Rattle.lines.specs.Lines.{line_of, stop_line}
use Rattle.lines.proofs.Laws.{stop_long}
use Rattle.turn.specs.Turn.{Answer, own_refusal}
use Rattle.turn.proofs.Laws.{can_turn, head_there}
use Rattle.turn.specs.Fits.{CopyFits}
use Rattle.bench.specs.Events.{Happened, happened_as}
use Rattle.counters.specs.declared.Counters.{Counters}
use Rattle.counters.specs.Counters.{no_counts}
use Rattle.counters.specs.History.{State, after, fresh_state, happens_at, run_of}
use Rattle.counters.proofs.Laws.{InRun, event_accepted_in_run, event_in_run, fresh_in_run, run_accepts}
use Rattle.transcript.specs.declared.running.Parts.{Parts}
use Rattle.transcript.specs.Transcript.{line_at, line_for, lines_from, lines_in}
use Rattle.transcript.specs.Running.{Acts, CanAct, CanRun, FreshParts, Ran, copies_of, head_at, refusal_at}
use Rattle.transcript.proofs.Printing.{line_short, lines_bad, lines_got, no_lines}
use Rattle.transcript.proofs.Standing.{bench_on, event_on, flying_on, fresh_stands}

-- the state that a run stands for
abbrev pub state_on : Network → Parts → Counters → State
state_on n p c = record { bench = bench_on n p; counters = c }

-- the run's own state: what it stands for is a state of a run, behind so many events
pub record Stands (n : Network) (p : Parts) (c : Counters) (many : ℕ) : Type 0 where
  pub heads : length p.seats ≡ most_switches
  pub sound : InRun (state_on n p c)
  pub accepted : c.accepted ≤ many

-- what it has written: the lines of those events, which with those to come are all lines
pub record Going (n : Network) (input : List ℕ) (start : ℕ) (out₀ out : List ℕ) (p : Parts) (number at wrote : ℕ) : Type 0 where
  pub counters : Counters
  pub many : ℕ
  pub turns : ℕ
  pub written : List ℕ
  pub stands : Stands n p counters many
  pub numbered : number ≡ many + 1
  pub enough : length input ≤ at + turns
  pub lines : written ++ lines_in turns number (state_on n p counters) (drop at input) ≡ lines_from n input start
  pub output : out ≡ put out₀ 0 written
  pub ended : wrote ≡ length written
  pub read : 5 * many ≤ at
  pub few : many ≤ 12_000
  pub short : wrote ≤ 26 * many

-- an event is accepted or not
accepts_one : (s : State) (e : Event) → (happens_at s e).counters.accepted ≤ s.counters.accepted + 1
unfolding run_of after
accepts_one s e = run_accepts s (e ∷ [])

few_switches : (n : Network) → network_fault n ≡ 0 → n.nswitches ≤ most_switches
few_switches n fine = omega (arith, (accepted_is_sound n fine).few_switches, switches_long n)

-- ---- The bench

module _ {n : Network} {p : Parts} {c : Counters} {many : ℕ} (v : Stands n p c many) (e : Event) where
  described : network_fault n ≡ 0
  unfolding bench_on
  described = v.sound.shape.described

  copies_fit_lem : All (CopyFits n p.up) (copies_of p)
  unfolding bench_on
  copies_fit_lem = subst (λ cs. All (CopyFits n p.up) cs) (flying_on n p) v.sound.shape.copies

  as_many : refusal_at n p e ≡ 0 → own_refusal n (length (copies_of p)) e ≡ 0
  as_many free = ap (λ m. own_refusal n m e) (copies_length p.flight.flying p.flight.words (omega (arith, p.flight.whole, p.flight.few))) ∙ free

  there : refusal_at n p e ≡ 0 → head_at n p e < n.nswitches
  there free = head_there n described p.up (copies_of p) copies_fit_lem e (as_many free)

  -- what an event asks: the head that it concerns is among sixteen
  pub stands_can : CanAct n p e
  stands_can =
      record {
        can = λ free. can_turn n described p.up (copies_of p) copies_fit_lem e (as_many free);
        few = λ free. omega (arith, there free, few_switches n described);
      }

  -- ---- An event is what happens on the bench

  module _ (q : Parts) where
    heads_next : (a : Answer) → Acts n p e a q → length q.seats ≡ most_switches
    heads_next (Ok d) w = ap length w.seats ∙ length-set p.seats (head_at n p e) w.seat ∙ v.heads
    heads_next (Err r) w = ap (λ (x : Parts). length x.seats) w.same ∙ v.heads

    module _ (early : many < 1_000_000) (a : Answer) (acts : Acts n p e a q) where
      happens_on : (happens_at (state_on n p c) e).happened ≡ happened_as (bench_on n q) a
      unfolding bench_on
      happens_on = event_on n p e c (event_accepted_in_run v.sound (omega (arith, v.accepted)) e) a q there (omega (arith, few_switches n described, v.heads)) acts

      pub after_on : after (state_on n p c) e ≡ state_on n q (happens_at (state_on n p c) e).counters
      unfolding after
      after_on = ap (λ (h : Happened). record { bench = h.bench; counters = (happens_at (state_on n p c) e).counters }) happens_on

      pub line_on : (number : ℕ) {l : Line} → l ≡ line_for number e a q.flight.flying → line_of l ≡ line_at number (state_on n p c) e
      unfolding bench_on
      line_on number is = ap line_of (is ∙ ap (λ (h : Happened). line_for number e h.answer h.bench.flying) (sym happens_on))

      pub stands_next : Stands n q (happens_at (state_on n p c) e).counters (many + 1)
      stands_next = record {
        heads = heads_next a acts;
        sound = subst (λ w. InRun w) after_on (event_in_run v.sound e);
        accepted = omega (arith, accepts_one (state_on n p c) e, v.accepted);
      }

-- ---- The output

put_long : (l bs : List ℕ) → length bs ≤ length l → length (put l 0 bs) ≡ length l
put_long l bs h = simp (length-append, length-drop) (omega arith)

-- at first nothing is written
pub going_starts : {n : Network} {input out : List ℕ} {p : Parts} (start : ℕ) → FreshParts p → CanRun n input out → Going n input start out out p 1 start 0
unfolding lines_from
going_starts {n} {input} {out} {p} start v can =
    let fresh : state_on n p no_counts ≡ fresh_state n
    = ap (λ b. record { bench = b; counters = no_counts }) (fresh_stands n v (few_switches n can.accepted)) in
    record {
      counters = no_counts;
      many = 0;
      turns = length input;
      written = [];
      stands = record {
        heads = ap length v.seats;
        sound = subst (λ w. InRun w) (sym fresh) (fresh_in_run n can.accepted);
        accepted = omega arith;
      };
      numbered = refl;
      enough = omega arith;
      lines = ap (λ w. lines_in (length input) 1 w (drop start input)) fresh;
      output = refl;
      ended = refl;
      read = omega arith;
      few = omega arith;
      short = omega arith;
    }

module _ {n : Network} {input : List ℕ} {start : ℕ} {out₀ out : List ℕ} {p : Parts} {number at wrote : ℕ} (can : CanRun n input out₀) (v : Going n input start out₀ out p number at wrote) where
  -- where it stands
  now : State
  now = state_on n p v.counters

  pub out_long : length out ≡ length out₀
  out_long = ap length v.output ∙ put_long out₀ v.written (omega (arith, can.room, can.short))

  -- behind the last event everything is written
  pub going_ends : length input ≤ at → Ran n input start out₀ wrote out
  unfolding now
  going_ends h =
      let none : v.written ≡ lines_from n input start
      = sym (append-nil v.written) ∙ ap (λ l. v.written ++ l) (sym (ap (λ b. lines_in v.turns number now b) (drop_of_length-le input h) ∙ no_lines v.turns number now)) ∙ v.lines in
      record { ends = v.ended ∙ ap length none; output = v.output ∙ ap (λ l. put out₀ 0 l) none }

  -- what is put behind what was written stands with it
  put_behind : {out' : List ℕ} (bs : List ℕ) → wrote + length bs ≤ length out₀ → out' ≡ put out wrote bs → out' ≡ put out₀ 0 (v.written ++ bs)
  put_behind bs room q =
      let end : wrote ≡ 0 + length v.written = omega (arith, v.ended) in
      q ∙ ap₂ (λ l i. put l i bs) v.output end ∙ put_put out₀ 0 v.written bs (omega (arith, v.ended))

  module _ (left : at < length input) where
    -- there is room for a line
    pub going_room : (bs : List ℕ) → length bs ≤ 26 → wrote + length bs ≤ length out
    going_room bs h = omega (arith, out_long, can.room, can.short)

    -- the lines from here on are the first of them and those behind
    on : ℕ
    on = v.turns - 1

    on_is : v.turns ≡ suc on
    unfolding on
    on_is = omega (arith, v.enough)

    more : lines_in v.turns number now (drop at input) ≡ lines_in (suc on) number now (drop at input)
    more = ap (λ t. lines_in t number now (drop at input)) on_is

    some : 1 ≤ length (drop at input)
    some = omega (arith, length-drop at input)

    -- a bad record ends the run
    pub going_stops : {r : Refusal} {out' : List ℕ} {end : ℕ} → read_event (drop at input) ≡ Err r → out' ≡ put out wrote stop_line → end ≡ wrote + length stop_line → Ran n input start out₀ end out'
    unfolding now
    going_stops q put_it ends =
        let all : v.written ++ stop_line ≡ lines_from n input start
        = ap (λ l. v.written ++ l) (sym (more ∙ lines_bad on number now (drop at input) some q)) ∙ v.lines in
        record {
          ends = ends ∙ ap (λ i. i + length stop_line) v.ended ∙ sym (length-append v.written stop_line) ∙ ap length all;
          output = put_behind stop_line (omega (arith, stop_long, can.room, can.short)) put_it ∙ ap (λ l. put out₀ 0 l) all;
        }

    -- an event is read, its line is put, and the run goes on behind its record
    module _ (e : Event) (got : read_event (drop at input) ≡ Ok e) (q : Parts) (a : Answer) (acts : Acts n p e a q) {l : Line} (is_l : l ≡ line_for number e a q.flight.flying) where
      line_here : line_of l ≡ line_at number now e
      unfolding now
      line_here = line_on v.stands e q (omega (arith, v.few)) a acts number is_l

      pub line_fits : length (line_of l) ≤ 26
      unfolding now bench_on
      line_fits =
          let short = line_short number now e (omega (arith, v.numbered, v.few)) p.flight.few in
          omega (arith, short, ap length line_here)

      pub going_next : {out' : List ℕ} {wrote' size number' at' : ℕ} → out' ≡ put out wrote (line_of l) → wrote' ≡ wrote + length (line_of l) → size ≡ size_of e
          → number' ≡ number + 1 → at' ≡ at + size → Going n input start out₀ out' q number' at' wrote'
      unfolding now
      going_next {out'} {wrote'} {size} {number'} {at'} put_it ends sized next moved =
          let then = state_on n q (happens_at now e).counters in
          let is_at : at + size_of e ≡ at' = omega arith in
          let behind : drop (size_of e) (drop at input) ≡ drop at' input = drop-drop (size_of e) at input ∙ ap (λ i. drop i input) is_at in
          let one : lines_in v.turns number now (drop at input) ≡ line_of l ++ lines_in on number' then (drop at' input)
          = more ∙ lines_got on number now (drop at input) some got
          ∙ (λ i. sym line_here i ++ lines_in on (sym next i) (after_on v.stands e q (omega (arith, v.few)) a acts i) (behind i)) in
          record {
            counters = (happens_at now e).counters;
            many = v.many + 1;
            turns = on;
            written = v.written ++ line_of l;
            stands = stands_next v.stands e q (omega (arith, v.few)) a acts;
            numbered = omega (arith, v.numbered);
            enough = omega (arith, v.enough, on_is, (size_range e).0);
            lines = append_assoc v.written (line_of l) (lines_in on number' then (drop at' input)) ∙ ap (λ b. v.written ++ b) (sym one) ∙ v.lines;
            output = put_behind (line_of l) (omega (arith, line_fits, can.room, can.short)) put_it;
            ended = ends ∙ ap (λ i. i + length (line_of l)) v.ended ∙ sym (length-append v.written (line_of l));
            read = omega (arith, (size_range e).0);
            few = omega (arith, can.short);
            short = omega (arith, line_fits);
          }
