-- The bench through the door: beside its network's three arrays it is lent as the four of `layout`, with the counters as 7 numbers and the report as
-- 15. A bench, counters or a report of wrong length is out of shape, 28.
use Rattle.std.specs.Prelude.{ℕ, ◌≡◌, Bool, cond, ◌&&◌, List, [], ◌∷◌, Ok, Err, eqb, get_or}
use Rattle.refusal.specs.Refusal.{leaves}
use Rattle.network.specs.declared.Network.{Network}
use Rattle.network.specs.Checks.{network_fault}
use Rattle.filter.specs.Filter.{zeros}
use Rattle.event.specs.declared.Event.{Event}
use Rattle.event.specs.Event.{bad_event, event_in}
use Rattle.turn.specs.declared.Done.TheVariants.{Stepped, Linked}
use Rattle.turn.specs.Turn.{Answer, report_values}
use Rattle.bench.specs.declared.Bench.{Bench}
use Rattle.bench.specs.Bench.{fresh_bench}
use Rattle.bench.specs.Events.{event_of}
use Rattle.counters.specs.declared.Counters.{Counters}
use Rattle.counters.specs.Counters.{counted}
use Rattle.counters.specs.Event.{event_refusal}
use Rattle.layout.specs.Layout.{bench_bytes, bench_fits, bench_wides, seat_masks, seat_words}

-- what a call that is refused with r, or not for 0, leaves in a bench's arrays: where it isn't refused, this bench
pub record BenchLent (r : ℕ) (x : Bench) (b m w v b' m' w' v' : List ℕ) : Type 0 where
  pub bytes : b' ≡ leaves r b (bench_bytes x)
  pub masks : m' ≡ leaves r m (seat_masks x.seats)
  pub words : w' ≡ leaves r w (seat_words x.seats)
  pub wides : v' ≡ leaves r v (bench_wides x)

-- ---- Fresh

-- 20 for a network of wrong length, 28 for a bench of wrong length, then what the writer would refuse the network with
unfoldable pub fresh_refusal : Bool → Bool → Network → ℕ
fresh_refusal network bench n = cond network (cond bench (network_fault n) 28) 20

-- what making a bench fresh returns, r being its refusal, and leaves in the bench's arrays
pub record FreshensBench (r : ℕ) (n : Network) (b m w v : List ℕ) (returned : ℕ) (b' m' w' v' : List ℕ) : Type 0 where
  pub number : returned ≡ r
  pub bench : BenchLent r (fresh_bench n) b m w v b' m' w' v'

-- ---- Event

-- the counters as 7 numbers, in document 01's order
abbrev pub counter_size : ℕ
counter_size = 7

abbrev pub counters_in : List ℕ → Counters
counters_in l =
    record {
      placed = get_or l 0 0;
      taken = get_or l 1 0;
      cut = get_or l 2 0;
      lost = get_or l 3 0;
      delivered = get_or l 4 0;
      overwritten = get_or l 5 0;
      accepted = get_or l 6 0;
    }

abbrev pub counter_values : Counters → List ℕ
counter_values c = c.placed ∷ c.taken ∷ c.cut ∷ c.lost ∷ c.delivered ∷ c.overwritten ∷ c.accepted ∷ []

-- a report as 15: copies cut, then the numbers of the step's report. A link's setting has no step: K for the letter, and the others 0
abbrev pub event_size : ℕ
event_size = 15

abbrev pub event_numbers : Answer → List ℕ
event_numbers (Err r) = zeros event_size
event_numbers (Ok (Stepped r)) = 0 ∷ report_values r
event_numbers (Ok (Linked cut)) = cut ∷ 0 ∷ 0 ∷ 0 ∷ 0 ∷ 0 ∷ 0 ∷ 0 ∷ 0 ∷ 0x4B ∷ 0 ∷ 0 ∷ 0 ∷ 0 ∷ 0 ∷ []

-- bench, counters and report have their lengths
unfoldable pub event_fits : ℕ → ℕ → ℕ → ℕ → ℕ → ℕ → Bool
event_fits bytes masks words wides counters report = eqb counters counter_size && eqb report event_size && bench_fits bytes masks words wides

-- 20 for a network of wrong length, 28 for bench, counters or report of wrong length, 20 for a bad record, then what the event is refused for
unfoldable pub happen_refusal : Bool → Bool → Bench → Counters → List ℕ → ℕ
happen_refusal network bench x c input = cond network (cond bench (cond (bad_event input) 20 (event_refusal x c (event_in input))) 28) 20

-- what an event returns, r being its refusal, and leaves in all that is lent
pub record HappensLent (r : ℕ) (x : Bench) (e : Event) (c : Counters) (b m w v cs ns : List ℕ) (returned : ℕ) (b' m' w' v' cs' ns' : List ℕ) : Type 0 where
  pub number : returned ≡ r
  pub bench : BenchLent r (event_of x e).bench b m w v b' m' w' v'
  pub counters : cs' ≡ leaves r cs (counter_values (counted c e (event_of x e).answer))
  pub report : ns' ≡ leaves r ns (event_numbers (event_of x e).answer)
