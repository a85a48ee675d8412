-- Document 01, "The bench": the seven counters, what an event adds to each, and their part of refusal 28.
use Rattle.std.specs.Prelude.{ℕ, ◌+◌, ◌*◌, ◌≤◌, ◌<◌, ◌≡◌, Bool, ◌&&◌, Ok, Err, eqb, leb}
use Rattle.std.specs.Int.Count.{ones}
use Rattle.frame.specs.Header.{bit}
use Rattle.event.specs.declared.Event.{Event}
use Rattle.event.specs.declared.Event.TheVariants.{Present, Take, Link}
use Rattle.turn.specs.declared.Done.TheVariants.{Stepped, Linked}
use Rattle.turn.specs.Turn.{Answer}
use Rattle.counters.specs.declared.Counters.{Counters}

-- ---- What one event adds, by its answer

-- copies that joined the list
abbrev pub placed_by : Answer → ℕ
placed_by (Err n) = 0
placed_by (Ok (Stepped r)) = r.placed
placed_by (Ok (Linked cut)) = 0

-- a step takes a copy out where its event is a taking
abbrev pub taken_at : Event → ℕ
taken_at (Present e) = 0
taken_at (Take place) = 1
taken_at (Link e) = 0

-- the copy that was taken out
abbrev pub taken_by : Event → Answer → ℕ
taken_by e (Err n) = 0
taken_by e (Ok (Stepped r)) = taken_at e
taken_by e (Ok (Linked cut)) = 0

-- copies on a link that was set down
abbrev pub cut_by : Answer → ℕ
cut_by (Err n) = 0
cut_by (Ok (Stepped r)) = 0
cut_by (Ok (Linked cut)) = cut

-- copies for which there was no room
abbrev pub lost_by : Answer → ℕ
lost_by (Err n) = 0
lost_by (Ok (Stepped r)) = r.lost
lost_by (Ok (Linked cut)) = 0

-- hosts that received
abbrev pub delivered_by : Answer → ℕ
delivered_by (Err n) = 0
delivered_by (Ok (Stepped r)) = ones r.received
delivered_by (Ok (Linked cut)) = 0

-- a step that overwrote a record
abbrev pub overwritten_by : Answer → ℕ
overwritten_by (Err n) = 0
overwritten_by (Ok (Stepped r)) = bit r.overwrote
overwritten_by (Ok (Linked cut)) = 0

-- an event that wasn't refused
abbrev pub accepted_by : Answer → ℕ
accepted_by (Err n) = 0
accepted_by (Ok (Stepped r)) = 1
accepted_by (Ok (Linked cut)) = 1

-- ---- The record of seven

abbrev pub no_counts : Counters
no_counts = record { placed = 0; taken = 0; cut = 0; lost = 0; delivered = 0; overwritten = 0; accepted = 0 }

-- what an event adds to each
unfoldable pub adds : Event → Answer → Counters
adds e a =
    record {
      placed = placed_by a;
      taken = taken_by e a;
      cut = cut_by a;
      lost = lost_by a;
      delivered = delivered_by a;
      overwritten = overwritten_by a;
      accepted = accepted_by a;
    }

-- two records, counter by counter
unfoldable pub plus : Counters → Counters → Counters
plus c d =
    record {
      placed = c.placed + d.placed;
      taken = c.taken + d.taken;
      cut = c.cut + d.cut;
      lost = c.lost + d.lost;
      delivered = c.delivered + d.delivered;
      overwritten = c.overwritten + d.overwritten;
      accepted = c.accepted + d.accepted;
    }

-- each brought up to date
abbrev pub counted : Counters → Event → Answer → Counters
counted c e a = plus c (adds e a)

-- ---- Refusal 28 of counters

-- no counter but placed is above 8 times accepted, and placed is taken plus cut plus those in flight
unfoldable pub counters_fit : ℕ → Counters → Bool
counters_fit flying c =
    leb c.taken (8 * c.accepted)
    && leb c.cut (8 * c.accepted)
    && leb c.lost (8 * c.accepted)
    && leb c.delivered (8 * c.accepted)
    && leb c.overwritten (8 * c.accepted)
    && eqb c.placed (c.taken + c.cut + flying)

-- the same in words
pub record CountersFit (flying : ℕ) (c : Counters) : Type 0 where
  pub taken : c.taken ≤ 8 * c.accepted
  pub cut : c.cut ≤ 8 * c.accepted
  pub lost : c.lost ≤ 8 * c.accepted
  pub delivered : c.delivered ≤ 8 * c.accepted
  pub overwritten : c.overwritten ≤ 8 * c.accepted
  pub balance : c.placed ≡ c.taken + c.cut + flying

-- ---- A word of the code

-- each counter is below a bound, so that sums fit their type
pub record Below (bound : ℕ) (c : Counters) : Type 0 where
  pub placed : c.placed < bound
  pub taken : c.taken < bound
  pub cut : c.cut < bound
  pub lost : c.lost < bound
  pub delivered : c.delivered < bound
  pub overwritten : c.overwritten < bound
  pub accepted : c.accepted < bound
