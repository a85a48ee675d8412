-- The reader's loop: what was found makes the network so far, and what is left decides the rest.
use Prim.Native.Nat.{ℕ, zero, suc, ◌+◌, ◌-◌, ◌<◌, ◌≤◌}
use mathlib.Core.Path.{◌≡◌, refl, sym, ap, ◌∙◌}
use mathlib.Core.Bool.{true, false, not}
use mathlib.Core.List.{List, [], ◌∷◌}
use native.Mathlib.Omega.{arith}
use lib.ListN.{length, get_or, drop, length-drop}
use lib.Seq.{drop-drop}
use borrow.Author.Tests.{ne_eqb, lt-ltb, le-ltb, eqb-false}
use lib.Dec.{eqb}
use Rattle.refusal.specs.Number.{number_of}
use Rattle.refusal.specs.Refusal.{when, first}
use Rattle.network.specs.declared.Network.{Network}
use Rattle.network.specs.declared.Record.{Record}
use Rattle.std.specs.Prelude.{Ok, Err, Some, None}
use Rattle.refusal.specs.declared.Refusal.{Refusal}
use Rattle.network.specs.Network.{empty_network, add, built}
use Rattle.network.specs.Format.{Start, encode, start_of}
use Rattle.network.specs.Checks.{checked, record_fault, records_fault}
use Rattle.network.specs.Describe.{Scan, scanned, scan, scan_of, versionless, read_fault, read_end, read_network}
use Rattle.network.proofs.Bytes.{neither, none_is, starts_room, encode_least}
use Rattle.network.proofs.Faults.{some, fault_here, fault_behind}

-- what is left to be decided of a scan behind a network
abbrev left_fault : Network → Scan → ℕ
left_fault n s = first (checked (records_fault n s.found) ∷ when 20 (not s.whole) ∷ [])

-- the records up to a place made the network so far
pub record Reading (b : List ℕ) (n : Network) (at : ℕ) : Type 0 where
  pub within : at ≤ length b
  pub turns : ℕ
  pub enough : length b < at + turns
  pub fault : read_fault b ≡ left_fault n (scan turns at (drop at b))
  pub end : read_end b ≡ (scan turns at (drop at b)).end
  pub network : built empty_network (scan_of b).found ≡ built n (scan turns at (drop at b)).found

-- the description is accepted, ends here and has this network
pub record Ends (b : List ℕ) (n : Network) (at : ℕ) : Type 0 where
  pub fine : read_fault b ≡ 0
  pub here : read_end b ≡ at
  pub network : n ≡ read_network b

module _ (b : List ℕ) where
  pub too_long : 60000 < length b → read_fault b ≡ 25
  unfolding read_fault
  too_long h = rw (lt-ltb 60000 (length b) h)

  module _ (fits : length b ≤ 60000) where
    pub no_version : versionless b ≡ true → read_fault b ≡ 21
    unfolding read_fault
    no_version h = rw (le-ltb 60000 (length b) fits, h)

    pub reading_starts : versionless b ≡ false → {n : Network} → n ≡ empty_network → Reading b n 1
    unfolding read_fault read_end scan_of versionless
    reading_starts version e =
        record {
          within = some version;
          turns = suc (length b);
          enough = omega arith;
          fault = rw (le-ltb 60000 (length b) fits, version, e);
          end = refl;
          network = rw e;
        }
      where
        some : versionless b ≡ false → 1 ≤ length b
        some h = let none = eqb-false (length b) 0 (neither (eqb (length b) 0) (not (eqb (get_or b 0 0) 1)) h).0 in omega arith

-- one turn
turn : (turns at : ℕ) (b : List ℕ) → 0 < turns → {p : Start} → start_of b ≡ p
    → scan turns at b ≡ scanned p at (λ r. scan (turns - 1) (at + length (encode r)) (drop (length (encode r)) b))
unfolding scan
turn zero at b h e = absurd (omega arith)
turn (suc turns) at b h e = rw (e, less turns)
  where
    less : (t : ℕ) → suc t - 1 ≡ t
    less t = omega arith

module _ {b : List ℕ} {n : Network} {at : ℕ} (v : Reading b n at) where
  now_at : {p : Start} → start_of (drop at b) ≡ p
      → scan v.turns at (drop at b) ≡ scanned p at (λ r. scan (v.turns - 1) (at + length (encode r)) (drop (length (encode r)) (drop at b)))
  now_at q = turn v.turns at (drop at b) (omega arith) q

  -- where the description ends, nothing is faulty, and all of it is read
  pub reading_ends : start_of (drop at b) ≡ Ok None → Ends b n at
  unfolding records_fault built read_network
  reading_ends q =
      let fine : read_fault b ≡ 0 = v.fault ∙ rw (now_at q) in
      record { fine = fine; here = v.end ∙ rw (now_at q); network = rw (fine) (sym (v.network ∙ rw (now_at q))) }

  pub reading_bad : {f : Refusal} → start_of (drop at b) ≡ Err f → read_fault b ≡ number_of f
  unfolding records_fault
  reading_bad {f} q = v.fault ∙ rw (now_at q) (sym (ap number_of (none_is (drop at b) f q)))

  module _ {r : Record} (q : start_of (drop at b) ≡ Ok (Some r)) where
    pub reading_fault : (f : Refusal) → number_of f ≡ record_fault n r → read_fault b ≡ number_of f
    reading_fault f p =
        let h : record_fault n r ≡ 0 → ⊥ = λ z. some f (p ∙ z) in
        v.fault ∙ rw (now_at q, fault_here n r _ h, ne_eqb (record_fault n r) 0 h) (sym p)

    pub reading_room : at + length (encode r) ≤ length b
    reading_room = omega (arith, v.within, starts_room (drop at b) r q, length-drop at b)

    pub reading_falls : length b - (at + length (encode r)) < length b - at
    reading_falls = omega (arith, reading_room, encode_least r)

    pub reading_next : record_fault n r ≡ 0 → {more : Network} {size : ℕ} → more ≡ add n r → size ≡ length (encode r) → Reading b more (at + size)
    unfolding built
    reading_next h p s =
        rw (p, s)
        record {
          within = reading_room;
          turns = v.turns - 1;
          enough = omega (arith, v.enough, reading_room, encode_least r);
          fault = v.fault ∙ rw (now_at q, fault_behind n r _ h, drop-drop (length (encode r)) at b);
          end = v.end ∙ rw (now_at q, drop-drop (length (encode r)) at b);
          network = v.network ∙ rw (now_at q, drop-drop (length (encode r)) at b);
        }
