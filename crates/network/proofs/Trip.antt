-- The round trips of specs/RoundTrip: record by record there and back, then the network that the records build.
use Prim.Native.Nat.{ℕ, zero, suc, ◌+◌, ◌<◌, ◌≤◌, ◌^◌}
use mathlib.Core.Path.{◌≡◌, refl, sym, ap, ◌∙◌}
use mathlib.Core.Bool.{Bool, true, false, cond, not}
use mathlib.Core.List.{List, [], ◌∷◌, ◌++◌, append_assoc, append-nil}
use native.Mathlib.Nat.{add-zero, add_assoc}
use native.Mathlib.Numerals.{one-add}
use native.Mathlib.Omega.{arith}
use lib.ListN.{length, get_or, take, drop, length-append}
use lib.Seq.{drop-append_seam, take-append_seam, drop-cons}
use lib.Dec.{eqb, ltb, leb}
use borrow.Author.Tests.{eq-eqb, ne_eqb, le-ltb, leb-false, eqb-true, eqb-false, not-false}
use Rattle.wire.specs.Wire.{AreBytes}
use Rattle.network.specs.declared.Network.{Network}
use Rattle.network.specs.declared.Record.{Record}
use Rattle.network.specs.declared.Record.TheVariants.{Switch as OfSwitch, Host as OfHost, Link as OfLink}
use Rattle.std.specs.Prelude.{Ok, Err, Some, None}
use Rattle.network.specs.Network.{empty_network, records, add, built}
use Rattle.network.specs.Format.{Start, encode, start_of}
use Rattle.network.specs.Checks.{switch_out, out_of_range, stands, record_fault, records_fault, network_fault}
use Rattle.network.specs.Describe.{Scan, scanned, scan, scan_of, versionless, read_fault, read_end, read_network, encode_all, image}
use Rattle.network.specs.RoundTrip.{WrittenReadsBack, EventsBehind, ReadWritesBack, ReadsCleared}
use Rattle.network.proofs.Bytes.{neither, Fits, there, back, bytes_drop, encode_least}
use Rattle.network.proofs.Faults.{passes, none_here, none_behind}
use Rattle.network.proofs.Writing.{image_long}
use Rattle.network.proofs.Built.{built_records, built_cleared, counted}

-- a record without a fault fits its bytes
fits : (n : Network) (r : Record) → record_fault n r ≡ 0 → Fits r
unfolding out_of_range switch_out
fits n (OfSwitch s) e =
    let out = (passes n (OfSwitch s) e).range in
    leb-false (2 ^ 32) s.salt
    (neither (leb (2 ^ 32) s.salt) (ltb s.ports 1)
    (neither _ (ltb 8 s.ports) (neither _ (ltb 62 s.limit) out).0).0).0
fits n (OfHost h) e = leb-false (2 ^ 48) h.address (neither (not (stands n h.port)) (leb (2 ^ 48) h.address) (passes n (OfHost h) e).range).1
fits n (OfLink l) e = tt

-- the bytes of records without a fault are scanned as these records, up to what ends the description
scan_there : (rs : List Record) (n : Network) (turns at : ℕ) (t : List ℕ) → records_fault n rs ≡ 0 → start_of t ≡ Ok None → length (encode_all rs ++ t) < turns
    → scan turns at (encode_all rs ++ t) ≡ record { found = rs; end = at + length (encode_all rs); whole = true }
unfolding scan encode_all
scan_there rs n zero at t e p h = absurd (omega arith)
scan_there [] n (suc turns) at t e p h = rw (p, add-zero at)
scan_there (r ∷ rs) n (suc turns) at t e p h =
    let fine = none_here n r rs e in
    let more = scan_there rs (add n r) turns (at + length (encode r)) t (none_behind n r rs e) p
    (omega (arith, encode_least r, length-append (encode r ++ encode_all rs) t, length-append (encode r) (encode_all rs), length-append (encode_all rs) t)) in
    rw (
      append_assoc (encode r) (encode_all rs) t,
      there r (encode_all rs ++ t) (fits n r fine),
      drop-append_seam (encode r) (encode_all rs ++ t),
      more,
      length-append (encode r) (encode_all rs),
      add_assoc at (length (encode r)) (length (encode_all rs)),
    )

pub events_behind : EventsBehind
unfolding network_fault read_fault read_end read_network versionless scan_of image
events_behind n events e p h =
    let s : scan (suc (length (image n ++ events))) 1 (encode_all (records n) ++ events) ≡ record { found = records n; end = 1 + length (encode_all (records n)); whole = true } =
    scan_there (records n) empty_network (suc (length (image n ++ events))) 1 events e p (omega arith) in
    let fine : read_fault (image n ++ events) ≡ 0 = rw (le-ltb 60000 (length (image n ++ events)) h, ne_eqb (length (image n ++ events)) 0 (λ z. omega arith), s, e) in
    record {
      accepted = fine;
      ended = ap (λ (x : Scan). x.end) s ∙ one-add (length (encode_all (records n)));
      network = rw fine (ap (λ (x : Scan). built empty_network x.found) s ∙ built_cleared n e);
    }

pub written_reads_back : WrittenReadsBack
unfolding start_of
written_reads_back n e =
    let v = counted n e in
    let same : image n ++ [] ≡ image n = append-nil (image n) in
    let long : length (image n ++ []) ≤ 60000 = rw same (omega (arith, image_long n)) in
    rw same at (events_behind n [] e refl long)

-- the bytes that were scanned are those of the records found
record Scanned (at : ℕ) (b : List ℕ) (s : Scan) : Type 0 where
  behind : List ℕ
  bytes : b ≡ encode_all s.found ++ behind
  end : s.end ≡ at + length (encode_all s.found)

scan_back : (turns at : ℕ) (b : List ℕ) → AreBytes b → Scanned at b (scan turns at b)
unfolding scan encode_all
scan_back zero at b h = record { behind = b; bytes = refl; end = sym (add-zero at) }
scan_back (suc turns) at b h = by_start (start_of b) refl (λ r. scan_back turns (at + length (encode r)) (drop (length (encode r)) b) (bytes_drop (length (encode r)) b h))
  where
    behind : Record → Scan
    behind r = scan turns (at + length (encode r)) (drop (length (encode r)) b)

    by_start : (p : Start) → start_of b ≡ p → ((r : Record) → Scanned (at + length (encode r)) (drop (length (encode r)) b) (behind r)) → Scanned at b (scanned p at behind)
    by_start (Ok None) q go = record { behind = b; bytes = refl; end = sym (add-zero at) }
    by_start (Err f) q go = record { behind = b; bytes = refl; end = sym (add-zero at) }
    by_start (Ok (Some r)) q go =
        record {
          behind = (go r).behind;
          bytes =
              sym (back b r h q)
              ∙ ap (λ l. encode r ++ l) (go r).bytes
              ∙ sym (append_assoc (encode r) (encode_all (behind r).found) (go r).behind);
          end = (go r).end ∙ rw (length-append (encode r) (encode_all (behind r).found)) (add_assoc at (length (encode r)) (length (encode_all (behind r).found)));
        }

-- what an accepted input holds
record Accepted (b : List ℕ) : Type 0 where
  version : versionless b ≡ false
  fine : records_fault empty_network (scan_of b).found ≡ 0
  network : read_network b ≡ built empty_network (scan_of b).found

first_zero : (t : Bool) (x y : ℕ) → (x ≡ 0 → ⊥) → cond t x y ≡ 0 → (t ≡ false) × (y ≡ 0)
first_zero true x y h e = absurd (h e)
first_zero false x y h e = (refl, e)

accepted : (b : List ℕ) → read_fault b ≡ 0 → Accepted b
unfolding read_fault read_network
accepted b e =
    let v = first_zero (ltb 60000 (length b)) 25 _ (λ z. omega arith) e in
    let w = first_zero (versionless b) 21 _ (λ z. omega arith) v.1 in
    record { version = w.0; fine = none (records_fault empty_network (scan_of b).found) _ w.1; network = rw (eq-eqb (read_fault b) 0 e) }
  where
    none : (x y : ℕ) → cond (not (eqb x 0)) x y ≡ 0 → x ≡ 0
    none x y q = by_test (eqb x 0) refl q
      where
        by_test : (t : Bool) → eqb x 0 ≡ t → cond (not t) x y ≡ 0 → x ≡ 0
        by_test true p q = eqb-true x 0 p
        by_test false p q = q

accepted_records : (b : List ℕ) → read_fault b ≡ 0 → records (read_network b) ≡ (scan_of b).found
accepted_records b e = let v = accepted b e in ap records v.network ∙ built_records (scan_of b).found v.fine

pub read_fine : (b : List ℕ) → read_fault b ≡ 0 → network_fault (read_network b) ≡ 0
unfolding network_fault
read_fine b e = rw (accepted_records b e) (accepted b e).fine

pub reads_cleared : ReadsCleared
reads_cleared b e =
    sym ((accepted b e).network
    ∙ ap (λ rs. built empty_network rs) (sym (accepted_records b e))
    ∙ built_cleared (read_network b) (read_fine b e))

-- the version byte in front
with_version : (b : List ℕ) → versionless b ≡ false → b ≡ 1 ∷ drop 1 b
unfolding versionless
with_version b h =
    let v = neither (eqb (length b) 0) (not (eqb (get_or b 0 0) 1)) h in
    let some : length b ≡ 0 → ⊥ = eqb-false (length b) 0 v.0 in
    drop-cons b 0 0 (omega arith) ∙ rw (eqb-true (get_or b 0 0) 1 (not-false _ v.1))

pub read_writes_back : ReadWritesBack
unfolding read_end scan_of image
read_writes_back b h e =
    let v = scan_back (suc (length b)) 1 (drop 1 b) (bytes_drop 1 b h) in
    let rs = (scan (suc (length b)) 1 (drop 1 b)).found in
    let whole : b ≡ 1 ∷ (encode_all rs ++ v.behind) = with_version b (accepted b e).version ∙ ap (λ l. 1 ∷ l) v.bytes in
    (read_fine b e, rw (accepted_records b e, v.end, one-add) (ap (λ l. 1 ∷ l) (sym (take-append_seam (encode_all rs) v.behind)) ∙ ap (λ l. take (suc (length (encode_all rs))) l) (sym whole)))
