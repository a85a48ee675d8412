-- A description read into lent arrays, and written from them.
use mathlib.Core.Path.{◌≡◌, refl, ap, ◌∙◌}
use mathlib.Core.Bool.{Bool, true, false, cond, ◌&&◌, and-eq-true_iff}
use mathlib.Core.List.{List, [], ◌∷◌}
use Prim.Native.Nat.{ℕ, zero, suc}
use native.Mathlib.Omega.{arith}
use lib.Dec.{eqb}
use lib.ListN.{length}
use borrow.Author.Tests.{eqb-true, ne_eqb}
use Rattle.refusal.specs.Refusal.{answered, leaves}
use Rattle.refusal.proofs.Laws.{accepted_leaves}
use Rattle.wire.specs.Wire.{put}
use Rattle.network.specs.declared.Network.{Network}
use Rattle.network.specs.Describe.{image, read_end, read_fault, read_network, write_fault, written}
use Rattle.layout.specs.Layout.{HoldsNetwork, LaidNetwork, network_addresses, network_bytes, network_fits, network_salts}
use Rattle.engine_bench.specs.Networks.{ReadsLent, WritesLent, read_refusal, write_refusal}
use Rattle.engine.proofs.Telling.{tells, tells_kept, tells_number, tells_one}

pub fits_network : (b s a : List ℕ) → network_fits (length b) (length s) (length a) ≡ true → HoldsNetwork b s a
fits_network b s a e =
    let first = (and-eq-true_iff (eqb (length b) 355 && eqb (length s) 16) (eqb (length a) 32)).0 e in
    let second = (and-eq-true_iff (eqb (length b) 355) (eqb (length s) 16)).0 first.0 in
    record { bytes = eqb-true _ _ second.0; salts = eqb-true _ _ second.1; addresses = eqb-true _ _ first.1 }

-- written is what was there where the writer refuses
written_leaves : (n : Network) (out : List ℕ) → written n out ≡ leaves (write_fault n (length out)) out (written n out)
unfolding written
written_leaves n out = by_fault (write_fault n (length out))
  where
    by_fault : (k : ℕ) → cond (eqb k 0) (put out 0 (image n)) out ≡ leaves k out (cond (eqb k 0) (put out 0 (image n)) out)
    by_fault zero = refl
    by_fault (suc k) = rw (ne_eqb (suc k) 0 (omega arith))

module _ {fits : Bool} {input b s a : List ℕ} {end : ℕ} where
  pub read_unsized : fits ≡ false
      → ReadsLent (read_refusal fits input) input b s a end 20 b s a end
  unfolding read_refusal
  read_unsized e = rw e (record { number = refl; bytes = refl; salts = refl; addresses = refl; ends = refl })

  pub read_refused : {m : ℕ} → fits ≡ true
      → tells m [] ≡ answered (read_fault input) (read_end input ∷ [])
      → ReadsLent (read_refusal fits input) input b s a end m b s a end
  unfolding read_refusal
  read_refused {m = m} e n =
      let vs : List ℕ = read_end input ∷ [] in
      rw e (record {
        number = tells_number m (read_fault input) vs [] n;
        bytes = tells_kept m (read_fault input) vs b _ (omega arith) n;
        salts = tells_kept m (read_fault input) vs s _ (omega arith) n;
        addresses = tells_kept m (read_fault input) vs a _ (omega arith) n;
        ends = tells_kept m (read_fault input) vs end _ (omega arith) n;
      })

  pub read_done : {at : ℕ} {n : Network} {b' s' a' : List ℕ} → fits ≡ true
      → tells 0 (at ∷ []) ≡ answered (read_fault input) (read_end input ∷ []) → n ≡ read_network input → LaidNetwork n b' s' a'
      → ReadsLent (read_refusal fits input) input b s a end 0 b' s' a' at
  unfolding read_refusal
  read_done {at = at} e z n laid =
      let none : 0 ≡ read_fault input = tells_number 0 (read_fault input) (read_end input ∷ []) (at ∷ []) z in
      rw e (record {
        number = none;
        bytes = laid.bytes ∙ ap network_bytes n ∙ accepted_leaves none refl b _;
        salts = laid.salts ∙ ap network_salts n ∙ accepted_leaves none refl s _;
        addresses = laid.addresses ∙ ap network_addresses n ∙ accepted_leaves none refl a _;
        ends = tells_one (read_fault input) at (read_end input) end z;
      })

module _ {fits : Bool} {n : Network} {out : List ℕ} {long : ℕ} where
  pub write_unsized : fits ≡ false
      → WritesLent (write_refusal fits n (length out)) n out long 20 out long
  unfolding write_refusal
  write_unsized e = rw e (record { number = refl; output = refl; told = refl })

  module _ {out' : List ℕ} (e : fits ≡ true) (o : out' ≡ written n out) where
    pub write_refused : {m : ℕ} → tells m [] ≡ answered (write_fault n (length out)) (length (image n) ∷ [])
        → WritesLent (write_refusal fits n (length out)) n out long m out' long
    unfolding write_refusal
    write_refused {m} z =
        let vs : List ℕ = length (image n) ∷ [] in
        rw e (record {
          number = tells_number m (write_fault n (length out)) vs [] z;
          output = o ∙ written_leaves n out;
          told = tells_kept m (write_fault n (length out)) vs long _ (omega arith) z;
        })

    pub write_done : {at : ℕ} → tells 0 (at ∷ []) ≡ answered (write_fault n (length out)) (length (image n) ∷ [])
        → WritesLent (write_refusal fits n (length out)) n out long 0 out' at
    unfolding write_refusal
    write_done {at} z =
        rw e (record {
          number = tells_number 0 (write_fault n (length out)) _ (at ∷ []) z;
          output = o ∙ written_leaves n out;
          told = tells_one (write_fault n (length out)) at (length (image n)) long z;
        })
