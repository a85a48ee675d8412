-- What a triple's bytes say.
use Rattle.std.proofs.Common.{◌≡◌, ℕ, ◌^◌, ◌<◌, false, ◌≢◌, List, length, get_or, sym, ap, ◌∙◌, mod-eq_of_lt}
use Rattle.wire.specs.Wire.{number, number_after, part, bytes_of}
use Rattle.wire.proofs.Laws.{written_back}
use Rattle.filter.specs.Filter.{zeros, empty}
use Rattle.wire.specs.Address.{group_bit}
use Rattle.filter.specs.Triple.{width, triple, source_in, Triple}
use Rattle.filter.proofs.Bytes.{refuted, empty_true}

-- a source that is neither zero nor group, and an L of 0 or 1
module _ (source nonce l : ℕ) (below : source < 2 ^ 48) where
  source_back : source_in (triple source nonce l) ≡ source
  source_back = written_back 6 source ∙ mod-eq_of_lt below

  pub is_triple : source ≢ 0 → group_bit source ≡ 0 → l < 2 → Triple (triple source nonce l)
  is_triple some single bit = record { nonzero = rw source_back some; single = rw source_back single; l = bit }

-- a number's bytes are its own
bytes_apart : (k : ℕ) {a b : ℕ} → a < 256 ^ k → b < 256 ^ k → bytes_of k a ≡ bytes_of k b → a ≡ b
bytes_apart k {a} {b} small_a small_b e = sym (mod-eq_of_lt small_a) ∙ sym (written_back k a) ∙ ap number e ∙ written_back k b ∙ mod-eq_of_lt small_b

pub sources_apart : {a b : ℕ} → a < 2 ^ 48 → b < 2 ^ 48 → bytes_of 6 a ≡ bytes_of 6 b → a ≡ b
sources_apart = bytes_apart 6

pub triples_apart :
    {a b m n j k : ℕ} → a < 2 ^ 48 → b < 2 ^ 48 → m < 2 ^ 24 → n < 2 ^ 24 → triple a m j ≡ triple b n k → (a ≡ b) × (m ≡ n) × (j ≡ k)
triples_apart small_a small_b small_m small_n e =
    (bytes_apart 6 small_a small_b (ap (part 0 6) e), bytes_apart 3 small_m small_n (ap (part 6 3) e), ap (λ t. get_or t 9 0) e)

-- a triple's source is not zero, so it is no empty cell
pub triple_some : {c : List ℕ} → length c ≡ width → Triple c → empty c ≡ false
unfolding number number_after
triple_some {c} long t = refuted (empty c) λ e. let all : c ≡ zeros 10 = rw long at (empty_true c e) in t.nonzero (rw all)

-- a source's bytes are not all zero
pub source_some : {source : ℕ} → source < 2 ^ 48 → source ≢ 0 → empty (bytes_of 6 source) ≡ false
unfolding number number_after
source_some {source} below some = refuted (empty (bytes_of 6 source)) λ e. some (sym (mod-eq_of_lt below) ∙ sym (written_back 6 source) ∙ ap number (empty_true (bytes_of 6 source) e))
