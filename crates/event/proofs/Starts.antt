-- What was read as an event is its record: byte by byte the record has what the event says.
use Prim.Native.Nat.{ℕ, zero, suc, ◌+◌, ◌-◌, ◌^◌, ◌≤◌, ◌<◌}
use mathlib.Core.Path.{◌≡◌, refl, sym, ap, ◌∙◌}
use mathlib.Core.List.{List, [], ◌∷◌, ◌++◌}
use native.Mathlib.Omega.{arith}
use lib.ListN.{length, get_or, drop, take, take-append-drop}
use lib.Seq.{get_or-drop, drop-cons}
use Rattle.wire.specs.Wire.{number, bytes_of, part, AreBytes}
use Rattle.wire.proofs.Laws.{number_small, read_back, byte_at}
use Rattle.network.specs.Format.{kind_in, body_in}
use Rattle.event.specs.declared.Event.{Event}
use Rattle.event.specs.Event.{kind_of, event_length, size_of, body_of, encode_event, event_of, event_in}
use Rattle.event.specs.RoundTrip.{Fits, StartsWith}
use Rattle.event.proofs.Records.{Whole, each_kind, known, length_least, kind_back, size_within}

-- the k bytes from a place on, one by one
abbrev places : ℕ → ℕ → List ℕ → List ℕ
places at zero b = []
places at (suc k) b = get_or b at 0 ∷ places (suc at) k b

places_part : (b : List ℕ) (k at : ℕ) → at + k ≤ length b → part at k b ≡ places at k b
places_part b zero at h = refl
places_part b (suc k) at h = rw (drop-cons b at 0 (omega arith)) (ap (λ l. get_or b at 0 ∷ l) (places_part b k (suc at) (omega arith)))

module _ (b : List ℕ) (bytes : AreBytes b) where
  two_fit : (at : ℕ) → at + 2 ≤ length b → number (part at 2 b) < 2 ^ 16
  two_fit at h = rw (places_part b 2 at h) (number_small (places at 2 b) (byte_at b bytes at, (byte_at b bytes (suc at), tt)))

  two_back : (at : ℕ) → at + 2 ≤ length b → bytes_of 2 (number (part at 2 b)) ≡ places at 2 b
  two_back at h = rw (places_part b 2 at h) (read_back (places at 2 b) (byte_at b bytes at, (byte_at b bytes (suc at), tt)))

  body_byte : (j : ℕ) → get_or (body_in b) j 0 < 256
  body_byte j = rw (get_or-drop 3 b j 0) (byte_at b bytes (3 + j))

  body_fits : (kind : ℕ) → (event_length kind ≡ 0 → ⊥) → 5 ≤ length b → Fits (event_of kind (body_in b))
  unfolding event_of
  body_fits =
      each_kind (λ kind. 5 ≤ length b → Fits (event_of kind (body_in b)))
      (λ h. (body_byte 0, (body_byte 1, (body_byte 2, (body_byte 3, (body_byte 4, (body_byte 5, (body_byte 6, tt))))))))
      (λ h. two_fit 3 h)
      (λ h. (body_byte 0, body_byte 1))

  body_back : (kind : ℕ) → (event_length kind ≡ 0 → ⊥) → 5 ≤ length b → body_of (event_of kind (body_in b)) ≡ places 3 (event_length kind - 1) b
  unfolding event_of body_of event_length
  body_back =
      each_kind (λ kind. 5 ≤ length b → body_of (event_of kind (body_in b)) ≡ places 3 (event_length kind - 1) b)
      (λ h. simp get_or-drop)
      (λ h. two_back 3 h)
      (λ h. simp get_or-drop)

  -- what is read as an event starts with its record
  pub starts : Whole b → {e : Event} → e ≡ event_in b → StartsWith b e
  unfolding encode_event size_of
  starts v {e} q =
      let k = kind_in b in
      let some = known v in
      let least = length_least k some in
      let room : 5 ≤ length b = omega (arith, least, v.sized, v.room) in
      let kind : kind_of e ≡ k = ap kind_of q ∙ kind_back (body_in b) k some in
      let size : size_of e ≡ suc (suc (suc (event_length k - 1))) = omega (arith, ap event_length kind) in
      let front : bytes_of 2 (event_length (kind_of e)) ≡ places 0 2 b = ap (λ x. bytes_of 2 (event_length x)) kind ∙ ap (bytes_of 2) (sym v.sized) ∙ two_back 0 (omega arith) in
      let body : body_of e ≡ places 3 (event_length k - 1) b = ap body_of q ∙ body_back k some room in
      let within = size_within v q in
      let same : encode_event e ≡ take (size_of e) b =
      ap (λ l. l ++ (kind_of e ∷ body_of e)) front
      ∙ ap (λ l. places 0 2 b ++ l) (ap (λ x. x ∷ body_of e) kind ∙ ap (λ l. k ∷ l) body)
      ∙ sym (ap (λ n. take n b) size ∙ places_part b (suc (suc (suc (event_length k - 1)))) 0 (omega arith)) in
      record { fits = rw q (body_fits k some room); within = within; is = ap (λ l. l ++ drop (size_of e) b) same ∙ take-append-drop (size_of e) b }
