-- Parts put one behind the other.
use Prim.Native.Nat.{ℕ, ◌+◌, ◌≤◌}
use mathlib.Core.Path.{◌≡◌, refl, ap, ◌∙◌}
use mathlib.Core.List.{List, ◌++◌}
use native.Mathlib.Omega.{arith}
use lib.ListN.{length, length-append, length-take, length-drop}
use Rattle.wire.specs.Wire.{put, put_in}
use Rattle.wire.proofs.Laws.{put_put, put_fits}
use Rattle.lines.specs.declared.Line.{Line}
use Rattle.lines.specs.Lines.{field, marked, ending, line_of}

-- the output with bytes put from a place on, and where they end
pub record Put (start out : List ℕ) (at : ℕ) (bytes : List ℕ) (end : ℕ) : Type 0 where
  pub ends : end ≡ at + length bytes
  pub output : out ≡ put start at bytes

put_long : (l : List ℕ) (at : ℕ) (bs : List ℕ) → at + length bs ≤ length l → length (put l at bs) ≡ length l
put_long l at bs room = simp (length-append, length-take, length-drop) (omega arith)

module _ (start : List ℕ) (at : ℕ) (a b : List ℕ) (room : at + length (a ++ b) ≤ length start) where
  -- there is room for the first part
  pub first_room : at + length a ≤ length start
  first_room = omega (arith, length-append a b)

  -- which is put if it fits
  pub put_first : {out : List ℕ} → out ≡ put_in start at a → Put start out at a (at + length a)
  put_first q = record { ends = refl; output = q ∙ put_fits start at a first_room }

  -- and behind it there is room for the second
  module _ {out : List ℕ} {mid : ℕ} (p : Put start out at a mid) where
    pub next_room : mid + length b ≤ length out
    next_room = omega (arith, p.ends, ap length p.output, put_long start at a first_room, length-append a b)

    -- which is then put behind the first
    pub put_next : {after : List ℕ} {end : ℕ} → Put out after mid b end → Put start after at (a ++ b) end
    put_next q =
        record {
          ends = omega (arith, p.ends, q.ends, length-append a b);
          output = q.output ∙ ap (λ l. put l mid b) p.output ∙ ap (λ k. put (put start at a) k b) p.ends ∙ put_put start at a b (omega (arith, length-append a b));
        }

    -- also where it is put if it fits
    pub put_last : {after : List ℕ} {end : ℕ} → after ≡ put_in out mid b → end ≡ mid + length b → Put start after at (a ++ b) end
    put_last q e = put_next (record { ends = e; output = q ∙ put_fits out mid b next_room })

-- a line's four parts
abbrev front : Line → List ℕ
front l = field l.number l.letter

abbrev verdict : Line → List ℕ
verdict l = field l.refusal l.verdict

abbrev hosts : Line → List ℕ
hosts l = marked l.received

-- where there is room for a line, there is for each part behind those before it
module _ (start : List ℕ) (at : ℕ) (l : Line) (room : at + length (line_of l) ≤ length start) where
  room_three : at + length (front l ++ verdict l ++ hosts l) ≤ length start
  unfolding line_of
  room_three = first_room start at (front l ++ verdict l ++ hosts l) (ending l.flying) room

  room_two : at + length (front l ++ verdict l) ≤ length start
  room_two = first_room start at (front l ++ verdict l) (hosts l) room_three

  pub front_room : at + length (front l) ≤ length start
  front_room = first_room start at (front l) (verdict l) room_two

  module _ {out₁ : List ℕ} {end₁ : ℕ} (p : Put start out₁ at (front l) end₁) where
    pub verdict_room : end₁ + length (verdict l) ≤ length out₁
    verdict_room = next_room start at (front l) (verdict l) room_two p

    module _ {out₂ : List ℕ} {end₂ : ℕ} (q : Put out₁ out₂ end₁ (verdict l) end₂) where
      two_put : Put start out₂ at (front l ++ verdict l) end₂
      two_put = put_next start at (front l) (verdict l) room_two p q

      pub hosts_room : end₂ + length (hosts l) ≤ length out₂
      hosts_room = next_room start at (front l ++ verdict l) (hosts l) room_three two_put

      module _ {out₃ : List ℕ} {end₃ : ℕ} (r : Put out₂ out₃ end₂ (hosts l) end₃) where
        three_put : Put start out₃ at (front l ++ verdict l ++ hosts l) end₃
        three_put = put_next start at (front l ++ verdict l) (hosts l) room_three two_put r

        pub ending_room : end₃ + length (ending l.flying) ≤ length out₃
        unfolding line_of
        ending_room = next_room start at (front l ++ verdict l ++ hosts l) (ending l.flying) room three_put

        pub line_put : {out₄ : List ℕ} {end₄ : ℕ} → Put out₃ out₄ end₃ (ending l.flying) end₄ → Put start out₄ at (line_of l) end₄
        unfolding line_of
        line_put s = put_next start at (front l ++ verdict l ++ hosts l) (ending l.flying) room three_put s
