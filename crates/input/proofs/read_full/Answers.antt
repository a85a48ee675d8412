use Rattle.std.proofs.Common.{◌≡◌, ℕ, ◌+◌, ◌≤◌, List, ◌++◌, rules, length, take, sym, ap, ◌∙◌, subst, length-take-le}
use Rattle.std.proofs.KnownBytes.{Consumes-trans}
use Rattle.std.proofs.lemmas.List.{take-append-le}
use Rattle.std.proofs.Math.Seq.{take-append-add}
use Rattle.std.specs.Io.KnownBytes.{Consumes}
use borrow.Rule.Slice.PartMut.{put_mid, post_of}
use Rattle.input.proofs.read_full.Goals as goal

-- the room's start, when what came stands behind what was there
start : (n more k : ℕ) (xs ys : List ℕ) → n ≤ length xs → more ≤ length ys → take (n + more) (put_mid n k xs ys) ≡ take n xs ++ take more ys
start n more k xs ys within fits =
    let behind = post_of n k xs in
    ap (λ m. take (m + more) (take n xs ++ (ys ++ behind))) (sym (length-take-le n xs within))
    ∙ take-append-add (take n xs) (ys ++ behind) more
    ∙ ap (λ l. take n xs ++ l) (take-append-le more ys behind fits)

pub loop-turn-preserved : goal.loop-turn-preserved
loop-turn-preserved g c =
    let more = c.in_ok-more.ensures in
    record {
      enough = search rules;
      within = search rules;
      bytes = subst (Consumes _ _) (sym (start _ _ _ _ _ c.loop-turn.invariant.within more.bound.0)) (Consumes-trans _ _ _ _ _ c.loop-turn.invariant.bytes more.bytes.0);
    }
