-- The number is put behind the word.
use Rattle.lines.proofs.Parts.{put_first, next_room, put_next}
use Rattle.lines.specs.Lines.{text, ending, refused_line}
use Rattle.lines.proofs.put_refused.Goals as goal

pub put_ending-requires : goal.put_ending-requires
unfolding refused_line text
put_ending-requires c =
    let a = c.args in
    let room = c.requires in
    rw c.from.ensures (next_room a.out.now a.at (text "refused ") (ending a.n) room
    (put_first a.out.now a.at (text "refused ") (ending a.n) room c.put_at.ensures))

pub returns : goal.returns
unfolding refused_line text
returns c =
    let a = c.args in
    let room = c.requires in
    let number = c.put_ending.ensures in
    let word = put_first a.out.now a.at (text "refused ") (ending a.n) room c.put_at.ensures in
    let all = put_next a.out.now a.at (text "refused ") (ending a.n) room word (record { ends = rw c.from.ensures at number.end; output = rw c.from.ensures at number.output }) in
    record { end = all.ends; output = all.output }
