-- Four parts are put one behind the other, and the room for all is room for each.
use Rattle.lines.proofs.Parts.{front_room, verdict_room, hosts_room, ending_room, line_put}
use Rattle.lines.proofs.put_line.Goals as goal

pub put_field-a-requires : goal.put_field-a-requires
put_field-a-requires c =
    let a = c.args in
    front_room a.out.now a.at a.l c.requires

pub put_field-b-requires : goal.put_field-b-requires
put_field-b-requires c =
    let a = c.args in
    let p = c.put_field-a.ensures in
    rw c.from.ensures (verdict_room a.out.now a.at a.l c.requires (record { ends = p.end; output = p.output }))

pub put_marked-c-requires : goal.put_marked-c-requires
put_marked-c-requires c =
    let a = c.args in
    let p = c.put_field-a.ensures in
    let q = c.put_field-b.ensures in
    hosts_room a.out.now a.at a.l c.requires
    (record { ends = p.end; output = p.output }) (record { ends = rw c.from.ensures at q.end; output = rw c.from.ensures at q.output })

pub put_ending-requires : goal.put_ending-requires
put_ending-requires c =
    let a = c.args in
    let p = c.put_field-a.ensures in
    let q = c.put_field-b.ensures in
    let r = c.put_marked-c.ensures in
    rw c.from-2.ensures (ending_room a.out.now a.at a.l
    c.requires
    (record { ends = p.end; output = p.output }) (record { ends = rw c.from.ensures at q.end; output = rw c.from.ensures at q.output }) (record { ends = r.end; output = r.output }))

pub returns : goal.returns
returns c =
    let a = c.args in
    let p = c.put_field-a.ensures in
    let q = c.put_field-b.ensures in
    let r = c.put_marked-c.ensures in
    let s = c.put_ending.ensures in
    let all = line_put a.out.now a.at a.l
    c.requires
    (record { ends = p.end; output = p.output }) (record { ends = rw c.from.ensures at q.end; output = rw c.from.ensures at q.output }) (record { ends = r.end; output = r.output })
    (record { ends = rw c.from-2.ensures at s.end; output = rw c.from-2.ensures at s.output }) in
    record { end = all.ends; output = all.output }
