-- Its numbers have ten, three and five digits at most, so that the line fits.
use Rattle.std.proofs.Common.{◌^◌, ◌<◌, ◌≤◌, length, arith, rules}
use Rattle.lines.specs.declared.Line.{Line}
use Rattle.lines.specs.Lines.{line_of}
use Rattle.lines.proofs.Laws.{line_long, width_most}
use Rattle.vectors.proofs.runs.print_line.Goals as goal

short : (l : Line) → l.number < 2 ^ 32 → l.refusal < 2 ^ 8 → l.flying < 2 ^ 16 → length (line_of l) ≤ 40
short l a b d = omega (arith, line_long l, width_most 9 l.number (omega arith), width_most 2 l.refusal (omega arith), width_most 4 l.flying (omega arith))

pub put_line-end-requires : goal.put_line-end-requires
put_line-end-requires g c = omega (arith, short c.args.l (search rules) (search rules) (search rules))
