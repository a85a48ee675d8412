-- The parts are put one behind the other, and fill each array.
use Rattle.layout.specs.Layout.{SizedBench}
use native.Mathlib.Omega.{arith}
use Rattle.layout.proofs.Loops.{set_put}
use Rattle.layout.proofs.Wholes.{bench_bytes_laid, bench_wides_laid}
use Rattle.layout.proofs.lay_bench.Goals as goal

pub returns : goal.returns
returns c =
    let states = c.lay_states.ensures in
    let seats = c.lay_seats.ensures in
    let copies = c.lay_copies.ensures in
    let sized : SizedBench c.args.bench.now = record { up = states.long; seats = seats.sized; copies = copies.ranged } in
    record {
      bytes = bench_bytes_laid sized c.args.bytes.now c.requires.bytes states.bytes seats.bytes;
      masks = seats.masks;
      words = seats.words;
      wides = bench_wides_laid sized c.args.wides.now c.requires.wides seats.wides copies.wides (set_put _ _ _ (omega arith));
      sized = sized;
    }
