-- What was read stands at the room's start, and the reader has lost just that; each turn so far brought a byte at least.
use Rattle.std.proofs.Common.{◌≤◌, length, take}
use Rattle.std.specs.Io.KnownBytes.{Consumes}
use Rattle.input.proofs.read_full.Given as goal

abbrev pub invariant-loop-turn : goal.invariant-loop-turn
invariant-loop-turn g l =
    record {
      enough : l._turn ≤ l.n;
      within : l.n ≤ length l.room;
      bytes : Consumes (g.R.Read.remaining l.initial.reader) (g.R.Read.remaining l.reader) (take l.n l.room);
    }
