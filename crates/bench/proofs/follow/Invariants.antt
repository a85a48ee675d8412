-- The heads before k have followed, and those from k on are as they were.
use Rattle.bench.proofs.Following.{Followed}
use Rattle.bench.proofs.follow.Given as goal

abbrev pub invariant-loop-k : goal.invariant-loop-k
invariant-loop-k l = Followed l.stand.network l.up l.initial.seats l.seats l.k
