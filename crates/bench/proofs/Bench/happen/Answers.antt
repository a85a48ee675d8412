-- The words carry the copies in flight; the turn taken on them is the definition's, and then the heads follow.
use mathlib.Core.Path.{◌≡◌, ap}
use lib.ListN.{length, length-set}
use borrow.Author.Rules.{rules}
use native.Mathlib.Omega.{arith}
use Rattle.flight.specs.Flight.{most}
use Rattle.network.specs.declared.Network.{Network}
use Rattle.bench.specs.Bench.{no_seat}
use Rattle.bench.proofs.Described.{few_switches}
use Rattle.bench.proofs.Happening.{can_turn_on, happens, head_inside, head_is}
use Rattle.bench.proofs.Lists.{same_there}
use Rattle.bench.proofs.Bench.happen.Goals as goal

pub bounds-self-k : goal.bounds-self-k
bounds-self-k c =
    let words = c.words_of-words in
    let whole : length words.result ≡ most = search rules in
    head_inside c.args.self.now c.args.e c.requires words.ensures whole c.head_of-k.ensures.accepted

pub turn-done-requires : goal.turn-done-requires
turn-done-requires c =
    let words = c.words_of-words in
    let whole : length words.result ≡ most = search rules in
    let b = c.args.self.now in
    (search rules, rw c.new-stand.ensures (can_turn_on b c.args.e c.requires words.ensures whole))

pub follow-requires : goal.follow-requires
follow-requires c =
    let b = c.args.self.now in
    let whole : length b.seats ≡ 16 = search rules in
    omega (arith, few_switches b.network c.requires.shape.described, length-set b.seats c.head_of-k.result c.turn-done.new.seat, ap (λ (n : Network). n.nswitches) c.new-stand.ensures)

pub returns : goal.returns
returns c =
    let words = c.words_of-words in
    let whole : length words.result ≡ most = search rules in
    let b = c.args.self.now in
    let seats : length b.seats ≡ 16 = search rules in
    let inside = head_inside b c.args.e c.requires words.ensures whole c.head_of-k.ensures.accepted in
    happens b c.args.e c.requires words.ensures whole (head_is b c.args.e c.requires words.ensures whole c.head_of-k.ensures.accepted)
    (same_there b.seats c.head_of-k.result _ no_seat (omega (arith, inside))) (rw c.new-stand.ensures at c.turn-done.ensures.turns) (rw c.new-stand.ensures at c.follow.ensures) c.copies_of-self.ensures
