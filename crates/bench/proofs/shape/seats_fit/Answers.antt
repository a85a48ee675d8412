use mathlib.Core.Path.{sym, ◌∙◌}
use Rattle.bench.proofs.Lists.{same_there}
use Rattle.bench.proofs.Tested.{passing_starts, seat_fails, seat_next}
use native.Mathlib.Omega.{arith}
use Rattle.bench.specs.Bench.{no_seat}
use Rattle.bench.proofs.shape.seats_fit.Goals as goal

pub loop-k-init : goal.loop-k-init
loop-k-init c = passing_starts

pub loop-k-preserved : goal.loop-k-preserved
loop-k-preserved c =
    let a = c.args in
    seat_next a.network.now a.up.now a.seats.now c.loop-k.invariant (same_there a.seats.now c.loop-k.k _ no_seat (omega arith)) (rw c.new-stand.ensures at (sym c.seat_fits.ensures.test ∙ c.if-not-seat_fits.false)) (rw c.new-stand.ensures at (c.seat_fits.ensures.fits c.if-not-seat_fits.false))

pub returns-then-not-seat_fits-clause-test : goal.returns-then-not-seat_fits-clause-test
returns-then-not-seat_fits-clause-test c =
    let a = c.args in
    seat_fails a.network.now a.up.now a.seats.now c.loop-k-test.true (same_there a.seats.now c.loop-k.k _ no_seat (omega arith)) (rw c.new-stand.ensures at c.if-not-seat_fits.ensures.test)
