-- Each part has bits of its own, so the sum of them all fits a word.
use native.Mathlib.Omega.{arith}
use Rattle.flight.specs.Flight.{pack}
use Rattle.frame.proofs.Laws.{flag_bit, flag_small}
use borrow.Author.Rules.{rules}
use Rattle.flight.proofs.Copy.packed.Goals as goal

pub overflow_mul-flags : goal.overflow_mul-flags
overflow_mul-flags c = let v = c.args.self in omega (arith, flag_small v.second, flag_small v.header.l, flag_small v.header.f)

pub overflow_add-flags : goal.overflow_add-flags
overflow_add-flags c = let v = c.args.self in omega (arith, flag_small v.second, flag_small v.header.l, flag_small v.header.f)

pub overflow_mul-flags-2 : goal.overflow_mul-flags-2
overflow_mul-flags-2 c = let v = c.args.self in omega (arith, flag_small v.second, flag_small v.header.l, flag_small v.header.f)

pub overflow_add-flags-2 : goal.overflow_add-flags-2
overflow_add-flags-2 c = let v = c.args.self in omega (arith, flag_small v.second, flag_small v.header.l, flag_small v.header.f)

pub overflow_mul-result : goal.overflow_mul-result
overflow_mul-result c = let v = c.args.self in omega (arith, flag_small v.second, flag_small v.header.l, flag_small v.header.f)

pub overflow_add-result : goal.overflow_add-result
overflow_add-result c = let v = c.args.self in omega (arith, flag_small v.second, flag_small v.header.l, flag_small v.header.f)

pub overflow_add-result-2 : goal.overflow_add-result-2
overflow_add-result-2 c = let v = c.args.self in omega (arith, flag_small v.second, flag_small v.header.l, flag_small v.header.f)

pub overflow_add-result-3 : goal.overflow_add-result-3
overflow_add-result-3 c = let v = c.args.self in omega (arith, flag_small v.second, flag_small v.header.l, flag_small v.header.f)

pub returns : goal.returns
unfolding pack
returns c = let v = c.args.self in record { words = rw (flag_bit v.second, flag_bit v.header.l, flag_bit v.header.f); ranged = record { link = search rules; hc = search rules; nonce = search rules } }
