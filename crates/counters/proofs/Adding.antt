-- Records of counters under addition.
use mathlib.Core.Path.{◌≡◌}
use native.Mathlib.Nat.{add_assoc, add-zero, zero-add}
use Rattle.counters.specs.Counters.{no_counts, plus}
use Rattle.counters.specs.declared.Counters.{Counters}

pub plus_none : (c : Counters) → plus c no_counts ≡ c
unfolding plus
plus_none c = simp add-zero

pub none_plus : (c : Counters) → plus no_counts c ≡ c
unfolding plus
none_plus c = simp zero-add

pub plus_assoc : (c d e : Counters) → plus (plus c d) e ≡ plus c (plus d e)
unfolding plus
plus_assoc c d e = simp add_assoc
