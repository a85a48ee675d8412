-- The event on what the arrays hold, laid down only where nothing was refused.
use mathlib.Core.Path.{◌∙◌}
use Rattle.engine_bench.proofs.Benching.{happen_done}
use Rattle.engine_bench.proofs.benches.happen.Goals as goal

pub returns-in-Ok : goal.returns-in-Ok
returns-in-Ok c =
    happen_done (rw (c.bench_of-bench.ensures, c.counters_of-after.ensures) at c.in-Ok.ensures) c.lay_bench.ensures
    (c.copy_from_slice.ensures.after ∙ c.counter_numbers.ensures)
    (c.copy_from_slice-in-Ok.ensures.after ∙ c.event_numbers.ensures)
