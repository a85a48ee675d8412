-- Refusal 1 finds nothing exactly where switch and filter are well-formed, row by row.
use mathlib.Core.Path.{◌≡◌}
use mathlib.Core.List.{List}
use Prim.Native.Nat.{ℕ}
use borrow.Author.Tests.{lt-leb, leb-false, not-false}
use Rattle.refusal.specs.Refusal.{first}
use Rattle.refusal.proofs.Laws.{inside, none_holds, not_outside}
use Rattle.table.specs.Table as table
use Rattle.table.proofs.Laws as table_laws
use Rattle.filter.proofs.Laws as filter_laws
use Rattle.head.specs.Switch.{WellFormed, switch_causes}
use Rattle.head.specs.declared.Switch.{Switch}
use Rattle.head.proofs.Refusals.{switch_numbered}

pub test_sound : (sw : Switch) (f : List ℕ) → table.Sized sw.table → first (switch_causes sw f) ≡ 0 → WellFormed sw f
test_sound sw f sized e =
    let none = none_holds (switch_causes sw f) (switch_numbered sw f) e in
    let ports = inside 1 16 sw.setup.ports none.0 in
    let limit = inside 1 62 sw.setup.limit none.1.1.1.0 in
    record {
      some_ports = ports.0;
      few_ports = ports.1;
      live_ports = leb-false _ _ none.1.0;
      host_ports = leb-false _ _ none.1.1.0;
      some_limit = limit.0;
      low_limit = limit.1;
      nonce = leb-false _ _ none.1.1.1.1.0;
      table = (table_laws.test_iff sw.setup.ports sized).0 (not-false _ none.1.1.1.1.1.0);
      filter = filter_laws.test_sound f (not-false _ none.1.1.1.1.1.1.0);
    }

pub test_complete : (sw : Switch) (f : List ℕ) → WellFormed sw f → first (switch_causes sw f) ≡ 0
test_complete sw f w =
    rw (
      not_outside w.some_ports w.few_ports,
      lt-leb _ _ w.live_ports,
      lt-leb _ _ w.host_ports,
      not_outside w.some_limit w.low_limit,
      lt-leb _ _ w.nonce,
      (table_laws.test_iff sw.setup.ports w.table.sized).1 w.table,
      filter_laws.test_complete f w.filter,
    )
