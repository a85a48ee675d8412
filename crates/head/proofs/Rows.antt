-- P1 to P12 are computed: the definitions, unfolded, make of each row what stands in it.
use mathlib.Core.Path.{refl}
use Rattle.wire.specs.Wire.{number, number_after}
use Rattle.wire.specs.Address.{is_source}
use Rattle.frame.specs.Header.{byte0, header_of}
use Rattle.frame.specs.Frame.{tagged, stripped}
use Rattle.table.specs.Table.{empty_table, slot_of, found_at, lookup_of, put, slot_for, learn_at, learn_of, erase_at, erase_of, may_hold, slot_fits, well_formed}
use Rattle.filter.specs.Filter.{hash, cell_of, same, empty, standing, has_cell, holds, overwrites, recorded}
use Rattle.filter.specs.Triple as triple
use Rattle.wire.specs.Below.{all_below}
use Rattle.rules.specs.Mask.{names, all_but}
use Rattle.rules.specs.Rules as rule
use Rattle.head.specs.Step.{refusal}
use Rattle.head.specs.Rows.{EveryRowHolds}

pub every_row_holds : EveryRowHolds
unfolding EveryRowHolds refusal names all_but rule.rule1 rule.nonce_on rule.rule2 rule.is_duplicate rule.rule3 rule.overwrote3 rule.erases rule.rule5 rule.learns rule.rule6 rule.learning rule.standing rule.rule9 rule.rule10 rule.rule11 rule.onward rule.forwarding rule.rules number number_after is_source byte0 header_of tagged stripped empty_table slot_of found_at lookup_of put slot_for learn_at learn_of erase_at erase_of may_hold slot_fits well_formed all_below hash cell_of same empty standing has_cell holds overwrites recorded triple.is_cell triple.is_length triple.well_formed
every_row_holds = refl
