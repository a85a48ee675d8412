-- The whole run is computed: the definitions, unfolded, make of the input's bytes the six lines.
use mathlib.Core.Path.{refl}
use lib.Count.{ones}
use Rattle.wire.specs.Address as address
use Rattle.wire.specs.Below as below
use Rattle.wire.specs.Wire as wire
use Rattle.table.specs.Table as table
use Rattle.filter.specs.Filter as filter
use Rattle.filter.specs.Triple as cell
use Rattle.rules.specs.Mask as mask
use Rattle.rules.specs.Rules as rule
use Rattle.network.specs.Checks as check
use Rattle.network.specs.Describe as describe
use Rattle.network.specs.Format as format
use Rattle.network.specs.Network as network
use Rattle.cabling.specs.Cabling as cabling
use Rattle.seat.specs.Seat as seat
use Rattle.flight.specs.Flight as flight
use Rattle.event.specs.Event as record_of
use Rattle.turn.specs.Send as send
use Rattle.turn.specs.Turn as turn
use Rattle.bench.specs.Bench as bench
use Rattle.bench.specs.Events as happening
use Rattle.bench.specs.Shape as shape
use Rattle.counters.specs.Counters as count
use Rattle.counters.specs.Event as public
use Rattle.counters.specs.History as history
use Rattle.lines.specs.Lines as line
use Rattle.transcript.specs.Transcript as transcripts
use Rattle.transcript.specs.WholeRun.{WholeRun}

pub whole_run : WholeRun
unfolding ones address.is_source wire.number wire.number_after table.found_at table.learn_at table.erase_of table.put table.lookup_of table.erase_at table.slot_of table.may_hold table.slot_fits table.well_formed table.learn_of table.empty_table table.slot_for filter.has_cell filter.holds filter.same filter.standing filter.hash filter.empty filter.recorded filter.cell_of filter.overwrites cell.well_formed cell.is_length cell.is_cell mask.all_but mask.names rule.forwarding rule.standing rule.overwrote3 rule.rule10 rule.learns rule.erases rule.is_duplicate rule.nonce_on rule.onward rule.rule5 rule.rule11 rule.learning rule.rule6 rule.rules rule.rule9 rule.rule3 rule.rule2 check.out_of_order check.port_taken check.switch_out check.address_out check.out_of_range check.bad_address check.record_fault check.network_fault check.taken check.not_above check.any check.records_fault check.too_many check.stands describe.read_network describe.read_fault describe.read_end describe.scan describe.versionless describe.scan_of format.record_of format.is_event format.length_of format.body_of format.kind_of format.headless format.encode format.start_of format.misfit network.records network.links_of network.limit_of network.add network.up_to network.hosts_of network.switches_of network.built network.empty_network cabling.is_hosts cabling.plug_at cabling.plug_all cabling.plug_in cabling.plugs_of cabling.port_of cabling.is_live cabling.plug_host cabling.setup_of cabling.mask_of cabling.plug_link seat.from_host seat.fresh_seat seat.from_link seat.step_of flight.spared flight.without record_of.kind_of record_of.event_of record_of.event_length record_of.read_event record_of.bad_event record_of.letter_of record_of.address_of record_of.size_of send.send_on send.send_from send.joins send.send_at send.send_out send.receives turn.presents turn.plug_of turn.outbox_of turn.sets turn.host_arrival turn.port_to turn.host_of turn.steps turn.takes turn.turn_of turn.head_of turn.copy_arrival bench.seat_at bench.fresh_bench bench.fresh_heads bench.in_flight happening.event_of happening.follow happening.turn_in below.all_below shape.on_live_link shape.in_shape shape.has_addresses shape.seat_fits shape.copy_fits count.adds count.plus count.counters_fit public.happens_of public.event_refusal history.after line.ending line.field line.refused_line line.hex8 line.width_in line.decimal line.digits line.marked line.hex_of line.stop_line line.width line.line_of line.text transcripts.transcript transcripts.line_for transcripts.lines_from transcripts.lines_in transcripts.printed transcripts.run_lines
whole_run = refl
