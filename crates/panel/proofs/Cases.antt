-- One of the cases that paper 01, "Places to check", marks P, of one step: what the panel shows, computed. The whole list stands in `runs`, Places.
use Rattle.std.specs.Prelude.{◌≡◌, refl, List, ℤ, pos, set}
use Rattle.std.specs.Float.Ieee.{of_int, mul, div, add}
use Rattle.analog.specs.AnalogCode as analog
use Rattle.analog.specs.Drives as drive
use Rattle.events.specs.declared.Event.TheVariants.{Telegram}
use Rattle.integers.specs.Round.{round_div, floor_mod}
use Rattle.measurement.specs.Curve as curve
use Rattle.measurement.specs.Measure as measure
use Rattle.panel.specs.Step.{step_of, on_telegram, answer_of, displayed_of, shown_after, switched_of, switches_after}
use Rattle.parameters.specs.Rows as row
use Rattle.reading.specs.Follow as follow
use Rattle.reading.specs.Reading as reading
use Rattle.settings.specs.Settings as settings
use Rattle.inputs.specs.Freeze as freeze
use Rattle.ssi.specs.Telegram as ssi
use Rattle.state.specs.Extremes as extremes
use Rattle.state.specs.State as state
use Rattle.state.specs.State.{fresh_of}
use Rattle.switching.specs.Condition as condition
use Rattle.switching.specs.Each.{each_from}
use Rattle.switching.specs.Switching as switching

abbrev wide : List ℤ
wide = set (set (set row.default_table 2 (pos 1)) 0 (pos 32)) 3 (pos 32)

-- N = H = 32, binary: p = 99,999,999 shows
pub shows : (step_of (fresh_of wide) (Telegram 99999999)).shown ≡ pos 99999999
unfolding fresh_of step_of on_telegram answer_of displayed_of shown_after switched_of switches_after freeze.frozen freeze.freezes state.received_of state.reread_of extremes.widened_of reading.accepts_of reading.directed_at reading.basis_of follow.basis_after reading.measured_at reading.code_at reading.drive_at reading.reading_of settings.layout_of settings.scaling_of settings.points_of settings.span_of settings.input_at settings.action_of settings.config_of settings.preselection_of settings.preselections_of ssi.accepted ssi.error_reported ssi.position_of ssi.gray_decoded measure.directed_of measure.distance_of measure.scaled_of measure.judged_of measure.used_points measure.value_of measure.measured_of curve.points_from curve.right_of curve.four_quadrants curve.one_quadrant curve.curve curve.linearized_of round_div floor_mod row.default_table row.defaults_from row.row_at row.row_of switching.suppresses switching.released_of switching.held_of switching.pulse_of switching.signal_of switching.active_of switching.conditioned_of switching.locked_of switching.switched_of switching.partner_of switching.switched_at each_from condition.latched_of condition.on_above condition.on_below condition.on_near condition.compared condition.against condition.rule_of condition.condition_of condition.exceeds analog.code_of analog.held drive.drive_of drive.float_of of_int mul div add
shows = refl
