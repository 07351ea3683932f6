-- The cases that paper 01, "Places to check", marks P: one list of what the engine's definitions give and what the paper says, and one proof by computing.
-- Each case goes the whole way, from a table and events to the answer.
use Rattle.std.specs.Prelude.{◌≡◌, refl, cond, List, [], ◌∷◌, ℕ, ℤ, pos, negsuc, set}
use Rattle.std.specs.Float.Ieee.{of_int, mul, div, add}
use Rattle.analog.specs.AnalogCode as analog
use Rattle.analog.specs.Drives as drive
use Rattle.analog.specs.declared.Drive.{Drive}
use Rattle.analog.specs.declared.Drive.TheVariants.{Off, Volts, Milliamps}
use Rattle.events.specs.declared.Event.{Event}
use Rattle.events.specs.declared.Event.TheVariants.{Telegram}
use Rattle.integers.specs.Choice.{some}
use Rattle.integers.specs.Round.{round_div, floor_mod}
use Rattle.integers.specs.Worked.{Worked, case, AllWorked}
use Rattle.measurement.specs.Curve as curve
use Rattle.measurement.specs.Measure as measure
use Rattle.panel.specs.Step as step
use Rattle.parameters.specs.Rows as row
use Rattle.parameters.specs.Slots.{analog_format, analog_start, analog_end}
use Rattle.reading.specs.Follow as follow
use Rattle.roundloop.specs.Count.{first_count}
use Rattle.reading.specs.Reading as reading
use Rattle.settings.specs.Settings as settings
use Rattle.inputs.specs.Freeze as freeze
use Rattle.parameters.specs.Load as load
use Rattle.parameters.specs.Search as search
use Rattle.ssi.specs.Telegram as ssi
use Rattle.state.specs.Extremes as extremes
use Rattle.state.specs.Refusal.{note_number}
use Rattle.state.specs.State as state
use Rattle.state.specs.State.{fresh_of}
use Rattle.switching.specs.Condition as condition
use Rattle.switching.specs.Each.{each_from}
use Rattle.switching.specs.Switching as switching
use Rattle.runs.specs.Run.{answers_of, last_of, last_answer}

-- ---- tables: the defaults, some slots set

abbrev defaults : List ℤ
defaults = row.default_table

abbrev binary : List ℤ
binary = set defaults 2 (pos 1)

abbrev with_factor : List ℤ
with_factor = set binary 10 (pos 150000)

abbrev wide : List ℤ
wide = set (set binary 0 (pos 32)) 3 (pos 32)

abbrev four_points : List ℤ
four_points =
    set (set (set (set (set (set (set (set binary 13 (pos 2)) 55 (pos 3)) 56 (negsuc 99)) 57 (negsuc 49)) 58 (pos 0)) 59 (pos 0)) 60 (pos 200)) 61 (pos 300)

-- preselection 1: its value, mode and hysteresis
abbrev preselected : ℤ → ℤ → ℤ → List ℤ
preselected p m h = set (set (set binary 17 p) 18 m) 19 h

abbrev mode_three : List ℤ
mode_three = preselected (pos 1000) (pos 3) (pos 10)

abbrev mode_five : List ℤ
mode_five = preselected (pos 100) (pos 5) (pos 5)

abbrev format_two : List ℤ
format_two = set binary 14 (pos 2)

-- every table of the list
abbrev reverse : List ℤ
reverse = set binary 6 (pos 1)

abbrev circle : List ℤ
circle = set (set binary 5 (pos 10)) 7 (pos 360)

pub tables : List (List ℤ)
tables =
    defaults ∷ binary ∷ reverse ∷ circle ∷ with_factor ∷ set with_factor 5 (pos 1) ∷ set with_factor 12 (negsuc 1) ∷ four_points ∷ set four_points 5 (pos 1) ∷ set four_points 5 (pos 150) ∷ wide ∷
    mode_three ∷ mode_five ∷ format_two ∷ []

-- ---- what is asked of a table and telegrams

abbrev result : List ℤ → ℕ → ℤ
result t w = (last_answer t (Telegram w ∷ [])).result

abbrev shown : List ℤ → ℕ → ℤ
shown t w = (last_answer t (Telegram w ∷ [])).shown

abbrev note : List ℤ → ℕ → ℤ
note t w = pos (note_number (last_answer t (Telegram w ∷ [])).note)

abbrev error : List ℤ → ℕ → ℤ
error t w = pos (measure.error_number (last_answer t (Telegram w ∷ [])).error)

-- condition 1 after the last of some telegrams, 1 for on
abbrev on : List ℤ → List Event → ℤ
on t es = pos (cond (switching.switch_at (last_answer t es).state.live.switches 0).on 1 0)

abbrev code : List ℤ → ℤ → ℤ
code t r = analog.code_of (analog_format t) (analog_start t) (analog_end t) r

-- the unit of a drive: 1 for volts, 2 for milliamps, 0 for off
abbrev unit_of : Drive → ℤ
unit_of Off = pos 0
unit_of (Volts x) = pos 1
unit_of (Milliamps x) = pos 2

abbrev unit : List ℤ → ℕ → ℤ
unit t w = unit_of (last_answer t (Telegram w ∷ [])).drive

abbrev upper : List ℤ → ℕ → ℤ
upper t w = (drive.drive_value (last_answer t (Telegram w ∷ [])).drive).num

abbrev lower : List ℤ → ℕ → ℤ
lower t w = pos (drive.drive_value (last_answer t (Telegram w ∷ [])).drive).den

-- ---- the list: what the definitions give, and what the paper says

pub places : List (Worked ℤ)
places =
    -- defaults: telegram hex 3 reads 2, D reads 9, 1000000 gives 33,554,431; 2000000 is refused, 11
    case (result defaults 0x3) (pos 2) ∷ case (result defaults 0xd) (pos 9) ∷ case (result defaults 0x1000000) (pos 33554431) ∷ case (note defaults 0x2000000) (pos 11) ∷
    -- reverse, M = 2^25: 1 becomes 33,554,431, 0 remains 0
    case (result reverse 1) (pos 33554431) ∷ case (result reverse 0) (pos 0) ∷
    -- O = 10, R = 360, p = 5: d = 355
    case (result circle 5) (pos 355) ∷
    -- factor 150,000: d = 1, −1, 3 give 2, −2, 5. With A = −2, d = 1 gives 0
    case (result with_factor 1) (pos 2) ∷ case (result (set with_factor 5 (pos 1)) 0) (negsuc 1) ∷ case (result with_factor 3) (pos 5) ∷ case (result (set with_factor 12 (negsuc 1)) 1) (pos 0) ∷
    -- four quadrants (−100, −50), (0, 0), (200, 300): v = 3, −1, 201, −150 give 5, −1, 300, −50
    case (result four_points 3) (pos 5) ∷ case (result (set four_points 5 (pos 1)) 0) (negsuc 0) ∷ case (result four_points 201) (pos 300) ∷ case (result (set four_points 5 (pos 150)) 0) (negsuc 49) ∷
    -- N = H = 32, binary: p = 99,999,999 shows; 100,000,000 is error 1
    case (shown wide 99999999) (pos 99999999) ∷ case (error wide 99999999) (pos 0) ∷ case (error wide 100000000) (pos 1) ∷
    -- mode 3, P = 1,000, h = 10: 999, 1000, 990, 989 give off, on, on, off
    case (on mode_three (Telegram 999 ∷ [])) (pos 0) ∷ case (on mode_three (Telegram 999 ∷ Telegram 1000 ∷ [])) (pos 1) ∷
    case (on mode_three (Telegram 999 ∷ Telegram 1000 ∷ Telegram 990 ∷ [])) (pos 1) ∷ case (on mode_three (Telegram 999 ∷ Telegram 1000 ∷ Telegram 990 ∷ Telegram 989 ∷ [])) (pos 0) ∷
    -- mode 5, P = 100, h = 5: on from 98 to 102
    case (on mode_five (Telegram 97 ∷ [])) (pos 0) ∷ case (on mode_five (Telegram 98 ∷ [])) (pos 1) ∷ case (on mode_five (Telegram 99 ∷ [])) (pos 1) ∷ case (on mode_five (Telegram 100 ∷ [])) (pos 1) ∷
    case (on mode_five (Telegram 101 ∷ [])) (pos 1) ∷ case (on mode_five (Telegram 102 ∷ [])) (pos 1) ∷ case (on mode_five (Telegram 103 ∷ [])) (pos 0) ∷
    -- defaults, r = 5,000: code 16,384, exactly 5 V. Format 2: 32,768, exactly 12 mA
    case (code binary (result binary 5000)) (pos 16384) ∷ case (unit binary 5000) (pos 1) ∷ case (upper binary 5000) (pos 5) ∷ case (lower binary 5000) (pos 1) ∷
    case (code format_two (result format_two 5000)) (pos 32768) ∷ case (unit format_two 5000) (pos 2) ∷ case (upper format_two 5000) (pos 12) ∷ case (lower format_two 5000) (pos 1) ∷
    []

pub checked : AllWorked places
unfolding places last_of answers_of fresh_of step.step_of step.on_telegram step.answer_of step.displayed_of step.shown_after step.switched_of step.switches_after freeze.frozen freeze.freezes state.received_of state.reread_of extremes.widened_of reading.accepts_of reading.directed_at reading.basis_of follow.basis_after follow.followed_of follow.count_after first_count reading.measured_at reading.code_at reading.drive_at reading.reading_of settings.layout_of settings.scaling_of settings.points_of settings.span_of settings.input_at settings.action_of settings.config_of settings.preselection_of settings.preselections_of ssi.accepted ssi.error_reported ssi.position_of ssi.gray_decoded measure.directed_of measure.distance_of measure.scaled_of measure.judged_of measure.used_points measure.value_of measure.measured_of curve.points_from curve.right_of curve.four_quadrants curve.one_quadrant curve.curve curve.linearized_of round_div floor_mod row.default_table row.defaults_from row.row_at row.row_of switching.suppresses switching.released_of switching.held_of switching.pulse_of switching.signal_of switching.active_of switching.conditioned_of switching.locked_of switching.switched_of switching.partner_of switching.switched_at each_from condition.latched_of condition.on_above condition.on_below condition.on_near condition.compared condition.against condition.rule_of condition.condition_of condition.exceeds analog.code_of analog.held drive.drive_of drive.float_of of_int mul div add
checked = refl

-- every one of these tables loads
abbrev refusals : List (List ℤ) → List ℕ
refusals [] = []
refusals (t ∷ ts) = load.load_refusal t ∷ refusals ts

abbrev zeros : List (List ℤ) → List ℕ
zeros [] = []
zeros (t ∷ ts) = 0 ∷ zeros ts

pub loading : refusals tables ≡ zeros tables
unfolding tables load.load_refusal load.conditions load.conflicts load.words_missing load.slot_out load.field_wrong load.error_bit_wrong load.span_empty load.not_above load.points_not_rising load.origin_missing load.frozen_by_edge load.freeze_on_edge load.differ load.differs_from load.polarities_differ search.first_of row.out_from row.in_range row.default_table row.defaults_from row.row_at row.row_of some
loading = refl
