-- What the service screen shows, by the bits of its floats: runs of the definitions beside what is worked out by hand, one list and one proof by computing. Paper 02, K6.
use Rattle.std.specs.Prelude.{refl, List, [], ◌∷◌, ℕ, ℤ, pos, set}
use Rattle.std.specs.Float.Ieee as ieee
use Rattle.std.specs.Float.{binary32}
use Rattle.std.specs.Float.Ieee.{to_bits}
use Rattle.analog.specs.AnalogCode as code
use Rattle.analog.specs.Drives as drives
use Rattle.driverecord.specs.declared.DriveRecord.{DriveRecord}
use Rattle.driverecord.specs.DriveRecord as driverecord
use Rattle.events.specs.declared.Event.{Event}
use Rattle.events.specs.declared.Event.TheVariants.{Telegram, Levels, Tick}
use Rattle.inputs.specs.Commands as commands
use Rattle.inputs.specs.Levels as levels
use Rattle.integers.specs.Round.{round_div, floor_mod}
use Rattle.integers.specs.Worked.{Worked, case, AllWorked}
use Rattle.measurement.specs.Curve as curve
use Rattle.measurement.specs.Measure as measure
use Rattle.panel.specs.Step as step
use Rattle.parameters.specs.Rows as row
use Rattle.reading.specs.Follow as follow
use Rattle.reading.specs.Reading as reading
use Rattle.runs.specs.Run.{run_of}
use Rattle.settings.specs.Settings as settings
use Rattle.ssi.specs.Telegram as ssi
use Rattle.state.specs.State as state
use Rattle.state.specs.State.{fresh_of}

-- ---- tables: the defaults in binary, and in format 2; with bit 25 as the error bit; with actions at inputs 1 and 2

abbrev volts : List ℤ
volts = set row.default_table 2 (pos 1)

abbrev milliamps : List ℤ
milliamps = set volts 14 (pos 2)

abbrev guarded : List ℤ → List ℤ
guarded t = set (set t 3 (pos 24)) 8 (pos 25)

abbrev acting : ℕ → ℕ → List ℤ → List ℤ
acting a b t = set (set t 49 (pos a)) 51 (pos b)

-- a telegram with the error bit
abbrev faulty : Event
faulty = Telegram 16777216

-- ---- the record by its bits

pub record Shown : Type 0 where
  pub present : ℕ
  pub lowest : ℕ
  pub highest : ℕ
  pub empty : ℕ

abbrev shown : ℕ → ℕ → ℕ → Shown
shown p l h = record { present = p; lowest = l; highest = h; empty = 0 }

abbrev shown_empty : ℕ → Shown
shown_empty p = record { present = p; lowest = 0; highest = 0; empty = 1 }

abbrev shown_of : DriveRecord → Shown
shown_of r = record { present = to_bits binary32 r.present; lowest = to_bits binary32 r.lowest; highest = to_bits binary32 r.highest; empty = r.empty }

abbrev got : List ℤ → List Event → Shown
got t es = shown_of (run_of (fresh_of t) es).live.driven

-- 0 V and 0 mA are hex 0; 2.5 V is 40200000, 5 V 40A00000, −5 V C0A00000, 32,767 × 10 ÷ 32,768 V 411FFEC0; 4 mA is 40800000, 12 mA 41400000
pub cases : List (Worked Shown)
cases =
    -- before the first telegram
    case (got milliamps []) (shown_empty 0) ∷
    case (got (acting 4 0 milliamps) (Tick 10 ∷ Levels 1 ∷ [])) (shown_empty 0) ∷
    -- 5,000 of 0 to 10,000: the code is 16,384, exactly 5 V; in format 2 it is 32,768, exactly 12 mA
    case (got volts (Telegram 5000 ∷ [])) (shown 1084227584 1084227584 1084227584) ∷
    case (got milliamps (Telegram 5000 ∷ [])) (shown 1094713344 1094713344 1094713344) ∷
    -- 5 V, 0 V, full scale, 2.5 V, and a tick
    case (got volts (Telegram 5000 ∷ Telegram 0 ∷ Telegram 10000 ∷ Telegram 2500 ∷ Tick 10 ∷ [])) (shown 1075838976 0 1092615872) ∷
    -- below zero: −5 V, and 5 V
    case (got (set volts 5 (pos 5000)) (Telegram 0 ∷ Telegram 10000 ∷ [])) (shown 1084227584 3231711232 1084227584) ∷
    -- off in format 2 is 0 mA, and leaves lowest and highest alone
    case (got (guarded milliamps) (Telegram 5000 ∷ faulty ∷ [])) (shown 0 1094713344 1094713344) ∷
    -- a clear under an error; and one while the line is driven
    case (got (acting 4 0 (guarded milliamps)) (Telegram 5000 ∷ faulty ∷ Levels 1 ∷ [])) (shown_empty 0) ∷
    case (got (acting 4 0 milliamps) (Telegram 0 ∷ Telegram 5000 ∷ Levels 1 ∷ [])) (shown 1094713344 1094713344 1094713344) ∷
    -- a clear and a reset in one event, in both orders of the inputs: both at 4 mA, the drive after the reset
    case (got (acting 4 1 milliamps) (Telegram 5000 ∷ Levels 3 ∷ [])) (shown 1082130432 1082130432 1082130432) ∷
    case (got (acting 1 4 milliamps) (Telegram 5000 ∷ Levels 3 ∷ [])) (shown 1082130432 1082130432 1082130432) ∷
    -- a reset alone: 4 mA beside the 12 mA before it
    case (got (acting 1 0 milliamps) (Telegram 5000 ∷ Levels 1 ∷ [])) (shown 1082130432 1082130432 1094713344) ∷
    -- levels with a refused command are accepted, and a refused telegram changes nothing
    case (got (acting 4 1 milliamps) (Levels 3 ∷ Telegram 5000 ∷ Telegram 33554432 ∷ [])) (shown 1094713344 1094713344 1094713344) ∷
    []

pub checked : AllWorked cases
unfolding cases run_of fresh_of to_bits step.step_of step.on_telegram step.on_levels step.on_tick step.answer_of step.displayed_of step.switched_of state.received_of state.reread_of follow.basis_after reading.accepts_of reading.directed_at reading.basis_of reading.measured_at reading.reading_of reading.drive_at reading.code_at settings.layout_of settings.scaling_of settings.points_of settings.span_of settings.input_at settings.action_of settings.config_of ssi.accepted ssi.error_reported ssi.position_of measure.directed_of measure.distance_of measure.scaled_of measure.judged_of measure.used_points measure.value_of measure.measured_of curve.curve curve.linearized_of round_div floor_mod row.default_table row.defaults_from row.row_at row.row_of commands.reset_refusal commands.refusal_of commands.reset_of commands.clear_extremes_of commands.carried_out commands.command_of levels.edge_at levels.input_of levels.commands_of levels.acts_on code.code_of code.held drives.float_of drives.drive_of driverecord.updated_of driverecord.widened_by ieee.lt ieee.of_int ieee.mul ieee.div ieee.add
checked = refl
