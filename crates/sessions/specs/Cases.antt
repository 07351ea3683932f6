-- Bursts beside what is worked out by hand: one list and one proof by computing. Paper 02, K5.
use Rattle.std.specs.Prelude.{refl, Bool, true, false, List, [], ◌∷◌, ℕ, ℤ, pos, set, replicate}
use Rattle.std.specs.Float.Ieee.{of_int, mul, div, add}
use Rattle.analog.specs.AnalogCode as code
use Rattle.analog.specs.Drives as drives
use Rattle.burst.specs.declared.Burst.{Burst}
use Rattle.burst.specs.Burst as burst
use Rattle.integers.specs.Round.{round_div, floor_mod, halved, rounding}
use Rattle.integers.specs.Worked.{Worked, case, AllWorked}
use Rattle.measurement.specs.Curve as curve
use Rattle.measurement.specs.Measure as measure
use Rattle.panel.specs.Step as step
use Rattle.parameters.specs.Rows as row
use Rattle.reading.specs.Follow as follow
use Rattle.reading.specs.Reading as reading
use Rattle.reading.specs.Reading.{halves_number}
use Rattle.settings.specs.Settings as settings
use Rattle.ssi.specs.Telegram as ssi
use Rattle.state.specs.Refusal.{note_number}
use Rattle.state.specs.State as state
use Rattle.state.specs.State.{fresh_of}
use Rattle.switching.specs.Condition as condition
use Rattle.switching.specs.Each.{each_from}
use Rattle.switching.specs.Switching as switching
use Rattle.switching.specs.Switching.{switch_at}

-- ---- tables: the defaults in binary; with a lock at preselection 1 and a pulse of 100 ms at preselection 2; with factor 1.5

abbrev plain : List ℤ
plain = set row.default_table 2 (pos 1)

abbrev locking : List ℤ
locking = set (set plain 23 (pos 1)) 28 (pos 100)

abbrev halving : List ℤ
halving = set plain 10 (pos 150000)

-- a telegram with a bit above N
abbrev refused : ℕ
refused = 33554432

-- ---- what a burst from the fresh state gives: count, note, result, marks, the lock of preselection 1 and the pulse of preselection 2

pub record Shown : Type 0 where
  pub count : ℕ
  pub note : ℕ
  pub result : ℤ
  pub halves : ℕ
  pub locked : Bool
  pub pulse : ℕ

abbrev shown : ℕ → ℕ → ℤ → ℕ → Shown
shown n note r h = record { count = n; note = note; result = r; halves = h; locked = false; pulse = 0 }

abbrev shown_of : Burst → Shown
shown_of b =
    record {
      count = b.count;
      note = note_number b.answer.note;
      result = b.answer.result;
      halves = halves_number b.answer.halves;
      locked = (switch_at b.answer.state.live.switches 0).locked;
      pulse = (switch_at b.answer.state.live.switches 1).pulse;
    }

abbrev got : List ℤ → List ℕ → Shown
got t ws = shown_of (burst.burst_of (fresh_of t) ws)

pub cases : List (Worked Shown)
cases =
    -- none, all, up to a refused one, none since the first is refused
    case (got plain []) (shown 0 0 (pos 0) 0) ∷
    case (got plain (1 ∷ 2 ∷ 3 ∷ [])) (shown 3 0 (pos 3) 0) ∷
    case (got plain (5 ∷ refused ∷ 6 ∷ [])) (shown 1 11 (pos 5) 0) ∷
    case (got plain (refused ∷ 5 ∷ [])) (shown 0 11 (pos 0) 0) ∷
    -- 1,025, whose first is refused too: 21 comes first
    case (got plain (refused ∷ replicate 1024 7)) (shown 0 21 (pos 0) 0) ∷
    -- 1,000 and 2,000 are passed, and 0 is the last: the lock holds, and the pulse has begun
    case (got locking (1000 ∷ 2000 ∷ 0 ∷ [])) (record { count = 3; note = 0; result = pos 0; halves = 0; locked = true; pulse = 100 }) ∷
    -- 2 gives 3, and 1 gives 1.5, a half in scaling; the marks of the last one taken
    case (got halving (2 ∷ 1 ∷ [])) (shown 2 0 (pos 2) 1) ∷
    case (got halving (1 ∷ 2 ∷ [])) (shown 2 0 (pos 3) 0) ∷
    case (got halving (1 ∷ refused ∷ 2 ∷ [])) (shown 1 11 (pos 2) 1) ∷
    []

pub checked : AllWorked cases
unfolding cases fresh_of burst.burst_of burst.taken_from burst.noted step.step_of step.on_telegram step.answer_of step.displayed_of step.switched_of step.switches_after state.received_of state.reread_of follow.basis_after reading.accepts_of reading.directed_at reading.basis_of reading.measured_at reading.measurement_at reading.reading_of reading.drive_at reading.code_at reading.coded_at reading.marks_of reading.halves_of settings.layout_of settings.scaling_of settings.points_of settings.span_of settings.preselection_of settings.preselections_of ssi.accepted ssi.error_reported ssi.position_of measure.directed_of measure.distance_of measure.scaled_of measure.scaled_by measure.judged_of measure.used_points measure.value_of measure.measured_of measure.scaling_half measure.line_half measure.measurement_of curve.curve curve.linearized_of curve.linearized_by round_div floor_mod halved rounding row.default_table row.defaults_from row.row_at row.row_of code.code_of code.code_half code.coded_of code.held drives.float_of drives.drive_of switching.suppresses switching.released_of switching.held_of switching.pulse_of switching.signal_of switching.active_of switching.conditioned_of switching.locked_of switching.switched_of switching.partner_of switching.switched_at each_from condition.latched_of condition.on_above condition.on_below condition.on_near condition.compared condition.against condition.rule_of condition.condition_of condition.exceeds of_int mul div add
checked = refl
