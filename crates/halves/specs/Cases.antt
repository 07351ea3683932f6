-- A mark matters, and "without error" is needed: telegrams at which the two firmwares differ, each with its marks, and telegrams at which they do not.
-- One list of what the definitions give and what is worked out by hand, and one proof by computing. Request K7.
use Rattle.std.specs.Prelude.{refl, true, false, List, [], ◌∷◌, ℕ, ℤ, pos, negsuc, set}
use Rattle.analog.specs.AnalogCode as analog
use Rattle.events.specs.declared.Event.TheVariants.{Telegram}
use Rattle.integers.specs.Round.{round_div, halved, rounding}
use Rattle.integers.specs.Upward.{round_up}
use Rattle.integers.specs.Worked.{Worked, case, AllWorked}
use Rattle.measurement.specs.Curve as curve
use Rattle.measurement.specs.Measure as measure
use Rattle.panel.specs.declared.Answer.{Answer}
use Rattle.panel.specs.Step as step
use Rattle.parameters.specs.Rows as row
use Rattle.reading.specs.declared.Halves.{Halves}
use Rattle.reading.specs.Follow as follow
use Rattle.reading.specs.Reading as reading
use Rattle.reading.specs.Reading.{halves}
use Rattle.settings.specs.Settings as settings
use Rattle.ssi.specs.Telegram as ssi
use Rattle.state.specs.State as state
use Rattle.halves.specs.Upward as other

-- ---- tables: the defaults, binary, some slots set

abbrev binary : List ℤ
binary = set row.default_table 2 (pos 1)

-- factor 1.5; its offset
abbrev by : ℤ → List ℤ
by O = set (set binary 10 (pos 150000)) 5 O

-- four quadrants (−100, −50), (0, 0), (200, 300); the offset
abbrev bent : ℤ → List ℤ
bent O =
    set (set (set (set (set (set (set (set (set binary 5 O) 13 (pos 2)) 55 (pos 3)) 56 (negsuc 99)) 57 (negsuc 49)) 58 (pos 0)) 59 (pos 0)) 60 (pos 200)) 61 (pos 300)

-- ---- what both firmwares have for a telegram from the fresh state: error, result and code, and our marks

pub record Shown : Type 0 where
  pub error : ℕ
  pub result : ℤ
  pub code : ℤ

pub record Both : Type 0 where
  pub ours : Shown
  pub marks : Halves
  pub theirs : Shown

abbrev shown : ℕ → ℤ → ℤ → Shown
shown e r z = record { error = e; result = r; code = z }

abbrev answer : List ℤ → ℕ → Answer
answer t w = step.step_of (state.fresh_of t) (Telegram w)

abbrev both : Shown → Halves → Shown → Both
both o h u = record { ours = o; marks = h; theirs = u }

-- their code is that of our result
abbrev got : List ℤ → ℕ → Both
got t w =
    both
    (shown (measure.error_number (answer t w).error) (answer t w).result (answer t w).state.live.reading.code)
    (answer t w).halves
    (shown (measure.error_number (other.measured_up t (reading.basis_of t w)).error) (other.measured_up t (reading.basis_of t w)).result (other.code_up (settings.span_of t) (answer t w).result))

pub cases : List (Worked Both)
cases =
    -- scaling, 1.5 and −1.5: both halves are marked, and the one below zero differs
    case (got (by (pos 0)) 1) (both (shown 0 (pos 2) (pos 7)) (halves true false false) (shown 0 (pos 2) (pos 7))) ∷
    case (got (by (pos 1)) 0) (both (shown 0 (negsuc 1) (negsuc 6)) (halves true false false) (shown 0 (negsuc 0) (negsuc 6))) ∷
    -- linearization, v = 3 is 4.5 and v = −1 is −0.5; at the points 0 and 200 and beyond the last there is no mark
    case (got (bent (pos 0)) 3) (both (shown 0 (pos 5) (pos 16)) (halves false true false) (shown 0 (pos 5) (pos 16))) ∷
    case (got (bent (pos 1)) 0) (both (shown 0 (negsuc 0) (negsuc 2)) (halves false true false) (shown 0 (pos 0) (negsuc 2))) ∷
    case (got (bent (pos 0)) 0) (both (shown 0 (pos 0) (pos 0)) (halves false false false) (shown 0 (pos 0) (pos 0))) ∷
    case (got (bent (pos 0)) 200) (both (shown 0 (pos 300) (pos 983)) (halves false false false) (shown 0 (pos 300) (pos 983))) ∷
    case (got (bent (pos 0)) 201) (both (shown 0 (pos 300) (pos 983)) (halves false false false) (shown 0 (pos 300) (pos 983))) ∷
    -- the code, 16,383.5 and −16,383.5; and 49,150.5, held to 32,767 and marked all the same
    case (got binary 5000) (both (shown 0 (pos 5000) (pos 16384)) (halves false false true) (shown 0 (pos 5000) (pos 16384))) ∷
    case (got (set binary 5 (pos 5000)) 0) (both (shown 0 (negsuc 4999) (negsuc 16383)) (halves false false true) (shown 0 (negsuc 4999) (negsuc 16382))) ∷
    case (got binary 15000) (both (shown 0 (pos 15000) (pos 32767)) (halves false false true) (shown 0 (pos 15000) (pos 32767))) ∷
    -- −1.5 and A = −99,999,998: exactly −99,999,999.5 is error 2 here, without a mark, and −99,999,999 there
    case (got (set (by (pos 1)) 12 (negsuc 99999997)) 0) (both (shown 2 (pos 0) (pos 0)) (halves false false false) (shown 0 (negsuc 99999998) (pos 0))) ∷
    []

pub checked : AllWorked cases
unfolding cases state.fresh_of step.step_of step.on_telegram step.answer_of step.displayed_of step.switched_of state.received_of state.reread_of reading.accepts_of reading.directed_at reading.basis_of follow.basis_after reading.measured_at reading.measurement_at reading.code_at reading.coded_at reading.reading_of reading.marks_of reading.halves_of settings.layout_of settings.scaling_of settings.points_of settings.span_of ssi.accepted ssi.error_reported ssi.position_of measure.directed_of measure.distance_of measure.scaled_of measure.scaled_by measure.judged_of measure.used_points measure.value_of measure.measured_of measure.scaling_half measure.line_half measure.measurement_of curve.points_from curve.right_of curve.four_quadrants curve.curve curve.linearized_of curve.linearized_by round_div halved rounding round_up analog.code_of analog.code_half analog.coded_of analog.held other.scaled_up other.linearized_up other.value_up other.measured_up other.code_up row.default_table row.defaults_from row.row_at row.row_of
checked = refl
