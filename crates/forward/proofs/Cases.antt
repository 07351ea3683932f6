-- Every condition of `Forward` is needed: a table with a falling y, one with a round loop and one in reverse, each with the other conditions kept, and a run with a
-- reset between two telegrams; in each of them digits run back. And tables that meet all conditions, in the three modes of linearization.
-- One list of what the definitions give and what is worked out by hand, and one proof by computing. Request K14.
use Rattle.std.specs.Prelude.{◌≡◌, refl, Bool, true, false, List, [], ◌∷◌, ◌++◌, ℕ, ℤ, pos, negsuc, set}
use Rattle.integers.specs.Choice.{some}
use Rattle.integers.specs.Round.{round_div, floor_mod}
use Rattle.integers.specs.Worked.{Worked, case, AllWorked}
use Rattle.measurement.specs.Curve as curve
use Rattle.measurement.specs.Measure as measure
use Rattle.parameters.specs.Load as load
use Rattle.parameters.specs.Rows as row
use Rattle.parameters.specs.Search as search
use Rattle.parameters.specs.Slots as slot
use Rattle.reading.specs.Follow as follow
use Rattle.reading.specs.Reading as reading
use Rattle.settings.specs.Settings as settings
use Rattle.events.specs.declared.Event.{Event}
use Rattle.events.specs.declared.Event.TheVariants.{Telegram, Levels}
use Rattle.inputs.specs.Commands as commands
use Rattle.inputs.specs.Levels as levels
use Rattle.panel.specs.Step as step
use Rattle.runs.specs.Book as book
use Rattle.runs.specs.Book.{book_of}
use Rattle.runs.specs.Run.{answers_of, last_of, last_answer}
use Rattle.state.specs.State as state
use Rattle.state.specs.State.{fresh_of}
use Rattle.ssi.specs.Telegram as ssi
use Rattle.forward.specs.Forward.{falls_after, y_falls, position_at, reading_at, reset_by, reset_in}

-- ---- tables: the defaults, binary, some slots set

abbrev binary : List ℤ
binary = set row.default_table 2 (pos 1)

abbrev reverse : List ℤ
reverse = set binary 6 (pos 1)

abbrev circle : List ℤ
circle = set binary 7 (pos 360)

-- two points in a mode of linearization, (0, y) and (10, y₁)
abbrev line : ℕ → ℤ → ℤ → List ℤ
line m y y₁ = set (set (set (set binary 13 (pos m)) 57 y) 58 (pos 10)) 59 y₁

abbrev falling : List ℤ
falling = line 2 (pos 10) (pos 0)

-- one quadrant with O = 10, and four quadrants, level
abbrev rising : List ℤ
rising = set (line 1 (pos 0) (pos 5)) 5 (pos 10)

abbrev level : List ℤ
level = line 2 (pos 5) (pos 5)

-- ---- what is asked of a table, and what two telegrams give

pub record Given : Type 0 where
  pub position : ℕ
  pub error : ℕ
  pub result : ℤ

pub record Outcome : Type 0 where
  -- the number of the load's refusal, and the conditions
  pub refusal : ℕ
  pub direction : ℕ
  pub loop : ℕ
  pub falls : Bool
  pub first : Given
  pub second : Given

abbrev gives : ℕ → ℕ → ℤ → Given
gives p e r = record { position = p; error = e; result = r }

abbrev given : List ℤ → ℕ → Given
given t w = gives (position_at t w) (measure.error_number (reading_at t w).error) (reading_at t w).result

abbrev said : ℕ → ℕ → ℕ → Bool → Given → Given → Outcome
said n d l f g g' = record { refusal = n; direction = d; loop = l; falls = f; first = g; second = g' }

abbrev got : List ℤ → ℕ → ℕ → Outcome
got t w w' = said (load.load_refusal t) (slot.direction t) (slot.round_loop t) (y_falls t) (given t w) (given t w')

-- ---- the list: what the definitions give, and what is worked out by hand

pub cases : List (Worked Outcome)
cases =
    -- a falling y alone, a round loop alone, reverse alone: digits run back
    case (got falling 0 10) (said 0 0 0 true (gives 0 0 (pos 10)) (gives 10 0 (pos 0))) ∷
    case (got circle 359 360) (said 0 0 360 false (gives 359 0 (pos 359)) (gives 360 0 (pos 0))) ∷
    case (got reverse 1 2) (said 0 1 0 false (gives 1 0 (pos 33554431)) (gives 2 0 (pos 33554430))) ∷
    -- none of them, with linearization off, in one quadrant (−1.5 and 1.5, rounded) and in four: they do not
    case (got binary 1 2) (said 0 0 0 false (gives 1 0 (pos 1)) (gives 2 0 (pos 2))) ∷
    case (got rising 7 13) (said 0 0 0 false (gives 7 0 (negsuc 1)) (gives 13 0 (pos 2))) ∷
    case (got level 3 200) (said 0 0 0 false (gives 3 0 (pos 5)) (gives 200 0 (pos 5))) ∷
    -- with linearization off a falling y is not asked for
    case (got (set falling 13 (pos 0)) 0 10) (said 0 0 0 false (gives 0 0 (pos 0)) (gives 10 0 (pos 10))) ∷
    []

pub checked : AllWorked cases
unfolding cases falls_after y_falls some load.load_refusal load.conditions load.conflicts load.words_missing load.slot_out load.field_wrong load.error_bit_wrong load.span_empty load.not_above load.points_not_rising load.origin_missing load.frozen_by_edge load.freeze_on_edge load.differ load.differs_from load.polarities_differ search.first_of row.out_from row.in_range row.default_table row.defaults_from row.row_at row.row_of reading.directed_at reading.basis_of reading.measured_at reading.reading_of settings.layout_of settings.scaling_of settings.points_of ssi.error_reported ssi.position_of measure.directed_of measure.distance_of measure.scaled_of measure.judged_of measure.used_points measure.value_of measure.measured_of curve.points_from curve.right_of curve.four_quadrants curve.one_quadrant curve.curve curve.linearized_of round_div floor_mod
checked = refl

-- ---- a reset between two telegrams

-- input 1 resets
abbrev resetting : List ℤ
resetting = set binary 49 (pos 1)

abbrev at_first : List Event
at_first = Telegram 1000 ∷ []

abbrev more : List Event
more = Levels 1 ∷ Telegram 1003 ∷ []

-- 1,000 gives 1,000; then a reset; then 1,003 gives 3
pub reset-between :
    (reset_in resetting (book_of resetting at_first) more ≡ true) × (((last_answer resetting at_first).result ≡ pos 1000) × ((last_answer resetting (at_first ++ more)).result ≡ pos 3))
unfolding last_of answers_of fresh_of step.step_of step.on_telegram step.on_levels step.answer_of step.displayed_of step.switched_of state.received_of state.reread_of reading.accepts_of reading.directed_at reading.basis_of follow.basis_after reading.measured_at reading.reading_of settings.layout_of settings.scaling_of settings.points_of settings.input_at settings.action_of settings.config_of ssi.accepted ssi.error_reported ssi.position_of measure.directed_of measure.distance_of measure.scaled_of measure.judged_of measure.used_points measure.value_of measure.measured_of curve.curve curve.linearized_of round_div row.default_table row.defaults_from row.row_at row.row_of reset_by reset_in some book.asks_reset book.book_refusal book.book_input book.book_step book.book_from commands.reset_refusal commands.refusal_of commands.reset_of commands.carried_out commands.command_of levels.edge_at levels.input_of levels.commands_of levels.acts_on
reset-between = (refl, (refl, refl))
