-- The encoder's end under both rules, and what the conditions are for: the old rule jumps where M is no multiple of R, does not where it is, and refuses by 12 a reset
-- that the count takes; and a move of half the range cannot be told from one the other way. One list of what the definitions give and what is worked out by hand, and
-- one proof by computing. Paper 02, K4.
use Rattle.std.specs.Prelude.{refl, List, [], ◌∷◌, ℕ, ℤ, pos, set}
use Rattle.events.specs.declared.Event.{Event}
use Rattle.events.specs.declared.Event.TheVariants.{Telegram, Levels}
use Rattle.inputs.specs.Commands as commands
use Rattle.inputs.specs.Levels as levels
use Rattle.integers.specs.Round.{round_div, floor_mod}
use Rattle.integers.specs.Worked.{Worked, case, AllWorked}
use Rattle.measurement.specs.Curve as curve
use Rattle.measurement.specs.Measure as measure
use Rattle.panel.specs.declared.Answer.{Answer}
use Rattle.panel.specs.Step as step
use Rattle.parameters.specs.Rows as row
use Rattle.reading.specs.Follow as follow
use Rattle.reading.specs.Reading as reading
use Rattle.roundloop.specs.Count as count
use Rattle.runs.specs.Run.{answers_of}
use Rattle.settings.specs.Settings as settings
use Rattle.ssi.specs.Telegram as ssi
use Rattle.state.specs.State as state
use Rattle.state.specs.Refusal.{note_number}
use Rattle.state.specs.State.{fresh_of}
use Rattle.turntable.specs.OldRule.{old_received, old_telegram, old_step, old_answers}

-- ---- tables: the defaults with 25 bits, binary, a round loop, and a reset at input 1

abbrev circle : ℕ → List ℤ
circle R = set (set (set row.default_table 2 (pos 1)) 7 (pos R)) 49 (pos 1)

abbrev reverse : ℕ → List ℤ
reverse R = set (circle R) 6 (pos 1)

-- 32 bits
abbrev wide : ℕ → List ℤ
wide R = set (set (circle R) 0 (pos 32)) 3 (pos 32)

-- ---- result and note of each answer, by the count and by the rule before

pub record Given : Type 0 where
  pub result : ℤ
  pub note : ℕ

abbrev gives : ℤ → ℕ → Given
gives r n = record { result = r; note = n }

abbrev told : List Answer → List Given
told [] = []
told (a ∷ rest) = gives a.result (note_number a.note) ∷ told rest

pub record Rules : Type 0 where
  pub new : List Given
  pub old : List Given

abbrev got : List ℤ → List Event → Rules
got t es = record { new = told (answers_of (fresh_of t) es); old = told (old_answers (fresh_of t) es) }

abbrev give : List Given → List Given → Rules
give n o = record { new = n; old = o }

-- two telegrams
abbrev two : ℕ → ℕ → List Event
two w w' = Telegram w ∷ Telegram w' ∷ []

abbrev results : ℤ → ℤ → List Given
results r r' = gives r 0 ∷ gives r' 0 ∷ []

pub cases : List (Worked Rules)
cases =
    -- 33,554,431 = 9,320 × 3,600 + 2,431: one step on over the end is 2,432, where the old rule jumps to 0; and one step back from 0 is 3,599, where it jumps to 2,431
    case (got (circle 3600) (two 33554431 0)) (give (results (pos 2431) (pos 2432)) (results (pos 2431) (pos 0))) ∷
    case (got (circle 3600) (two 0 33554431)) (give (results (pos 0) (pos 3599)) (results (pos 0) (pos 2431))) ∷
    -- in reverse the telegrams 1 and 0 are the positions 33,554,431 and 0
    case (got (reverse 3600) (two 1 0)) (give (results (pos 2431) (pos 2432)) (results (pos 2431) (pos 0))) ∷
    -- 2 ^ 25 is 32,768 × 1,024: the rules agree
    case (got (circle 1024) (two 33554431 0)) (give (results (pos 1023) (pos 0)) (results (pos 1023) (pos 0))) ∷
    -- 2 ^ 32 is a multiple of 1,024 too, but above Z the old rule refuses a reset by 12
    case (got (wide 1024) (Telegram 4294967295 ∷ Levels 1 ∷ [])) (give (results (pos 1023) (pos 0)) (gives (pos 1023) 0 ∷ gives (pos 1023) 12 ∷ [])) ∷
    -- half the range on is counted as half the range back: −16,777,216 = −4,661 × 3,600 + 2,384
    case (got (circle 3600) (two 0 16777216)) (give (results (pos 0) (pos 2384)) (results (pos 0) (pos 1216))) ∷
    []

pub checked : AllWorked cases
unfolding cases answers_of fresh_of old_received old_telegram old_step old_answers step.step_of step.on_telegram step.on_levels step.answer_of step.displayed_of step.switched_of state.received_of state.reread_of follow.basis_after follow.followed_of follow.count_after count.first_count count.counted_of count.step_from reading.accepts_of reading.directed_at reading.basis_of reading.measured_at reading.reading_of settings.layout_of settings.scaling_of settings.points_of settings.input_at settings.action_of settings.config_of ssi.accepted ssi.error_reported ssi.position_of measure.directed_of measure.distance_of measure.scaled_of measure.judged_of measure.used_points measure.value_of measure.measured_of curve.curve curve.linearized_of round_div floor_mod row.default_table row.defaults_from row.row_at row.row_of commands.reset_refusal commands.refusal_of commands.reset_of commands.carried_out commands.command_of levels.edge_at levels.input_of levels.commands_of levels.acts_on
checked = refl
