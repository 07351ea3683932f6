-- THE RULE BEFORE K4: with a round loop too, a result starts from p of its own telegram, whatever came before; a reset stores p, and 12 refuses one above Z.
-- It stands here for the theorem that compares it with the count (`RulesAgree`), and for nothing else. Paper 01, "From telegram to result", step 2. Assumes nothing.
use Rattle.std.specs.Prelude.{Some, cond, List, [], ◌∷◌, ℕ}
use Rattle.events.specs.declared.Event.{Event}
use Rattle.events.specs.declared.Event.TheVariants.{Telegram, Levels, Tick}
use Rattle.panel.specs.declared.Answer.{Answer}
use Rattle.panel.specs.Step.{answer_of, ended_of, on_levels, on_tick}
use Rattle.reading.specs.Reading.{accepts_of, basis_of, no_halves}
use Rattle.state.specs.declared.Refusal.TheVariants.{BitAbove}
use Rattle.state.specs.declared.State.{State}
use Rattle.state.specs.Refusal.{no_note}
use Rattle.state.specs.State.{with_basis, halves_in, reread_of}

-- step 2: "d = p − O, and with R above 0 that modulo R"
unfoldable pub old_received : State → ℕ → State
old_received s w = reread_of (with_basis s (basis_of s.table w))

unfoldable pub old_telegram : State → ℕ → Answer
old_telegram s w = cond (accepts_of s.table w) (answer_of (ended_of (old_received s w)) no_note (halves_in (old_received s w))) (answer_of s (Some BitAbove) no_halves)

-- levels and ticks have not changed: a reset stores what the result starts from, here p
unfoldable pub old_step : State → Event → Answer
old_step s (Telegram w) = old_telegram s w
old_step s (Levels l) = on_levels s l
old_step s (Tick ms) = on_tick s ms

unfoldable pub old_answers : State → List Event → List Answer
old_answers s [] = []
old_answers s (e ∷ es) = old_step s e ∷ old_answers (old_step s e).state es
