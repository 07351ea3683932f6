-- A log is worked off word by word: each word takes the run a step further and gives the bytes that are printed for it.
-- Paper 01, "panelrun and its log" and "Runs". Assumes nothing.
use Rattle.std.specs.Prelude.{cond, List, [], ◌∷◌, ◌++◌, ℕ, ◌≤◌, ℤ, Bool, not, Option, Some, None, Result, Ok, Err, is_some}
use Rattle.state.specs.declared.State.{State}
use Rattle.state.specs.State.{state_of}
use Rattle.state.specs.Valid.{Good}
use Rattle.decimal.specs.Decimal.{largest}
use Rattle.events.specs.declared.Pending.{Pending}
use Rattle.events.specs.declared.Refusal.{Refusal}
use Rattle.events.specs.Log.{Taken, fresh_pending, taken_of, end_of}
use Rattle.lines.specs.Lines.{event_line, next_count}
use Rattle.panel.specs.Step.{step_of}
use Rattle.logrun.specs.declared.Course.{Course}
use Rattle.logrun.specs.declared.Progress.{Progress}

-- before the first word
abbrev pub start_of : State → Progress
start_of s = record { state = s; pending = fresh_pending; count = 0; refusal = None }

-- a run's progress of its table and its course beside it, and its course
abbrev pub progress_of : List ℤ → Course → Progress
progress_of t c = record { state = state_of t c.live; pending = c.pending; count = c.count; refusal = c.refusal }

abbrev pub course_of : Progress → Course
course_of p = record { live = p.state.live; pending = p.pending; count = p.count; refusal = p.refusal }

-- what a word gives takes the run further: an event steps the panel, an upper half is kept, a refusal ends the run
unfoldable pub after_taken : Progress → Pending → Taken → Progress
after_taken p q (Ok (Some e)) = record { state = (step_of p.state e).state; pending = q; count = next_count p.count; refusal = None }
after_taken p q (Ok None) = record { state = p.state; pending = q; count = p.count; refusal = None }
after_taken p q (Err refusal) = record { state = p.state; pending = q; count = p.count; refusal = Some refusal }

-- only an event has a line
unfoldable pub text_taken : Progress → Taken → List ℕ
text_taken p (Ok (Some e)) = event_line (next_count p.count) e (step_of p.state e)
text_taken p (Ok None) = []
text_taken p (Err refusal) = []

-- no refusal has ended the log
abbrev pub running : Progress → Bool
running p = not (is_some p.refusal)

-- one word: "A log refusal ends the run", so a word behind it does nothing
unfoldable pub word_fed : Progress → ℕ → Progress
word_fed p w = cond (running p) (after_taken p (taken_of p.pending w).pending (taken_of p.pending w).taken) p

unfoldable pub word_text : Progress → ℕ → List ℕ
word_text p w = cond (running p) (text_taken p (taken_of p.pending w).taken) []

-- the words of a piece of the log, one after the other
unfoldable pub words_fed : Progress → List ℕ → Progress
words_fed p [] = p
words_fed p (w ∷ ws) = words_fed (word_fed p w) ws

unfoldable pub words_text : Progress → List ℕ → List ℕ
words_text p [] = []
words_text p (w ∷ ws) = word_text p w ++ words_text (word_fed p w) ws

-- "`end` carries 0 or the log's refusal": the one that ended the run, or what the end of the log gives with the bytes left over
abbrev pub ended_by : Option Refusal → Result Unit Refusal → Result Unit Refusal
ended_by (Some refusal) end = Err refusal
ended_by None end = end

unfoldable pub finished_of : Progress → ℕ → Result Unit Refusal
finished_of p left = ended_by p.refusal (end_of p.pending left)

-- the validity of a run, which each function asks for and promises again: a good state, and a count that is printed
pub record Ready (p : Progress) : Type 0 where
  pub state : Good p.state
  pub count : p.count ≤ largest
