-- THE SERVICE SCREEN, stated. In a PLC programmer's words: present is what the line is driven with now; lowest and highest are the drives of the least and the greatest
-- code that it was driven with since the last clear; and where none was driven since then they are empty. Nobody has to believe in floats: the codes are whole
-- numbers, a code's drive is exactly the paper's fraction (`unrounded` of analog), and drives compare as codes do (`drive-order`).
-- Paper 02, K6. This file is definitions only; `ends_so` of EventLaws and `screened` of ScreenLaws prove it.
use Rattle.std.specs.Prelude.{◌≡◌, Bool, true, false, cond, ◌&&◌, List, [], ◌∷◌, ℕ, T, leb, ℤ}
use Rattle.analog.specs.declared.Drive.{Drive}
use Rattle.analog.specs.Drives.{float_of}
use Rattle.driverecord.specs.declared.DriveRecord.{DriveRecord}
use Rattle.driverecord.specs.Codes.{driven_by, record_of}
use Rattle.driverecord.specs.DriveRecord.{is_on, present_of, updated_of, cleared_at}
use Rattle.events.specs.declared.Event.{Event}
use Rattle.events.specs.declared.Event.TheVariants.{Telegram, Levels, Tick}
use Rattle.inputs.specs.Commands.{Acted}
use Rattle.inputs.specs.Levels.{edge_at, some_input}
use Rattle.driverecord.specs.Least.{Among, Between}
use Rattle.panel.specs.declared.Answer.{Answer}
use Rattle.panel.specs.Step.{step_of}
use Rattle.reading.specs.Reading.{accepts_of}
use Rattle.runs.specs.Run.{run_of, last_answer}
use Rattle.settings.specs.Settings.{is_clear_extremes, span_of, input_at}
use Rattle.state.specs.declared.State.{State}
use Rattle.state.specs.State.{fresh_of}

-- ---- an event

-- "each accepted event": not refused by 10 or 11; levels are accepted also where a command of theirs is refused
unfoldable pub accepted : State → Event → Bool
accepted s (Telegram w) = accepts_of s.table w
accepted s (Levels l) = leb l 7
accepted s (Tick ms) = true

-- input i + 1 clears min/max, on what the earlier ones left
unfoldable pub clears_at : ℕ → ℕ → Acted → Bool
clears_at l i x = edge_at x.state l i && is_clear_extremes (input_at x.state.table i).action

-- some input does, whichever it is
unfoldable pub clears : State → Event → Bool
clears s (Telegram w) = false
clears s (Levels l) = some_input (clears_at l) s l
clears s (Tick ms) = false

-- the record at the end of an accepted event, where d drives the line: "there clear min/max sets both to present, or marks them empty when off"
unfoldable pub at_the_end : Bool → DriveRecord → Drive → DriveRecord
at_the_end cleared r d = cond cleared (cleared_at d) (updated_of r d)

-- THE REQUEST IN ONE EQUATION, for every state and event: a refused event leaves the record, an accepted one ends so
abbrev pub EndsSo : Type 0
EndsSo = (s : State) (e : Event) →
    (step_of s e).state.live.driven ≡ cond (accepted s e) (at_the_end (clears s e) s.live.driven (step_of s e).drive) s.live.driven

-- ---- a run

-- the codes driven since the last clear, the newest first, after an event that is answered by a
unfoldable pub codes_by : Bool → Bool → Answer → List ℤ → List ℤ
codes_by accepted cleared a cs = cond accepted (driven_by a.drive a.state.live.reading.code (cond cleared [] cs)) cs

-- after a list of events
unfoldable pub codes_from : State → List ℤ → List Event → List ℤ
codes_from s cs [] = cs
codes_from s cs (e ∷ es) = codes_from (step_of s e).state (codes_by (accepted s e) (clears s e) (step_of s e) cs) es

abbrev pub codes_of : List ℤ → List Event → List ℤ
codes_of t es = codes_from (fresh_of t) [] es

-- what the record is after a run
pub record Screen (t : List ℤ) (es : List Event) : Type 0 where
  -- lowest and highest are the drives of the least and the greatest of these codes, or empty where there is none
  pub told : (run_of (fresh_of t) es).live.driven ≡ record_of (span_of t).format (present_of (last_answer t es).drive) (codes_of t es)
  -- where the line is driven, present is the drive of the code, which is one of them
  pub present : T (is_on (last_answer t es).drive) → present_of (last_answer t es).drive ≡ float_of (span_of t).format (last_answer t es).state.live.reading.code
  pub driven : T (is_on (last_answer t es).drive) → Among (last_answer t es).state.live.reading.code (codes_of t es)
  -- so that lowest is at most present and present at most highest
  pub between : T (is_on (last_answer t es).drive) → Between (last_answer t es).state.live.reading.code (codes_of t es)

-- for every table, so for every one that loads, and every list of events
abbrev pub Screened : Type 0
Screened = (t : List ℤ) (es : List Event) → Screen t es
