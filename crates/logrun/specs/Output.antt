-- THE MEANING of panelrun: the bytes that it prints for the bytes of its standard input.
-- Paper 01, "panelrun and its log". Assumes nothing.
use Rattle.std.specs.Prelude.{cond, is_none, List, [], ◌∷◌, ◌++◌, ℕ}
use Rattle.events.specs.declared.Event.{Event}
use Rattle.events.specs.Log.{Log}
use Rattle.events.specs.Bytes.{log_of_bytes}
use Rattle.lines.specs.Lines.{header_line, event_line, next_count, load_line, end_line}
use Rattle.panel.specs.declared.Loaded.{Loaded}
use Rattle.state.specs.declared.State.{State}
use Rattle.parameters.specs.Refusals.{number_told, slot_told}
use Rattle.panel.specs.Load.{loaded_of}
use Rattle.panel.specs.Step.{step_of}
use Rattle.logrun.specs.Input.{table_of, log_bytes}

-- "each gets the state the last returned": the lines of events from a state on, behind so many events
unfoldable pub lines_of : ℕ → State → List Event → List ℕ
lines_of count s [] = []
lines_of count s (e ∷ es) = event_line (next_count count) e (step_of s e) ++ lines_of (next_count count) (step_of s e).state es

-- a loaded table: the header, the lines of the log's events, and the end with the log's number
unfoldable pub run_text : State → Log → List ℕ
run_text s log = header_line ++ lines_of 0 s log.events ++ end_line log.refusal

-- "A refused table prints only `load`, number, slot"
abbrev pub output_for : Loaded → Log → List ℕ
output_for l log = cond (is_none l.refusal) (run_text l.state log) (load_line (number_told l.refusal) (slot_told l.refusal))

-- what is printed for the table alone: the header, or the line of its refusal
unfoldable pub opening_text : Loaded → List ℕ
opening_text l = cond (is_none l.refusal) header_line (load_line (number_told l.refusal) (slot_told l.refusal))

unfoldable pub output_of : List ℕ → List ℕ
output_of input = output_for (loaded_of (table_of input)) (log_of_bytes (log_bytes input))
