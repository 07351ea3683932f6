-- DEMAND 3 OF WHAT IS PRINTED, stated. For every input whose table loads: the output is the header, a line for each answer of the run of the log's events from the
-- table's fresh state, and the end; and demand 3 holds of that table and those events.
-- Paper 01, "panelrun and its log" and "Runs". This file is definitions only; `demanded` of PrintedLaws proves it.
use Rattle.std.specs.Prelude.{◌≡◌, List, [], ◌∷◌, ◌++◌, ℕ, ◌+◌, ◌≤◌, length}
use Rattle.state.specs.State.{fresh_of}
use Rattle.decimal.specs.Decimal.{largest}
use Rattle.events.specs.declared.Event.{Event}
use Rattle.events.specs.Bytes.{log_of_bytes}
use Rattle.events.specs.Log.{Log}
use Rattle.lines.specs.Lines.{header_line, event_line, next_count, end_line}
use Rattle.logrun.specs.Input.{table_of, log_bytes}
use Rattle.logrun.specs.Output.{output_of}
use Rattle.panel.specs.declared.Answer.{Answer}
use Rattle.parameters.specs.Load.{load_refusal}
use Rattle.runs.specs.Demand3.{Demand3}
use Rattle.runs.specs.Run.{answers_of}

-- the log of an input
abbrev pub log_in : List ℕ → Log
log_in input = log_of_bytes (log_bytes input)

-- the answers of its run
abbrev pub answers_in : List ℕ → List Answer
answers_in input = answers_of (fresh_of (table_of input)) (log_in input).events

-- a line for each event and its answer, counted on from so many
unfoldable pub answer_lines : ℕ → List Event → List Answer → List ℕ
answer_lines count [] answers = []
answer_lines count (e ∷ es) [] = []
answer_lines count (e ∷ es) (a ∷ answers) = event_line (next_count count) e a ++ answer_lines (next_count count) es answers

-- the same with the plain numbers n, n + 1 ..
unfoldable pub numbered_lines : ℕ → List Event → List Answer → List ℕ
numbered_lines n [] answers = []
numbered_lines n (e ∷ es) [] = []
numbered_lines n (e ∷ es) (a ∷ answers) = event_line n e a ++ numbered_lines (n + 1) es answers

pub record PrintedRun (input : List ℕ) : Type 0 where
  -- what is printed is what the run answers
  pub printed : output_of input ≡ header_line ++ answer_lines 0 (log_in input).events (answers_in input) ++ end_line (log_in input).refusal
  -- "Events are counted from 1": in every run of fewer than 10 ^ 18 events
  pub numbered : length (log_in input).events ≤ largest → answer_lines 0 (log_in input).events (answers_in input) ≡ numbered_lines 1 (log_in input).events (answers_in input)
  -- demand 3 of the run
  pub demand : Demand3 (table_of input) (log_in input).events

abbrev pub Demanded : Type 0
Demanded = (input : List ℕ) → load_refusal (table_of input) ≡ 0 → PrintedRun input
