-- DEMAND 3 OF WHAT IS PRINTED, proved: line by line, the output's events step the panel as the run does; so what `runs` proves of every list of events holds of the
-- events of the log that was read.
use Rattle.std.specs.Prelude.{◌≡◌, refl, None, List, [], ◌∷◌, ◌++◌, ℕ, ◌+◌, ◌≤◌, ◌<◌, ℤ, length}
use Rattle.std.proofs.Math.Path.{ap}
use Rattle.std.proofs.Common.{◌∙◌, arith, lt-ltb, eq-eqb}
use Rattle.state.specs.declared.State.{State}
use Rattle.state.specs.State.{fresh_of}
use Rattle.decimal.specs.Decimal.{largest}
use Rattle.events.specs.declared.Event.{Event}
use Rattle.lines.specs.Lines.{event_line, next_count}
use Rattle.logrun.specs.Input.{table_of}
use Rattle.logrun.specs.Output.{lines_of, run_text, output_of}
use Rattle.panel.specs.declared.Answer.{Answer}
use Rattle.panel.specs.Load.{loaded_of}
use Rattle.panel.specs.Step.{step_of}
use Rattle.parameters.specs.Load.{load_refusal}
use Rattle.parameters.proofs.LoadLaws.{answer-none, answer-table}
use Rattle.runs.proofs.Demand3Laws.{demand3}
use Rattle.runs.specs.Run.{answers_of}
use Rattle.printed_runs.specs.Printed.{log_in, answers_in, answer_lines, numbered_lines, PrintedRun, Demanded}

-- the lines of events from a state on are those of the answers from there on
pub lines-of-answers : (count : ℕ) (s : State) (es : List Event) → lines_of count s es ≡ answer_lines count es (answers_of s es)
unfolding lines_of answer_lines answers_of
lines-of-answers count s [] = refl
lines-of-answers count s (e ∷ es) = ap (λ (l : List ℕ). event_line (next_count count) e (step_of s e) ++ l) (lines-of-answers (next_count count) (step_of s e).state es)

-- the count of fewer than 10 ^ 18 events is not held
next_count-next : (n : ℕ) → n < largest → next_count n ≡ n + 1
unfolding next_count
next_count-next n h = rw (lt-ltb n largest h)

numbered-lines : (count : ℕ) (es : List Event) (answers : List Answer) → count + length es ≤ largest → answer_lines count es answers ≡ numbered_lines (count + 1) es answers
unfolding answer_lines numbered_lines
numbered-lines count [] answers h = refl
numbered-lines count (e ∷ es) [] h = refl
numbered-lines count (e ∷ es) (a ∷ answers) h = rw (next_count-next count (omega arith), numbered-lines (count + 1) es answers (omega arith))

-- a table that loads
module _ (t : List ℤ) (loads : load_refusal t ≡ 0) where
  loaded-number : (loaded_of t).refusal ≡ None
  unfolding loaded_of
  loaded-number = answer-none t loads

  loaded-fresh : (loaded_of t).state ≡ fresh_of t
  unfolding loaded_of
  loaded-fresh = ap fresh_of (answer-table t loads)

pub demanded : Demanded
unfolding output_of run_text
demanded input loads =
    record {
      printed =
          rw (loaded-number (table_of input) loads, loaded-fresh (table_of input) loads, lines-of-answers 0 (fresh_of (table_of input)) (log_in input).events);
      numbered = λ h. numbered-lines 0 (log_in input).events (answers_in input) (omega (arith, h));
      demand = demand3 (table_of input) loads (log_in input).events;
    }
