-- A step: an event and a state give the answer, with the new state in it; a refused event changes nothing.
-- Paper 01, "Events and inputs", "Switching" and "Where each check sits", event; paper 02, K6, the record, and K7, the marks in the answer. Assumes nothing.
use Rattle.std.specs.Prelude.{Option, Some, Bool, cond, List, ℕ, leb, ℤ}
use Rattle.state.specs.declared.Outcome.{Outcome}
use Rattle.state.specs.declared.Refusal.{Refusal}
use Rattle.state.specs.declared.Refusal.TheVariants.{LevelsAbove, BitAbove}
use Rattle.state.specs.declared.State.{State}
use Rattle.state.specs.Refusal.{no_note}
use Rattle.state.specs.State.{state_of, with_levels, with_shown, with_switches, recorded_of, halves_in, received_of}
use Rattle.inputs.specs.Levels.{commands_of, marks_left}
use Rattle.inputs.specs.Freeze.{frozen}
use Rattle.events.specs.declared.Event.{Event}
use Rattle.events.specs.declared.Event.TheVariants.{Telegram, Levels, Tick}
use Rattle.reading.specs.declared.Halves.{Halves}
use Rattle.reading.specs.Reading.{accepts_of, no_halves}
use Rattle.settings.specs.Settings.{preselections_of}
use Rattle.switching.specs.declared.Switch.{Switch}
use Rattle.switching.specs.Outputs.{outputs_of}
use Rattle.switching.specs.Switching.{all_switched, all_ticked}
use Rattle.panel.specs.declared.Answer.{Answer}

-- ---- the answer

-- the levels of the outputs that a table and its switches give
abbrev pub outputs_in : List ℤ → List Switch → List Bool
outputs_in t ss = outputs_of (preselections_of t) ss

-- "carries the new state, the result, the shown value, error, output levels, drive and a note"; K7, "the event's answer gives the three marks"
unfoldable pub answer_of : State → Option Refusal → Halves → Answer
answer_of s note halves =
    record {
      state = s;
      result = s.live.reading.result;
      shown = s.live.shown;
      error = s.live.reading.error;
      outputs = outputs_in s.table s.live.switches;
      drive = s.live.reading.drive;
      note = note;
      halves = halves;
    }

-- what a state answers that was given no event: no note, and no marks
abbrev pub unasked : State → Answer
unasked s = answer_of s no_note no_halves

-- the answer that a table and the outcome beside it give
abbrev pub answer_by : List ℤ → Outcome → Answer
answer_by t o = answer_of (state_of t o.live) o.note o.halves

-- ---- after the commands

-- Switching, "After each telegram or levels event, once a telegram was accepted"
unfoldable pub switches_after : Bool → List ℤ → ℤ → List Switch → List Switch
switches_after seen t r ss = cond seen (all_switched (preselections_of t) r ss) ss

unfoldable pub switched_of : State → State
switched_of s = with_switches s (switches_after s.live.seen s.table s.live.reading.result s.live.switches)

-- "It holds the shown value as it was before the event and nothing else. Without freeze, shown equals result"
unfoldable pub shown_after : List ℤ → ℕ → ℤ → ℤ → ℤ
shown_after t l shown result = cond (frozen t l) shown result

unfoldable pub displayed_of : State → State
displayed_of s = with_shown s (shown_after s.table s.live.levels s.live.shown s.live.reading.result)

abbrev pub settled_of : State → State
settled_of s = displayed_of (switched_of s)

-- K6, the record "is brought up to date at the end of each accepted event"
abbrev pub ended_of : State → State
ended_of s = recorded_of (settled_of s)

-- ---- the three events

-- K7, "All three are no .. on a refused event .. and on any event but a telegram or a reset carried out"

-- 11: a telegram bit above N is set
unfoldable pub on_telegram : State → ℕ → Answer
on_telegram s w = cond (accepts_of s.table w) (answer_of (ended_of (received_of s w)) no_note (halves_in (received_of s w))) (answer_of s (Some BitAbove) no_halves)

-- 10: levels above 7
unfoldable pub on_levels : State → ℕ → Answer
on_levels s l = cond (leb l 7) (answer_of (ended_of (with_levels (commands_of s l).state l)) (commands_of s l).note (marks_left s l)) (answer_of s (Some LevelsAbove) no_halves)

-- Switching, "ticks use it up": pulses, and through them signals and outputs
unfoldable pub on_tick : State → ℕ → Answer
on_tick s ms = answer_of (recorded_of (with_switches s (all_ticked ms s.live.switches))) no_note no_halves

unfoldable pub step_of : State → Event → Answer
step_of s (Telegram w) = on_telegram s w
step_of s (Levels l) = on_levels s l
step_of s (Tick ms) = on_tick s ms
