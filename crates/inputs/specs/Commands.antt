-- The commands: what an action does to a state, and when it is refused; a refused one changes nothing.
-- Paper 01, "Events and inputs", second paragraph, and "Where each check sits", command. Assumes nothing.
use Rattle.std.specs.Prelude.{Some, is_none, Option, List, Bool, cond, not, ◌&&◌, ◌||◌, ℕ, eqb, ltb, ℤ, pos}
use Rattle.driverecord.specs.DriveRecord.{emptied}
use Rattle.integers.specs.Limit.{Z}
use Rattle.parameters.specs.Slots.{with_offset, with_preselection}
use Rattle.settings.specs.declared.Action.{Action}
use Rattle.settings.specs.declared.Action.TheVariants.{None, Reset, Freeze, ClearLocks, ClearExtremes, Teach}
use Rattle.settings.specs.Settings.{is_reset}
use Rattle.switching.specs.Switching.{all_unlocked}
use Rattle.reading.specs.declared.Halves.{Halves}
use Rattle.state.specs.declared.Extremes.{Extremes}
use Rattle.state.specs.declared.Live.{Live}
use Rattle.state.specs.declared.Outcome.{Outcome}
use Rattle.state.specs.declared.Refusal.{Refusal}
use Rattle.state.specs.declared.Refusal.TheVariants.{OffsetOutOfRange, NothingToTake}
use Rattle.state.specs.declared.State.{State}
use Rattle.state.specs.Extremes.{no_extremes, both_at, error_in}
use Rattle.state.specs.Refusal.{no_note}
use Rattle.state.specs.State.{state_of, set_reading, set_switches, set_driven, with_table, error_of, halves_in, reread_of}

-- what one command or several leave: the state, and the refusal of the lowest refused input, if any
pub record Acted : Type 0 where
  pub state : State
  pub note : Option Refusal

abbrev pub acted : State → Option Refusal → Acted
acted s n = record { state = s; note = n }

-- the same, of a table and the outcome beside it
abbrev pub left_by : List ℤ → Outcome → Acted
left_by t o = acted (state_of t o.live) o.note

-- 13: reset with no telegram yet or under error 3; then 12: p after direction above Z. K4: the count U never is (`no-twelve` of turntable)
unfoldable pub reset_refusal : Bool → ℕ → ℕ → Option Refusal
reset_refusal seen error start = cond (not seen || eqb error 3) (Some NothingToTake) (cond (ltb Z start) (Some OffsetOutOfRange) no_note)

-- 1, reset: O becomes p after direction, with a round loop the count U (K4), and the result is worked out again at once
unfoldable pub reset_of : State → State
reset_of s = reread_of (with_table s (with_offset s.table (pos s.live.basis.start)))

-- 3, clear locks
abbrev pub locks_cleared : Live → Live
locks_cleared l = set_switches l (all_unlocked l.switches)

unfoldable pub clear_locks_of : State → State
clear_locks_of s = state_of s.table (locks_cleared s.live)

-- 4, clear least and greatest: both at the present result, or none under an error or before the first telegram
unfoldable pub extremes_at : Bool → ℕ → ℤ → Extremes
extremes_at seen error result = cond (seen && eqb error 0) (both_at result) no_extremes

-- K6: and the record's lowest and highest empty; the end of the event sets both to present where the line is driven (`cleared-there` of driverecord)
abbrev pub extremes_cleared : Live → Live
extremes_cleared l = set_driven (set_reading l l.reading (extremes_at l.seen (error_in l.reading) l.reading.result)) (emptied l.driven)

unfoldable pub clear_extremes_of : State → State
clear_extremes_of s = state_of s.table (extremes_cleared s.live)

-- 13: teach with no telegram yet or under any error
unfoldable pub teach_refusal : Bool → ℕ → Option Refusal
teach_refusal seen error = cond (seen && eqb error 0) no_note (Some NothingToTake)

-- 5..8, teach: preselection 1..4 takes the result
unfoldable pub teach_of : State → ℕ → State
teach_of s k = with_table s (with_preselection s.table k s.live.reading.result)

-- the refusal of an action, none where it is carried out
unfoldable pub refusal_of : Action → State → Option Refusal
refusal_of None s = no_note
refusal_of Reset s = reset_refusal s.live.seen (error_of s) s.live.basis.start
refusal_of Freeze s = no_note
refusal_of ClearLocks s = no_note
refusal_of ClearExtremes s = no_note
refusal_of (Teach k) s = teach_refusal s.live.seen (error_of s)

-- what an action that is not refused leaves; a freeze runs nothing
unfoldable pub carried_out : Action → State → State
carried_out None s = s
carried_out Reset s = reset_of s
carried_out Freeze s = s
carried_out ClearLocks s = clear_locks_of s
carried_out ClearExtremes s = clear_extremes_of s
carried_out (Teach k) s = teach_of s k

-- K7, "a reset carried out" brings the marks of its result; any other command leaves them
unfoldable pub marks_after : Action → State → Halves → Halves
marks_after a s h = cond (is_reset a && is_none (refusal_of a s)) (halves_in (reset_of s)) h

-- a refused command changes nothing
unfoldable pub command_of : Action → State → Acted
command_of a s = cond (is_none (refusal_of a s)) (acted (carried_out a s) no_note) (acted s (refusal_of a s))
