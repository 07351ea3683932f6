-- The state of a panel, its fresh state, its parts set anew, and the result worked out. Paper 01, "Events and inputs", "a fresh state"; paper 02, K6, the record.
-- The table in force stands in the state: a reset stores its offset, a teach a preselection. The live values stand beside it. Assumes nothing.
use Rattle.std.specs.Prelude.{true, false, List, [], ◌∷◌, ℕ, ℤ, pos, None}
use Rattle.analog.specs.declared.Drive.TheVariants.{Off}
use Rattle.driverecord.specs.declared.DriveRecord.{DriveRecord}
use Rattle.driverecord.specs.DriveRecord.{fresh_record, updated_of}
use Rattle.reading.specs.declared.Basis.{Basis}
use Rattle.reading.specs.declared.Halves.{Halves}
use Rattle.reading.specs.declared.Reading.{Reading}
use Rattle.reading.specs.Follow.{no_basis, basis_after}
use Rattle.reading.specs.Reading.{reading_of, halves_of}
use Rattle.switching.specs.declared.Switch.{Switch}
use Rattle.switching.specs.Switching.{fresh_switch}
use Rattle.state.specs.declared.Extremes.{Extremes}
use Rattle.state.specs.declared.Live.{Live}
use Rattle.state.specs.declared.State.{State}
use Rattle.state.specs.Extremes.{no_extremes, error_in, widened_of}

-- result 0, no error, drive off
abbrev pub no_reading : Reading
no_reading = record { result = pos 0; error = None; code = pos 0; drive = Off }

-- levels low, no telegram, result and shown 0, no least or greatest, conditions off; K6, present zero, lowest and highest empty
abbrev pub fresh_live : Live
fresh_live =
    record {
      levels = 0;
      seen = false;
      basis = no_basis;
      reading = no_reading;
      shown = pos 0;
      extremes = no_extremes;
      driven = fresh_record;
      switches = fresh_switch ∷ fresh_switch ∷ fresh_switch ∷ fresh_switch ∷ [];
    }

-- a table and the live values beside it
abbrev pub state_of : List ℤ → Live → State
state_of t l = record { table = t; live = l }

unfoldable pub fresh_of : List ℤ → State
fresh_of t = state_of t fresh_live

-- ---- one of the live values set anew

abbrev pub set_levels : Live → ℕ → Live
set_levels l x = record { levels = x; seen = l.seen; basis = l.basis; reading = l.reading; shown = l.shown; extremes = l.extremes; driven = l.driven; switches = l.switches }

-- a telegram was accepted, and its result starts from this
abbrev pub set_basis : Live → Basis → Live
set_basis l x = record { levels = l.levels; seen = true; basis = x; reading = l.reading; shown = l.shown; extremes = l.extremes; driven = l.driven; switches = l.switches }

abbrev pub set_reading : Live → Reading → Extremes → Live
set_reading l x y = record { levels = l.levels; seen = l.seen; basis = l.basis; reading = x; shown = l.shown; extremes = y; driven = l.driven; switches = l.switches }

-- a reading, and least and greatest with it
abbrev pub set_read : Live → Reading → Live
set_read l x = set_reading l x (widened_of l.extremes x)

abbrev pub set_shown : Live → ℤ → Live
set_shown l x = record { levels = l.levels; seen = l.seen; basis = l.basis; reading = l.reading; shown = x; extremes = l.extremes; driven = l.driven; switches = l.switches }

abbrev pub set_switches : Live → List Switch → Live
set_switches l x = record { levels = l.levels; seen = l.seen; basis = l.basis; reading = l.reading; shown = l.shown; extremes = l.extremes; driven = l.driven; switches = x }

-- K6: the record
abbrev pub set_driven : Live → DriveRecord → Live
set_driven l x = record { levels = l.levels; seen = l.seen; basis = l.basis; reading = l.reading; shown = l.shown; extremes = l.extremes; driven = x; switches = l.switches }

-- K6, "brought up to date": with the drive of the reading
abbrev pub set_recorded : Live → Live
set_recorded l = set_driven l (updated_of l.driven l.reading.drive)

-- ---- one part of the state set anew

abbrev pub with_table : State → List ℤ → State
with_table s x = state_of x s.live

abbrev pub with_levels : State → ℕ → State
with_levels s x = state_of s.table (set_levels s.live x)

abbrev pub with_basis : State → Basis → State
with_basis s x = state_of s.table (set_basis s.live x)

abbrev pub with_shown : State → ℤ → State
with_shown s x = state_of s.table (set_shown s.live x)

abbrev pub with_switches : State → List Switch → State
with_switches s x = state_of s.table (set_switches s.live x)

abbrev pub recorded_of : State → State
recorded_of s = state_of s.table (set_recorded s.live)

-- ---- the result worked out

-- the number of the error in force
abbrev pub error_of : State → ℕ
error_of s = error_in s.live.reading

-- the reading of what the state keeps, under the table in force
abbrev pub read_again : State → Reading
read_again s = reading_of s.table s.live.basis

-- K7: the marks of that reading
abbrev pub halves_in : State → Halves
halves_in s = halves_of s.table s.live.basis

unfoldable pub reread_of : State → State
reread_of s = state_of s.table (set_read s.live (read_again s))

-- an accepted telegram, behind what the one before it left
unfoldable pub received_of : State → ℕ → State
received_of s w = reread_of (with_basis s (basis_after s.table s.live.basis w))
