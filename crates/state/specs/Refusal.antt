-- Why an event, a command or a burst is refused, and the note that the answer tells it by. Paper 01, "Where each check sits"; paper 02, K5. Assumes nothing.
use Rattle.std.specs.Prelude.{Option, Some, None, cond, ℕ, eqb}
use Rattle.state.specs.declared.Refusal.{Refusal}
use Rattle.state.specs.declared.Refusal.TheVariants.{LevelsAbove, BitAbove, OffsetOutOfRange, NothingToTake, BurstTooLong, Other}

-- the number of each
abbrev pub refusal_number : Refusal → ℕ
refusal_number LevelsAbove = 10
refusal_number BitAbove = 11
refusal_number OffsetOutOfRange = 12
refusal_number NothingToTake = 13
refusal_number BurstTooLong = 21
refusal_number (Other n) = n

-- where nothing is refused, there is none, and its number is 0
abbrev pub no_note : Option Refusal
no_note = None

abbrev pub note_number : Option Refusal → ℕ
note_number None = 0
note_number (Some r) = refusal_number r

-- the note of a number: each number has one, 0 none
unfoldable pub note_of : ℕ → Option Refusal
note_of n =
    cond (eqb n 0) no_note
    (cond (eqb n 10) (Some LevelsAbove)
    (cond (eqb n 11) (Some BitAbove)
    (cond (eqb n 12) (Some OffsetOutOfRange)
    (cond (eqb n 13) (Some NothingToTake)
    (cond (eqb n 21) (Some BurstTooLong)
    (Some (Other n)))))))
