-- Levels: what a change of the inputs' levels makes act, and the commands of the three inputs, each on what the earlier ones left.
-- Paper 01, "Events and inputs", second paragraph; paper 02, K7, the marks. Inputs are i = 0..2. Assumes nothing.
use Rattle.std.specs.Prelude.{Option, List, Bool, true, false, cond, not, ◌&&◌, ◌||◌, ℕ, ◌/◌, ◌%◌, ◌^◌, eqb, ℤ}
use Rattle.std.specs.Option.{option_or}
use Rattle.settings.specs.declared.Config.{Config}
use Rattle.settings.specs.declared.Config.TheVariants.{Low, High, Rising, Falling}
use Rattle.settings.specs.Settings.{input_at}
use Rattle.reading.specs.declared.Halves.{Halves}
use Rattle.reading.specs.Reading.{no_halves}
use Rattle.state.specs.declared.Refusal.{Refusal}
use Rattle.state.specs.declared.State.{State}
use Rattle.state.specs.Refusal.{no_note}
use Rattle.inputs.specs.Commands.{Acted, acted, marks_after, command_of}

-- the level of input i + 1, true for high
abbrev pub high_at : ℕ → ℕ → Bool
high_at l i = eqb (l / 2 ^ i % 2) 1

-- "Config 1 and 2 act on a rise, 0 and 3 on a fall"
abbrev pub on_rise : Config → Bool
on_rise Low = false
on_rise High = true
on_rise Rising = true
on_rise Falling = false

unfoldable pub acts_on : Config → Bool → Bool → Bool
acts_on c was is = cond (on_rise c) (not was && is) (was && not is)

-- whether going from levels `was` to `l` makes input i + 1 act; and the same from the levels of a state
abbrev pub edge_in : List ℤ → ℕ → ℕ → ℕ → Bool
edge_in t was l i = acts_on (input_at t i).config (high_at was i) (high_at l i)

unfoldable pub edge_at : State → ℕ → ℕ → Bool
edge_at s l i = edge_in s.table s.live.levels l i

-- "the note is that of the lowest refused input"
abbrev pub first_note : Option Refusal → Option Refusal → Option Refusal
first_note n m = option_or n m

-- input i + 1 acts on what the inputs before it left
abbrev pub input_acts : ℕ → Acted → Acted
input_acts i x =
    acted (command_of (input_at x.state.table i).action x.state).state (first_note x.note (command_of (input_at x.state.table i).action x.state).note)

-- input i + 1 acts, or does not
unfoldable pub input_of : ℕ → ℕ → Acted → Acted
input_of l i x = cond (edge_at x.state l i) (input_acts i x) x

-- K7: the marks after input i + 1, from those before it
unfoldable pub marks_at : ℕ → ℕ → Acted → Halves → Halves
marks_at l i x h = cond (edge_at x.state l i) (marks_after (input_at x.state.table i).action x.state h) h

-- "the actions of inputs 1, 2, 3 in that order"
unfoldable pub commands_of : State → ℕ → Acted
commands_of s l = input_of l 2 (input_of l 1 (input_of l 0 (acted s no_note)))

-- some input does so, each asked on what the earlier ones left
abbrev pub some_input : (ℕ → Acted → Bool) → State → ℕ → Bool
some_input does s l = does 0 (acted s no_note) || (does 1 (input_of l 0 (acted s no_note)) || does 2 (input_of l 1 (input_of l 0 (acted s no_note))))

-- K7: the marks of the last reset carried out, none where there is none
unfoldable pub marks_left : State → ℕ → Halves
marks_left s l = marks_at l 2 (input_of l 1 (input_of l 0 (acted s no_note))) (marks_at l 1 (input_of l 0 (acted s no_note)) (marks_at l 0 (acted s no_note) no_halves))
