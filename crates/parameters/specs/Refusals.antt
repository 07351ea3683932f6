-- The refusals of a table, in the order of the conditions 1 to 9: the number of each, and the slot that it names.
-- Paper 01, "Where each check sits", load.
use Rattle.std.specs.Prelude.{Option, Some, None, List, [], ◌∷◌, ℕ, get_or}
use Rattle.parameters.specs.declared.Refusal.{Refusal}
use Rattle.parameters.specs.declared.Refusal.TheVariants.{Length, Slot, Field, ErrorBit, Span, Points, Origin, Freeze, Polarity}

-- the number of its condition
abbrev pub refusal_number : Refusal → ℕ
refusal_number Length = 1
refusal_number (Slot slot) = 2
refusal_number Field = 3
refusal_number ErrorBit = 4
refusal_number Span = 5
refusal_number Points = 6
refusal_number Origin = 7
refusal_number Freeze = 8
refusal_number Polarity = 9

-- the slot that it names, 0 except for 2
abbrev pub refusal_slot : Refusal → ℕ
refusal_slot Length = 0
refusal_slot (Slot slot) = slot
refusal_slot Field = 0
refusal_slot ErrorBit = 0
refusal_slot Span = 0
refusal_slot Points = 0
refusal_slot Origin = 0
refusal_slot Freeze = 0
refusal_slot Polarity = 0

-- the number and the slot that are told of a load: 0 and 0 where there is no refusal
abbrev pub number_told : Option Refusal → ℕ
number_told None = 0
number_told (Some r) = refusal_number r

abbrev pub slot_told : Option Refusal → ℕ
slot_told None = 0
slot_told (Some r) = refusal_slot r

-- the refusal of a number, none for 0; 2 names a slot
abbrev pub refusals : ℕ → List (Option Refusal)
refusals slot =
    None ∷ Some Length ∷ Some (Slot slot) ∷ Some Field ∷ Some ErrorBit ∷ Some Span ∷ Some Points ∷ Some Origin ∷ Some Freeze ∷ Some Polarity ∷ []

abbrev pub refusal_by : ℕ → ℕ → Option Refusal
refusal_by n slot = get_or (refusals slot) n None
