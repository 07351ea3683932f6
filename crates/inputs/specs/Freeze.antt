-- The freeze: while it lasts, the shown value is held. Paper 01, "Events and inputs", "Freeze lasts while ..". Assumes nothing.
use Rattle.std.specs.Prelude.{List, Bool, false, cond, not, ◌&&◌, ◌||◌, ℕ, ℤ}
use Rattle.settings.specs.declared.Config.{Config}
use Rattle.settings.specs.declared.Config.TheVariants.{Low, High, Rising, Falling}
use Rattle.settings.specs.declared.Input.{Input}
use Rattle.settings.specs.Settings.{is_freeze, input_at}
use Rattle.inputs.specs.Levels.{high_at}

-- "any input set to it is low (config 0) or high (config 1)"; check 8 refuses the others
abbrev pub lasts : Config → Bool → Bool
lasts Low high = not high
lasts High high = high
lasts Rising high = false
lasts Falling high = false

unfoldable pub freezes : Input → Bool → Bool
freezes n high = is_freeze n.action && lasts n.config high

-- "Freeze lasts while, after the event, any input set to it .."
unfoldable pub frozen : List ℤ → ℕ → Bool
frozen t l = freezes (input_at t 0) (high_at l 0) || (freezes (input_at t 1) (high_at l 1) || freezes (input_at t 2) (high_at l 2))

-- "It holds the shown value as it was before the event and nothing else. Without freeze, shown equals result"
abbrev pub shown_by : Bool → ℤ → ℤ → ℤ
shown_by held shown result = cond held shown result
