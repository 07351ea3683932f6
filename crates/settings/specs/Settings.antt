-- A table read as settings: layout, scaling with its points, analog span, preselections and inputs, under the names of the parts' structs. Above it nothing knows a slot.
-- Paper 01, "The parameter table". Assumes nothing.
use Rattle.std.specs.Prelude.{Bool, true, false, cond, List, [], ◌∷◌, ℕ, ◌+◌, ◌<◌, eqb, ℤ, drop}
use Rattle.measurement.specs.declared.Scaling.{Scaling}
use Rattle.ssi.specs.declared.Layout.{Layout}
use Rattle.switching.specs.declared.Preselection.{Preselection}
use Rattle.parameters.specs.Slots as slot
use Rattle.settings.specs.declared.Span.{Span}
use Rattle.settings.specs.declared.Settings.{Settings}
use Rattle.settings.specs.declared.Action.{Action}
use Rattle.settings.specs.declared.Action.TheVariants.{None, Reset, Freeze, ClearLocks, ClearExtremes, Teach}
use Rattle.settings.specs.declared.Config.{Config}
use Rattle.settings.specs.declared.Config.TheVariants.{Low, High, Rising, Falling}
use Rattle.settings.specs.declared.Input.{Input}

-- slots 0, 2, 3, 4, 8, 9: the telegram
unfoldable pub layout_of : List ℤ → Layout
layout_of t =
    record {
      resolution = slot.resolution t;
      format = slot.format t;
      high = slot.high_bit t;
      low = slot.low_bit t;
      error_bit = slot.error_bit t;
      error_level = slot.error_level t;
    }

-- slots 5 to 7, 10 to 13, 55: from position to result
unfoldable pub scaling_of : List ℤ → Scaling
scaling_of t =
    record {
      direction = slot.direction t;
      offset = slot.offset t;
      round_loop = slot.round_loop t;
      factor = slot.factor t;
      divider = slot.divider t;
      additive = slot.additive t;
      linearization = slot.linearization t;
      used = slot.points_in_use t;
    }

-- slots 56 to 103: the words of the control points
unfoldable pub points_of : List ℤ → List ℤ
points_of t = drop slot.first_point_slot t

-- slots 14 to 16: the analog value
unfoldable pub span_of : List ℤ → Span
span_of t = record { format = slot.analog_format t; start = slot.analog_start t; end = slot.analog_end t }

-- slots 17 + 8k to 24 + 8k: preselection k + 1
unfoldable pub preselection_of : List ℤ → ℕ → Preselection
preselection_of t k =
    record {
      value = slot.preselection t k;
      mode = slot.mode t k;
      hysteresis = slot.hysteresis t k;
      pulse = slot.pulse t k;
      target = slot.target t k;
      polarity = slot.polarity t k;
      lock = slot.lock t k;
      startup = slot.startup t k;
    }

unfoldable pub preselections_of : List ℤ → List Preselection
preselections_of t = preselection_of t 0 ∷ preselection_of t 1 ∷ preselection_of t 2 ∷ preselection_of t 3 ∷ []

-- K5: what the way of a telegram takes from a table, beside the points
abbrev pub settings_of : List ℤ → Settings
settings_of t = record { layout = layout_of t; scaling = scaling_of t; span = span_of t; preselections = preselections_of t }

-- "Actions": 1 reset, 2 freeze, 3 clear locks, 4 clear least and greatest, 5 to 8 teach preselection 1 to 4; 0 none
unfoldable pub action_of : ℕ → Action
action_of n =
    cond (eqb n 1) Reset
    (cond (eqb n 2) Freeze
    (cond (eqb n 3) ClearLocks
    (cond (eqb n 4) ClearExtremes
    (cond (eqb n 5) (Teach 0)
    (cond (eqb n 6) (Teach 1)
    (cond (eqb n 7) (Teach 2)
    (cond (eqb n 8) (Teach 3) None)))))))

-- the paper's number of an action
unfoldable pub action_number : Action → ℕ
action_number None = 0
action_number Reset = 1
action_number Freeze = 2
action_number ClearLocks = 3
action_number ClearExtremes = 4
action_number (Teach k) = 5 + k

-- whether an action is the reset, the freeze, the clear of least and greatest, or a teach
abbrev pub is_reset : Action → Bool
is_reset None = false
is_reset Reset = true
is_reset Freeze = false
is_reset ClearLocks = false
is_reset ClearExtremes = false
is_reset (Teach k) = false

abbrev pub is_freeze : Action → Bool
is_freeze None = false
is_freeze Reset = false
is_freeze Freeze = true
is_freeze ClearLocks = false
is_freeze ClearExtremes = false
is_freeze (Teach k) = false

abbrev pub is_clear_extremes : Action → Bool
is_clear_extremes None = false
is_clear_extremes Reset = false
is_clear_extremes Freeze = false
is_clear_extremes ClearLocks = false
is_clear_extremes ClearExtremes = true
is_clear_extremes (Teach k) = false

abbrev pub is_teach : Action → Bool
is_teach None = false
is_teach Reset = false
is_teach Freeze = false
is_teach ClearLocks = false
is_teach ClearExtremes = false
is_teach (Teach k) = true

-- a teach names one of the four preselections: of every action that a table has (InputLaws, `aimed`)
abbrev pub Aimed : Action → Type 0
Aimed None = Unit
Aimed Reset = Unit
Aimed Freeze = Unit
Aimed ClearLocks = Unit
Aimed ClearExtremes = Unit
Aimed (Teach k) = k < 4

-- "config: 0 low, 1 high, 2 rising, 3 falling", and the paper's number of a config
unfoldable pub config_of : ℕ → Config
config_of n = cond (eqb n 0) Low (cond (eqb n 1) High (cond (eqb n 2) Rising Falling))

unfoldable pub config_number : Config → ℕ
config_number Low = 0
config_number High = 1
config_number Rising = 2
config_number Falling = 3

-- slots 49 + 2i and 50 + 2i: input i + 1
unfoldable pub input_at : List ℤ → ℕ → Input
input_at t i = record { action = action_of (slot.action t i); config = config_of (slot.config t i) }
