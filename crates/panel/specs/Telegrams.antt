-- A telegram diagnosed, and one built, under a table. Paper 01, "From telegram to result", the diagnosis and the builder. Assumes nothing.
use Rattle.std.specs.Prelude.{Bool, List, ℕ, ℤ}
use Rattle.parameters.specs.Slots.{bits_per_turn}
use Rattle.settings.specs.Settings.{layout_of}
use Rattle.ssi.specs.declared.Built.{Built}
use Rattle.ssi.specs.declared.Diagnosis.{Diagnosis}
use Rattle.ssi.specs.Builder.{built_of}
use Rattle.ssi.specs.Telegram.{diagnosis_of}

abbrev pub diagnosed_of : List ℤ → ℕ → Diagnosis
diagnosed_of t w = diagnosis_of (layout_of t) (bits_per_turn t) w

abbrev pub built_by : List ℤ → ℕ → Bool → Built
built_by t p error = built_of (layout_of t) p error
