-- NO MARK, THEN IT WAS NOT THE ROUNDING, stated. In the help desk's words: two panels differ by a last digit. Ask ours for its marks. Where it shows no error and
-- neither the mark of scaling nor that of linearization is set, a panel that rounds halves upward shows the same for this telegram, and where the analog mark is
-- not set it drives the same code: look for another slot, not for another rounding.
-- Request K7. This file is definitions only; `told` of HalvesLaws proves it, and Cases shows that a mark matters and that "without error" is needed.
use Rattle.std.specs.Prelude.{None, ◌≡◌, false, ℕ, T}
use Rattle.events.specs.declared.Event.TheVariants.{Telegram}
use Rattle.measurement.specs.Measure.{measured}
use Rattle.panel.specs.declared.Answer.{Answer}
use Rattle.panel.specs.Step.{step_of}
use Rattle.reading.specs.Follow.{basis_after}
use Rattle.reading.specs.Reading.{accepts_of, in_scaling, in_linearization, in_analog}
use Rattle.settings.specs.Settings.{span_of}
use Rattle.state.specs.declared.State.{State}
use Rattle.halves.specs.Upward.{measured_up, code_up}

-- an answer to a telegram under a state's table, and what the other firmware has for it
pub record NotTheRounding (s : State) (w : ℕ) (a : Answer) : Type 0 where
  -- neither mark of the digits: the same result, and no error
  pub result : a.error ≡ None → in_scaling a.halves.number ≡ false → in_linearization a.halves.number ≡ false →
      measured_up s.table (basis_after s.table s.live.basis w) ≡ measured a.result None
  -- no analog mark: the same code of that result
  pub code : a.error ≡ None → in_analog a.halves.number ≡ false → code_up (span_of s.table) a.result ≡ a.state.live.reading.code

-- of every state, and so of every table that loads and of whatever came before; a telegram that is accepted
abbrev pub HalvesTold : Type 0
HalvesTold = (s : State) (w : ℕ) → T (accepts_of s.table w) → NotTheRounding s w (step_of s (Telegram w))
