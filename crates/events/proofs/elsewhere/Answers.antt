-- `events::elsewhere` meets its contract: each arm is one case of the definition.
use mathlib.Core.Path.{sym, ap, ◌∙◌}
use Rattle.events.specs.Words.{kind_number}
use Rattle.events.specs.Log.{accepted_of}
use Rattle.events.proofs.elsewhere.Goals as goal

pub returns-in-Tick : goal.returns-in-Tick
unfolding accepted_of
returns-in-Tick c = rw (c.give.ensures, c.ms.ensures, sym c.kind_of.ensures ∙ ap kind_number c.in-Tick.is)

pub returns-in-Levels : goal.returns-in-Levels
unfolding accepted_of
returns-in-Levels c = rw (c.give-in-Levels.ensures, c.levels.ensures, sym c.kind_of.ensures ∙ ap kind_number c.in-Levels.is)

pub returns-in-Upper : goal.returns-in-Upper
unfolding accepted_of
returns-in-Upper c = rw (c.keep.ensures, c.half.ensures, sym c.kind_of.ensures ∙ ap kind_number c.in-Upper.is)
