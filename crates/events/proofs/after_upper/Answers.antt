-- `events::after_upper` meets its contract: only a lower half is in order.
use mathlib.Core.Path.{sym, ap, ◌∙◌}
use Rattle.events.specs.Words.{kind_number}
use Rattle.events.specs.Log.{accepted_of}
use Rattle.events.proofs.after_upper.Goals as goal

pub returns-in-Lower : goal.returns-in-Lower
unfolding accepted_of
returns-in-Lower c = rw (c.give.ensures, c.telegram.ensures, c.half.ensures, sym c.kind_of.ensures ∙ ap kind_number c.in-Lower.is)
