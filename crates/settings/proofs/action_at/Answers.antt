-- `settings::action_at` meets its contract: the action of the number in its slot.
use borrow.Author.Rules.{rules}
use Rattle.settings.specs.Settings.{input_at}
use Rattle.settings.proofs.action_at.Goals as goal

pub returns : goal.returns
unfolding input_at
returns c = rw (c.action_of.ensures, c.natural.ensures)
