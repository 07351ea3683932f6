-- `settings::direction` meets its contract: the number in its slot.
use borrow.Author.Rules.{rules}
use Rattle.settings.specs.Settings.{scaling_of}
use Rattle.settings.proofs.direction.Goals as goal

pub returns : goal.returns
unfolding scaling_of
returns c = c.natural.ensures
