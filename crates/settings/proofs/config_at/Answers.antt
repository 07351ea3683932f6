-- `settings::config_at` meets its contract: the config of the number in its slot.
use borrow.Author.Rules.{rules}
use Rattle.settings.specs.Settings.{input_at}
use Rattle.settings.proofs.config_at.Goals as goal

pub returns : goal.returns
unfolding input_at
returns c = rw (c.config_of.ensures, c.natural.ensures)
