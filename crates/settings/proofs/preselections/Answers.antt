-- `settings::preselections` meets its contract: the four, in their order.
use borrow.Author.Rules.{rules}
use Rattle.settings.specs.Settings.{preselections_of}
use Rattle.settings.proofs.preselections.Goals as goal

pub returns : goal.returns
unfolding preselections_of
returns c = let b = c in
    rw (b.preselection.ensures, b.preselection-2.ensures, c.preselection-3.ensures, c.preselection-4.ensures)
