-- `settings::points` meets its contract: the part from slot 56 on is the whole rest.
use borrow.Author.Rules.{rules}
use lib.ListN.{drop, length-drop}
use lib.Seq.{take-length}
use Rattle.settings.specs.Settings.{points_of}
use Rattle.settings.proofs.points.Goals as goal

pub returns : goal.returns
unfolding points_of
returns c = let ws = c.args.words.now in
    rw (← length-drop 56 ws) (take-length (drop 56 ws))
