-- `panel::switches_after` meets its contract: before the first telegram nothing switches.
use borrow.Author.Tests.{not-true, not-false}
use mir.Facts.{to_z-of_z}
use Rattle.panel.specs.Step.{switches_after}
use Rattle.panel.proofs.switches_after.Goals as goal

pub returns-then-not-seen : goal.returns-then-not-seen
unfolding switches_after
returns-then-not-seen c = rw (not-true c.args.seen c.if-not-seen.true-raw)

pub returns : goal.returns
unfolding switches_after
returns c = let s = c in
    rw (c.switch_all.ensures, c.preselections.ensures, to_z-of_z s.ranges.res, not-false s.args.seen c.if-not-seen.false-raw)
