-- `panel::on_levels` meets its contract: refused it leaves the old values, else what the commands leave, with the new levels and the marks of a reset.
use borrow.Author.Tests.{lt-leb, le-leb}
use Rattle.panel.specs.Step.{on_levels, switched_of, displayed_of}
use Rattle.panel.proofs.on_levels.Goals as goal

pub returns-then-levels-gt7 : goal.returns-then-levels-gt7
unfolding on_levels
returns-then-levels-gt7 c = rw (lt-leb _ _ c.if-levels-gt7.true, c.refused.ensures)

pub recorded-next-requires : goal.recorded-next-requires
recorded-next-requires c = let g = c.act-x.ensures.valid in
    rw c.with_levels.ensures (g.driven, g.drive)

-- the record is brought up to date before switching and display, which do not look at it
pub returns : goal.returns
unfolding on_levels switched_of displayed_of
returns c = let n = c in
    let x = n in
    rw (le-leb _ _ x.if-levels-gt7.false, c.recorded-next.ensures, n.with_levels.ensures, ← x.act-x.ensures.is, x.act-x.ensures.marks)
