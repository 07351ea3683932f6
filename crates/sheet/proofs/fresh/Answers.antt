-- `sheet::fresh` meets its contract: the defaults, whose fresh state is valid.
use Rattle.state.proofs.ValidLaws.{good-fresh}
use Rattle.parameters.proofs.ValidLaws.{defaults-valid}
use Rattle.sheet.specs.Sheet.{fresh_sheet}
use borrow.Author.Rules.{rules}
use Rattle.sheet.proofs.fresh.Goals as goal

pub start-requires : goal.start-requires
start-requires c = rw (c.fresh-s.ensures, c.defaults-table.ensures) (good-fresh defaults-valid)

pub returns : goal.returns
unfolding fresh_sheet
returns c = record {
  is = rw (c.start.ensures.is, c.fresh-s.ensures, c.defaults-table.ensures);
  ready = c.start.ensures.ready;
}
