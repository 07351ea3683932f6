-- `text::hex::is_hex` meets its contract: too few, too many, or as its bytes are.
use borrow.Author.Tests.{le-leb, lt-leb}
use Rattle.text.specs.Hex.{is_hex}
use Rattle.text.proofs.hex.is_hex.Goals as goal

pub returns-then-s-most : goal.returns-then-s-most
unfolding is_hex
returns-then-s-most c = rw (le-leb _ _ c.if-least-s.true, le-leb _ _ c.if-s-most.true, c.all_hex.ensures)

pub returns-else-s-most : goal.returns-else-s-most
unfolding is_hex
returns-else-s-most c = rw (le-leb _ _ c.if-least-s.true, lt-leb _ _ c.if-s-most.false)

pub returns-else-least-s : goal.returns-else-least-s
unfolding is_hex
returns-else-least-s c = rw (lt-leb _ _ c.if-least-s.false)
