-- `text::hex::letter` meets its contract: a digit below ten, or a letter.
use borrow.Author.Tests.{lt-ltb, le-ltb}
use Rattle.text.specs.Hex.{hex_letter}
use Rattle.text.proofs.hex.letter.Goals as goal

pub returns-then-n-lt10 : goal.returns-then-n-lt10
unfolding hex_letter
returns-then-n-lt10 c = rw (lt-ltb _ _ c.if-n-lt10.true)

pub returns : goal.returns
unfolding hex_letter
returns c = rw (le-ltb _ _ c.if-n-lt10.false)
