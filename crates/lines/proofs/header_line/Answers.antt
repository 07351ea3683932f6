-- `lines::header_line` meets its contract: the text is the line.
use Rattle.lines.specs.Lines.{header_line}
use borrow.Author.Rules.{rules}
use Rattle.lines.proofs.header_line.Goals as goal

pub returns : goal.returns
unfolding header_line
returns c = c.put_bytes.ensures
