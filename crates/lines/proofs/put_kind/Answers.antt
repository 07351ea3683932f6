-- `lines::put_kind` meets its contract: the two bytes are the letter and the space.
use borrow.Author.Rules.{rules}
use Rattle.lines.proofs.put_kind.Goals as goal

pub returns : goal.returns
returns c = rw c.kind_letter.ensures at c.put_bytes.ensures
