-- `lines::end_line` meets its contract: the word and the number stand one behind the other.
use native.Mathlib.Omega.{arith}
use Rattle.lines.specs.Lines.{end_line}
use Rattle.text.specs.PutLaws.{put_both}
use borrow.Author.Rules.{rules}
use Rattle.lines.proofs.end_line.Goals as goal

pub returns : goal.returns
unfolding end_line
returns c = put_both c.put_bytes-p1.ensures c.put_natural.ensures (omega arith)
