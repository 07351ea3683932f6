-- `lines::load_line` meets its contract: the word, and behind it the number and the slot.
use native.Mathlib.Omega.{arith}
use Rattle.lines.specs.Fields.{refusal_fields}
use Rattle.lines.specs.Lines.{load_line}
use Rattle.text.specs.PutLaws.{put_both, put-room}
use borrow.Author.Rules.{rules}
use Rattle.lines.proofs.load_line.Goals as goal

pub put_refusal-requires : goal.put_refusal-requires
put_refusal-requires c = (put-room c.put_bytes-p1.ensures 5 40 (omega arith) (omega arith), omega arith)

pub returns : goal.returns
unfolding load_line refusal_fields
returns c = put_both c.put_bytes-p1.ensures c.put_refusal.ensures (omega arith)
