-- `lines::put_refusal` meets its contract: the two numbers stand one behind the other.
use native.Mathlib.Omega.{arith}
use lib.IntN.{pos}
use Rattle.text.specs.Marks.{space}
use Rattle.lines.specs.Fields.{refusal_fields}
use Rattle.lines.specs.LineLaws.{field-at-most-20}
use Rattle.text.specs.PutLaws.{put_both, put-room}
use borrow.Author.Rules.{rules}
use Rattle.lines.proofs.put_refusal.Goals as goal

pub put_natural-requires : goal.put_natural-requires
put_natural-requires c = (put-room c.put_natural-p1.ensures 20 20 (field-at-most-20 _ space) (omega arith), omega arith)

pub returns : goal.returns
unfolding refusal_fields
returns c = let first = c in
    let f = field-at-most-20 (pos first.args.refusal) space in
    put_both first.put_natural-p1.ensures c.put_natural.ensures (omega (arith, f))
