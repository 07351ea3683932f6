-- `lines::event_line` meets its contract: the parts of the line stand one behind the other.
use native.Mathlib.Omega.{arith}
use lib.IntN.{pos}
use lib.ListN.{length-append}
use Rattle.text.specs.Marks.{space}
use Rattle.lines.specs.LineLaws.{field-at-most-20}
use Rattle.text.specs.PutLaws.{put_both, put-room}
use Rattle.lines.specs.Fields.{line-parts}
use borrow.Author.Rules.{rules}
use Rattle.lines.proofs.event_line.Goals as goal

pub put_kind-p2-requires : goal.put_kind-p2-requires
put_kind-p2-requires c = put-room c.put_natural-p1.ensures 20 2 (field-at-most-20 _ space) (omega arith)

pub put_answer-requires : goal.put_answer-requires
put_answer-requires c = let kind = c in
    let room = put-room kind.put_natural-p1.ensures 20 90 (field-at-most-20 _ space) (omega arith) in
    put-room kind.put_kind-p2.ensures 2 88 (omega arith) room

pub returns : goal.returns
returns c = let answer = c in
    let kind = answer in
    let count = kind in
    let args = count.args in
    let f = simp length-append at (field-at-most-20 (pos args.count) space) in
    let front = put_both count.put_natural-p1.ensures kind.put_kind-p2.ensures (omega (arith, field-at-most-20 (pos args.count) space)) in
    rw (← line-parts args.count args.e _) (put_both front answer.put_answer.ensures (simp length-append (omega arith)))
