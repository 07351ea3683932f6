-- `lines::put_values` meets its contract: the three fields stand one behind the other.
use native.Mathlib.Omega.{arith}
use mir.Syntax.{w32}
use Rattle.integers.specs.IntLaws.{back_at}
use Rattle.text.specs.Marks.{space}
use Rattle.lines.specs.LineLaws.{field-at-most-20, fields-at-most-40}
use Rattle.text.specs.PutLaws.{put_both, put-room}
use Rattle.lines.specs.Fields.{value_fields}
use borrow.Author.Rules.{rules}
use Rattle.lines.proofs.put_values.Goals as goal

pub put_word-p2-requires : goal.put_word-p2-requires
put_word-p2-requires c = put-room c.put_word-p1.ensures 20 20 (field-at-most-20 _ space) (omega arith)

pub put_natural-requires : goal.put_natural-requires
put_natural-requires c = let shown = c in
    let room = put-room shown.put_word-p1.ensures 20 40 (field-at-most-20 _ space) (omega arith) in
    (put-room shown.put_word-p2.ensures 20 20 (field-at-most-20 _ space) room, omega arith)

pub returns : goal.returns
unfolding value_fields
returns c = let l = c.args.l in
    let r = back_at w32 l.reading.result c.struct_told-1.given.0.1 in
    let s = back_at w32 l.shown c.struct_told-2-1.given.1.1.1.1.0.1 in
    let p1 = rw r at c.put_word-p1.ensures in
    let p2 = rw s at c.put_word-p2.ensures in
    let p3 = rw c.error_number.ensures at c.put_natural.ensures in
    put_both (put_both p1 p2 (omega (arith, field-at-most-20 l.reading.result space))) p3 (omega (arith, fields-at-most-40 l.reading.result l.shown space))
