-- `lines::put_drives` meets its contract: the three fields stand one behind the other, and the newline ends the line.
use native.Mathlib.Omega.{arith}
use lib.ListN.{length-append}
use mir.Syntax.{w32}
use Rattle.integers.specs.IntLaws.{back_at}
use Rattle.lines.specs.LineLaws.{analog-at-most-19, analog-field-at-most-20}
use Rattle.text.specs.PutLaws.{put_both, put-room}
use Rattle.lines.specs.Fields.{drive_fields}
use borrow.Author.Rules.{rules}
use Rattle.lines.proofs.put_drives.Goals as goal

pub put_natural-requires : goal.put_natural-requires
put_natural-requires c = let analog = c in
    let outs = analog in
    let room = put-room outs.put_outs-p1.ensures 5 40 (omega arith) (omega (arith, outs.requires)) in
    (put-room analog.put_analog-p2.ensures 20 20 (analog-field-at-most-20 _ _) room, omega arith)

pub returns : goal.returns
unfolding drive_fields
returns c = let r = c.args.o.live.reading in
    let e = back_at w32 r.code c.struct_told-1.given.1.1.0.1 in
    let p1 = rw c.outputs.ensures at c.put_outs-p1.ensures in
    let p2 = rw e at c.put_analog-p2.ensures in
    put_both (put_both p1 p2 (omega arith)) (rw c.note_number.ensures at c.put_natural.ensures) (simp length-append (omega (arith, analog-at-most-19 r.drive r.code)))
