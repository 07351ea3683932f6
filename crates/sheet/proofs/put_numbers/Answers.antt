-- `sheet::put_numbers` meets its contract: the numbers stand one behind the other.
use mathlib.Core.List.{[], ◌∷◌, ◌++◌, append_assoc}
use Prim.Native.Nat.{◌≤◌}
use lib.IntN.{pos}
use lib.ListN.{length, length-append}
use native.Mathlib.Omega.{arith}
use Rattle.lines.specs.LineLaws.{field-at-most-20}
use Rattle.text.specs.Marks.{space, newline, number}
use Rattle.text.specs.PutLaws.{put_both, put-room}
use borrow.Author.Rules.{rules}
use Rattle.sheet.proofs.put_numbers.Goals as goal

pub put_natural-p2-requires : goal.put_natural-p2-requires
put_natural-p2-requires c = (omega (arith, put-room c.put_natural-p1.ensures 20 40 (field-at-most-20 _ space) (omega arith)), omega arith)

pub put_natural-requires : goal.put_natural-requires
put_natural-requires c = let one = put-room c.put_natural-p1.ensures 20 40 (field-at-most-20 _ space) (omega arith) in
    (omega (arith, put-room c.put_natural-p2.ensures 20 20 (field-at-most-20 _ space) (omega (arith, one))), omega arith)

pub returns : goal.returns
returns c = let s = c in
    let one = number s.args.a ++ (space ∷ []) in
    let two = number s.args.b ++ (space ∷ []) in
    let f : length one ≤ 20 = field-at-most-20 (pos s.args.a) space in
    let g : length two ≤ 20 = field-at-most-20 (pos s.args.b) space in
    let both : length (one ++ two) ≤ 40 = rw length-append (omega arith) in
    rw (← append_assoc one two (number s.args.c ++ (newline ∷ [])))
    (put_both (put_both c.put_natural-p1.ensures c.put_natural-p2.ensures (omega arith)) c.put_natural.ensures (omega arith))
