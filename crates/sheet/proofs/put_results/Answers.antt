-- `sheet::put_results` meets its contract: the numbers stand one behind the other.
use mathlib.Core.Path.{◌≡◌}
use mathlib.Core.List.{[], ◌∷◌, ◌++◌, append_assoc}
use Prim.Native.Nat.{◌≤◌}
use lib.IntN.{pos}
use lib.ListN.{length, length-append}
use mir.Syntax.{w32}
use native.Mathlib.Omega.{arith}
use Rattle.integers.specs.IntLaws.{bk}
use Rattle.decimal.specs.Decimal.{text_of}
use Rattle.lines.specs.LineLaws.{field-at-most-20}
use Rattle.text.specs.Marks.{space, newline, number}
use Rattle.text.specs.PutLaws.{put_both, put-room}
use borrow.Author.Rules.{rules}
use Rattle.sheet.proofs.put_results.Goals as goal

pub put_word-p2-requires : goal.put_word-p2-requires
put_word-p2-requires c = omega (arith, put-room c.put_natural-p1.ensures 20 40 (field-at-most-20 _ space) (omega arith))

pub put_word-requires : goal.put_word-requires
put_word-requires c = let one = put-room c.put_natural-p1.ensures 20 40 (field-at-most-20 _ space) (omega arith) in
    omega (arith, put-room c.put_word-p2.ensures 20 20 (field-at-most-20 _ space) (omega (arith, one)))

pub returns : goal.returns
returns c = let s = c in
    let one = number s.args.any ++ (space ∷ []) in
    let two = text_of s.args.least ++ (space ∷ []) in
    let f : length one ≤ 20 = field-at-most-20 (pos s.args.any) space in
    let g : length two ≤ 20 = field-at-most-20 s.args.least space in
    let both : length (one ++ two) ≤ 40 = rw length-append (omega arith) in
    let least : bk w32 s.args.least ≡ s.args.least = search rules in
    let greatest : bk w32 s.args.greatest ≡ s.args.greatest = search rules in
    rw (← append_assoc one two (text_of s.args.greatest ++ (newline ∷ [])))
    (put_both (put_both c.put_natural-p1.ensures (rw least at c.put_word-p2.ensures) (omega arith)) (rw greatest at c.put_word.ensures) (omega arith))
