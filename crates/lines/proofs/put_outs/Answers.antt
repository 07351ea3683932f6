-- `lines::put_outs` meets its contract: the five bytes are the digits of the levels and the space.
use borrow.Author.Rules.{rules}
use Rattle.lines.proofs.put_outs.Goals as goal

pub returns : goal.returns
returns c = let last = c in
    let third = last in
    let second = third in
    rw (second.level_digit.ensures, second.level_digit-2.ensures, third.level_digit-3.ensures, last.level_digit-4.ensures)
    at c.put_bytes.ensures
