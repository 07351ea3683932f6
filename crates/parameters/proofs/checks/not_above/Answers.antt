-- The tests are the definition's own, on the number and the words read.
use borrow.Author.Tests.{lt-ltb, le-ltb}
use mir.Syntax.{w32}
use Rattle.integers.specs.IntLaws.{back_at}
use Rattle.parameters.specs.Load.{not_above}
use Rattle.parameters.proofs.checks.not_above.Goals as goal

pub returns-then-j-used : goal.returns-then-j-used
unfolding not_above
returns-then-j-used c = let next = c.word-next in
    let here = c.word in
    rw (
      back_at w32 next.result next.type_inv,
      back_at w32 here.result here.type_inv,
      ← c.natural-used.ensures,
      lt-ltb _ _ c.if-j-used.true,
      next.ensures,
      here.ensures,
    )

pub returns : goal.returns
unfolding not_above
returns c = rw (← c.natural-used.ensures, le-ltb _ _ c.if-j-used.false)
