-- The tests are the definition's own, on the numbers read.
use borrow.Author.Tests.{lt-ltb, le-ltb}
use Rattle.parameters.specs.Load.{field_wrong}
use Rattle.parameters.proofs.checks.field_wrong.Goals as goal

pub returns-then-high-natural : goal.returns-then-high-natural
unfolding field_wrong
returns-then-high-natural c = rw (← c.natural-high.ensures, ← c.natural.ensures, lt-ltb _ _ c.if-high-natural.true)

pub returns : goal.returns
unfolding field_wrong
returns c = rw (← c.natural-high.ensures, ← c.natural.ensures, ← c.natural-2.ensures, le-ltb _ _ c.if-high-natural.false)
