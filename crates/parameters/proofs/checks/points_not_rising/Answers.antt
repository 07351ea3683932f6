-- The test is the definition's own, on the number read.
use borrow.Author.Tests.{eq-eqb, ne_eqb}
use Rattle.parameters.specs.Load.{points_not_rising}
use Rattle.parameters.proofs.checks.points_not_rising.Goals as goal

pub returns-then-natural-eq0 : goal.returns-then-natural-eq0
unfolding points_not_rising
returns-then-natural-eq0 c = rw (← c.natural.ensures, eq-eqb _ _ c.if-natural-eq0.true)

pub returns : goal.returns
unfolding points_not_rising
returns c = rw (← c.natural.ensures, ne_eqb _ _ c.if-natural-eq0.false) c.some_not_above.ensures
