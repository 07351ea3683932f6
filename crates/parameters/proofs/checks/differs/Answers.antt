-- The tests are the definition's own, on the numbers read.
use borrow.Author.Tests.{eq-eqb, ne_eqb}
use Rattle.parameters.specs.Load.{differ}
use Rattle.parameters.proofs.checks.differs.Goals as goal

pub returns-then-output-eq0 : goal.returns-then-output-eq0
unfolding differ
returns-then-output-eq0 c = rw (← c.natural-output.ensures, eq-eqb _ _ c.if-output-eq0.true)

pub returns-then-output-natural : goal.returns-then-output-natural
unfolding differ
returns-then-output-natural c = rw (
  ← c.natural-output.ensures,
  ← c.natural.ensures,
  ne_eqb _ _ c.if-output-eq0.false,
  ne_eqb _ _ c.if-output-natural.true,
)

pub returns : goal.returns
unfolding differ
returns c = rw (
  ← c.natural-output.ensures,
  ← c.natural.ensures,
  ← c.natural-2.ensures,
  ← c.natural-3.ensures,
  ne_eqb _ _ c.if-output-eq0.false,
  eq-eqb _ _ c.if-output-natural.false,
)
