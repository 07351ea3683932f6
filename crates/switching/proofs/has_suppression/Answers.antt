-- `switching::has_suppression` meets its contract: each way out has the tests that the definition makes.
use borrow.Author.Tests.{eq-eqb, ne_eqb}
use Rattle.switching.specs.Switching.{suppresses}
use Rattle.switching.proofs.has_suppression.Goals as goal

pub returns-then-p-eq1-2 : goal.returns-then-p-eq1-2
unfolding suppresses
returns-then-p-eq1-2 c = simp (eq-eqb _ _ c.if-p-eq1.true, eq-eqb _ _ c.if-p-eq1-2.true)

pub returns-else-p-eq1-2 : goal.returns-else-p-eq1-2
unfolding suppresses
returns-else-p-eq1-2 c = rw (eq-eqb _ _ c.if-p-eq1.true, ne_eqb _ _ c.if-p-eq1-2.false)

pub returns-else-p-eq1 : goal.returns-else-p-eq1
unfolding suppresses
returns-else-p-eq1 c = simp (ne_eqb _ _ c.if-p-eq1.false)
