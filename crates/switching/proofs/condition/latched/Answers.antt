-- `switching::condition::latched` meets its contract: each way out has the tests that the definition makes.
use borrow.Author.Tests.{not-true, not-false}
use Rattle.switching.specs.Condition.{latched_of}
use Rattle.switching.proofs.condition.latched.Goals as goal

pub returns-then-on : goal.returns-then-on
unfolding latched_of
returns-then-on c = simp c.if-on.true

pub returns-then-not-off : goal.returns-then-not-off
unfolding latched_of
returns-then-not-off c = simp (c.if-on.false, not-true c.args.off c.if-not-off.true-raw)

pub returns-else-not-off : goal.returns-else-not-off
unfolding latched_of
returns-else-not-off c = simp (c.if-on.false, not-false c.args.off c.if-not-off.false-raw)
