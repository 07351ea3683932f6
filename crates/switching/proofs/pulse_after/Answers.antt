-- `switching::pulse_after` meets its contract: each way out has the change that the definition asks for.
use borrow.Author.Tests.{not-true}
use Rattle.switching.specs.Switching.{pulse_of}
use Rattle.switching.proofs.pulse_after.Goals.{else-not-was-via-then-not-was+else-on, else-not-was-via-else-not-was}
use Rattle.switching.proofs.pulse_after.Goals as goal

pub returns-then-on : goal.returns-then-on
unfolding pulse_of
returns-then-on c = simp (not-true c.args.was c.if-not-was.true-raw, c.if-on.true)

pub returns-else-not-was : goal.returns-else-not-was
unfolding pulse_of
returns-else-not-was c = elim c.else-not-was.branch [ else-not-was-via-then-not-was+else-on w ↦ simp (w.if-not-was.true, w.if-on.false) | else-not-was-via-else-not-was w ↦ simp w.if-not-was.false ]
