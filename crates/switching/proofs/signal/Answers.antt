-- `switching::signal` meets its contract: each way out has the test of the pulse's length.
use borrow.Author.Tests.{eq-eqb, ne_eqb}
use Rattle.switching.specs.Switching.{signal_of}
use Rattle.switching.proofs.signal.Goals as goal

pub returns-then-p-eq0 : goal.returns-then-p-eq0
unfolding signal_of
returns-then-p-eq0 c = simp (eq-eqb _ _ c.if-p-eq0.true)

pub returns : goal.returns
unfolding signal_of
returns c = simp (ne_eqb _ _ c.if-p-eq0.false)
