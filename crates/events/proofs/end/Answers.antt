-- `events::end` meets its contract: each test answers for one refusal.
use borrow.Author.Tests.{eq-eqb, ne_eqb}
use Rattle.events.specs.Log.{end_of}
use Rattle.events.proofs.HalfLaws.{half-some, half-none}
use Rattle.events.proofs.end.Goals as goal

pub returns-then-left_over-ne0 : goal.returns-then-left_over-ne0
unfolding end_of
returns-then-left_over-ne0 c = rw (ne_eqb _ _ c.if-left_over-ne0.true)

pub returns-in-Some : goal.returns-in-Some
unfolding end_of
returns-in-Some c = rw (eq-eqb _ _ c.if-left_over-ne0.false, half-some c.args.p _ c.in-Some.ensures)

pub returns-in-None : goal.returns-in-None
unfolding end_of
returns-in-None c = rw (eq-eqb _ _ c.if-left_over-ne0.false, half-none c.args.p c.in-None.ensures)
