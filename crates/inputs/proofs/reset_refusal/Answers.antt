-- `inputs::reset_refusal` meets its contract: its tests are the definition's, in their order.
use borrow.Author.Tests.{lt-ltb, le-ltb}
use Rattle.inputs.specs.Commands.{reset_refusal}
use Rattle.inputs.proofs.reset_refusal.Goals as goal

pub returns-then-seen-is_error_bit : goal.returns-then-seen-is_error_bit
unfolding reset_refusal
returns-then-seen-is_error_bit c = rw (← c.is_error_bit.ensures, c.if-seen-is_error_bit.true)

pub returns-then-start : goal.returns-then-start
unfolding reset_refusal
returns-then-start c = rw (← c.is_error_bit.ensures, c.if-seen-is_error_bit.false, lt-ltb _ _ c.if-start.true)

pub returns : goal.returns
unfolding reset_refusal
returns c = rw (← c.is_error_bit.ensures, c.if-seen-is_error_bit.false, le-ltb _ _ c.if-start.false)
