-- `framing::reply_long` meets its contract: fewer than 5 bytes are no reply, and each other way through its tests is a case of the definition.
use native.Mathlib.Omega.{arith}
use borrow.Author.Tests.{eq-eqb, ne_eqb, lt-ltb, le-ltb, le-leb, lt-leb}
use Rattle.framing.specs.Ends.{is_reply_long}
use Rattle.framing.proofs.EndLaws.{short-no-reply}
use mathlib.Core.Path.{sym}
use Rattle.framing.proofs.reply_long.Goals as goal

pub returns-then-f-lt5 : goal.returns-then-f-lt5
returns-then-f-lt5 c = sym (short-no-reply _ c.if-f-lt5.true)

pub overflow_add-result : goal.overflow_add-result
overflow_add-result c = omega (arith, c.from.ensures, c.shared_slice_known-then-f-gt5-1.given 2)

pub returns-then-f-gt5 : goal.returns-then-f-gt5
unfolding is_reply_long
returns-then-f-gt5 c = rw (eq-eqb _ _ c.if-function-eq-READ.true, lt-ltb _ _ c.if-f-gt5.true, c.from.ensures)

pub returns-else-f-gt5 : goal.returns-else-f-gt5
unfolding is_reply_long
returns-else-f-gt5 c = rw (eq-eqb _ _ c.if-function-eq-READ.true, le-ltb _ _ c.if-f-gt5.false)

pub returns-then-function-eq-WRITE : goal.returns-then-function-eq-WRITE
unfolding is_reply_long
returns-then-function-eq-WRITE c = rw (ne_eqb _ _ c.if-function-eq-READ.false, eq-eqb _ _ c.if-function-eq-WRITE.true)

pub returns-then-function-ge128 : goal.returns-then-function-ge128
unfolding is_reply_long
returns-then-function-ge128 c = rw (ne_eqb _ _ c.if-function-eq-READ.false, ne_eqb _ _ c.if-function-eq-WRITE.false, le-leb _ _ c.if-function-ge128.true)

pub returns-else-function-ge128 : goal.returns-else-function-ge128
unfolding is_reply_long
returns-else-function-ge128 c = rw (ne_eqb _ _ c.if-function-eq-READ.false, ne_eqb _ _ c.if-function-eq-WRITE.false, lt-leb _ _ c.if-function-ge128.false)
