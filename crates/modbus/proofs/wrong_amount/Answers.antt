-- `modbus::wrong_amount` meets its contract: the quantity is tested first, and the byte count of a write alone.
use borrow.Author.Tests.{eq-eqb, ne_eqb}
use Rattle.modbus.specs.Request.{wrong_amount}
use Rattle.modbus.proofs.wrong_amount.Goals as goal

pub returns-then-number_of-ne2 : goal.returns-then-number_of-ne2
unfolding wrong_amount
returns-then-number_of-ne2 c = rw (← c.number_of.ensures, ne_eqb _ _ c.if-number_of-ne2.true)

pub returns-then-f-eq-WRITE : goal.returns-then-f-eq-WRITE
unfolding wrong_amount
returns-then-f-eq-WRITE c = rw (← c.number_of.ensures, eq-eqb _ _ c.if-number_of-ne2.false, eq-eqb _ _ c.if-f-eq-WRITE.true)

pub returns-else-f-eq-WRITE : goal.returns-else-f-eq-WRITE
unfolding wrong_amount
returns-else-f-eq-WRITE c = rw (← c.number_of.ensures, eq-eqb _ _ c.if-number_of-ne2.false, ne_eqb _ _ c.if-f-eq-WRITE.false)
