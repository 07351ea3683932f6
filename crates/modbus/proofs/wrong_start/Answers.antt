-- `modbus::wrong_start` meets its contract: the map is tested first, and the shown value's register for a write alone.
use borrow.Author.Tests.{eq-eqb, ne_eqb}
use Rattle.modbus.specs.Request.{wrong_start}
use Rattle.modbus.proofs.wrong_start.Goals as goal

pub returns-then-not-mapped : goal.returns-then-not-mapped
unfolding wrong_start
returns-then-not-mapped c = rw (← c.start_of-start.ensures, ← c.mapped.ensures, c.if-not-mapped.true-raw)

pub returns-then-f-eq-WRITE : goal.returns-then-f-eq-WRITE
unfolding wrong_start
returns-then-f-eq-WRITE c = rw (← c.start_of-start.ensures, ← c.mapped.ensures, c.if-not-mapped.false-raw, eq-eqb _ _ c.if-f-eq-WRITE.true)

pub returns-else-f-eq-WRITE : goal.returns-else-f-eq-WRITE
unfolding wrong_start
returns-else-f-eq-WRITE c = rw (← c.start_of-start.ensures, ← c.mapped.ensures, c.if-not-mapped.false-raw, ne_eqb _ _ c.if-f-eq-WRITE.false)
