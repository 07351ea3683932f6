-- `modbus::misfit` meets its contract: each way through its tests is a case of the definition.
use borrow.Author.Tests.{eq-eqb, ne_eqb, lt-ltb, le-ltb}
use Rattle.modbus.specs.Request.{is_misfit}
use Rattle.modbus.proofs.misfit.Goals as goal

pub returns-then-function-eq-READ : goal.returns-then-function-eq-READ
unfolding is_misfit
returns-then-function-eq-READ c = rw (eq-eqb _ _ c.if-function-eq-READ.true)

pub returns-then-f-lt9 : goal.returns-then-f-lt9
unfolding is_misfit
returns-then-f-lt9 c = rw (ne_eqb _ _ c.if-function-eq-READ.false, eq-eqb _ _ c.if-function-eq-WRITE.true, lt-ltb _ _ c.if-f-lt9.true)

pub returns-else-f-lt9 : goal.returns-else-f-lt9
unfolding is_misfit
returns-else-f-lt9 c = rw (ne_eqb _ _ c.if-function-eq-READ.false, eq-eqb _ _ c.if-function-eq-WRITE.true, le-ltb _ _ c.if-f-lt9.false, c.from.ensures)

pub returns : goal.returns
unfolding is_misfit
returns c = rw (ne_eqb _ _ c.if-function-eq-READ.false, ne_eqb _ _ c.if-function-eq-WRITE.false)
