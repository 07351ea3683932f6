-- `modbus::checksum::bit_step` meets its contract: its test is the definition's.
use borrow.Author.Tests.{eq-eqb, ne_eqb}
use Rattle.modbus.specs.Crc.{bit_step}
use Rattle.modbus.proofs.checksum.bit_step.Goals as goal

pub returns-then-c-eq1 : goal.returns-then-c-eq1
unfolding bit_step
returns-then-c-eq1 c = rw (eq-eqb _ _ c.if-c-eq1.true)

pub returns : goal.returns
unfolding bit_step
returns c = rw (ne_eqb _ _ c.if-c-eq1.false)
