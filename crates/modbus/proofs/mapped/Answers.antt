-- `modbus::mapped` meets its contract: each way through its tests is a case of the definition.
use borrow.Author.Tests.{eq-eqb, ne_eqb, lt-ltb, le-ltb}
use Rattle.modbus.specs.Request.{is_mapped}
use Rattle.modbus.proofs.mapped.Goals as goal

pub returns-then-register-eq-SHOWN_REGISTER : goal.returns-then-register-eq-SHOWN_REGISTER
unfolding is_mapped
returns-then-register-eq-SHOWN_REGISTER c = rw (eq-eqb _ _ c.if-register-eq-SHOWN_REGISTER.true)

pub returns-then-register-lt-SLOT_REGISTERS : goal.returns-then-register-lt-SLOT_REGISTERS
unfolding is_mapped
returns-then-register-lt-SLOT_REGISTERS c = rw (ne_eqb _ _ c.if-register-eq-SHOWN_REGISTER.false, lt-ltb _ _ c.if-register-lt-SLOT_REGISTERS.true)

pub returns-else-register-lt-SLOT_REGISTERS : goal.returns-else-register-lt-SLOT_REGISTERS
unfolding is_mapped
returns-else-register-lt-SLOT_REGISTERS c = rw (ne_eqb _ _ c.if-register-eq-SHOWN_REGISTER.false, le-ltb _ _ c.if-register-lt-SLOT_REGISTERS.false)
