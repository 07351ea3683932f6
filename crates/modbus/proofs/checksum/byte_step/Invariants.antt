-- `modbus::checksum::byte_step` meets its contract. The invariant: of the eight bits, those not yet counted are still to be taken of x.
use Rattle.std.proofs.Common.{◌≡◌, ◌-◌}
use Rattle.modbus.specs.Crc.{byte_step, bit_steps}
use Rattle.modbus.proofs.checksum.byte_step.Given as goal

abbrev pub invariant-loop : goal.invariant-loop
invariant-loop l = byte_step l.c l.b ≡ bit_steps (8 - l.counter) l.x
