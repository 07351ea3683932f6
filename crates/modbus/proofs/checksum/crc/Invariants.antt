-- `modbus::checksum::crc` meets its contract. The invariant: c is the CRC of the bytes before the next, so that the rest from c on gives the whole.
use Rattle.std.proofs.Common.{◌≡◌, drop}
use Rattle.modbus.specs.Crc.{crc_from, crc_of}
use Rattle.modbus.proofs.checksum.crc.Given as goal

abbrev pub invariant-loop-b : goal.invariant-loop-b
invariant-loop-b l = crc_of l.bytes ≡ crc_from l.c (drop l.b-index l.bytes)
