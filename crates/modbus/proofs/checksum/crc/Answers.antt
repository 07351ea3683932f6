-- `modbus::checksum::crc` meets its contract: a byte is taken from the front of the rest, and behind the last byte the rest is empty.
use Rattle.std.proofs.Common.{◌≤◌, ◌∙◌, sym, arith, length, drop_of_length-le}
use Rattle.modbus.specs.Crc.{crc_from}
use Rattle.modbus.proofs.CrcLaws.{crc-next}
use Rattle.modbus.proofs.checksum.crc.Goals as goal

pub loop-b-preserved : goal.loop-b-preserved
loop-b-preserved c =
    let l = c.loop-b in
    l.invariant ∙ rw c.byte_step-c.ensures (crc-next l.c c.args.bytes.now l.b-index (omega arith))

pub returns : goal.returns
unfolding crc_from
returns c =
    let l = c.loop-b in
    let done : length c.args.bytes.now ≤ l.b-index = omega arith in
    sym (rw (drop_of_length-le c.args.bytes.now done) at l.invariant)
