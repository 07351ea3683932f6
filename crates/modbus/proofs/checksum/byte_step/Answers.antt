-- `modbus::checksum::byte_step` meets its contract: the loop begins with all eight bits, each turn takes one, and none is left at the end.
use Rattle.std.proofs.Common.{◌≡◌, ◌+◌, ◌-◌, sym, ◌∙◌, arith}
use Rattle.modbus.specs.Crc.{byte_step, bit_steps}
use Rattle.modbus.proofs.CrcLaws.{steps_next}
use Rattle.modbus.proofs.checksum.byte_step.Goals as goal

pub loop-init : goal.loop-init
unfolding byte_step
loop-init c = rw c.from.ensures

pub loop-preserved : goal.loop-preserved
loop-preserved c =
    let l = c.loop in
    let one : 8 - l.counter - 1 ≡ 8 - (l.counter + 1) = omega arith in
    l.invariant ∙ rw (c.bit_step-x.ensures, ← one) (steps_next (8 - l.counter) l.x (omega arith))

pub returns : goal.returns
unfolding bit_steps
returns c =
    let l = c.loop in
    let z : 8 - l.counter ≡ 0 = omega arith in
    sym (rw z at l.invariant)
