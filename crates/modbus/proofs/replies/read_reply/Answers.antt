-- `modbus::replies::read_reply` meets its contract: the bytes of the word, its low half first, are those of the definition.
use Rattle.std.proofs.Common.{◌≡◌, ◌/◌, ◌%◌, ◌∙◌, arith, to_z-of_z}
use Rattle.modbus.specs.Replies.{read_reply}
use Rattle.integers.specs.TwosComplement.{bits_of}
use Rattle.integers.proofs.TwosComplementLaws.{bits-lt}
use Rattle.modbus.proofs.WordLaws.{bits-read}
use Rattle.modbus.proofs.replies.read_reply.Goals as goal

pub returns : goal.returns
unfolding read_reply
returns c =
    let w = bits_of c.args.z in
    let h = bits-lt c.args.z c.ranges.z.sfits in
    let b0 : w / 256 % 256 ≡ w % 65536 / 256 = omega arith in
    let b1 : w % 65536 % 256 ≡ w % 256 = omega arith in
    let b2 : w / 16777216 % 256 ≡ w / 65536 / 256 = omega arith in
    c.closed.ensures ∙ rw (c.to_be_bytes.ensures, to_z-of_z c.ranges.z, bits-read c.args.z, b0, b1, b2)
