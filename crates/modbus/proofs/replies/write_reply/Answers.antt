-- `modbus::replies::write_reply` meets its contract: the register's two bytes are those of the definition.
use Rattle.std.proofs.Common.{◌≡◌, ◌/◌, ◌%◌, ◌∙◌, arith}
use Rattle.modbus.specs.Replies.{write_reply}
use Rattle.modbus.proofs.replies.write_reply.Goals as goal

pub returns : goal.returns
unfolding write_reply
returns c =
    let r = c.args.register in
    let high : r / 256 % 256 ≡ r / 256 = omega arith in
    c.closed.ensures ∙ rw (c.to_be_bytes.ensures, high)
