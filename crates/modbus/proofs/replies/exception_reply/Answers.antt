-- `modbus::replies::exception_reply` meets its contract: the body is the definition's.
use Rattle.modbus.specs.Replies.{exception_reply}
use Rattle.modbus.proofs.replies.exception_reply.Goals as goal

pub returns : goal.returns
unfolding exception_reply
returns c = c.closed.ensures
