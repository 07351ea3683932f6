-- `modbus::replies::no_reply` meets its contract: nine zeros.
use mathlib.Core.Path.{refl}
use Rattle.modbus.specs.Replies.{packed}
use Rattle.modbus.proofs.replies.no_reply.Goals as goal

pub returns : goal.returns
unfolding packed
returns c = refl
