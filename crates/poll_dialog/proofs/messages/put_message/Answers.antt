-- `poll_dialog::messages::put_message` meets its contract: each arm puts the text of its reason.
use native.Mathlib.Omega.{arith}
use Rattle.poll_dialog.specs.Messages.{message_of}
use Rattle.poll_dialog.specs.MessageLaws.{other-message}
use Rattle.poll_dialog.proofs.messages.put_message.Goals as goal

pub returns-in-0 : goal.returns-in-0
unfolding message_of
returns-in-0 c = rw c.in-0.is c.put_bytes.ensures

pub returns-in-1 : goal.returns-in-1
unfolding message_of
returns-in-1 c = rw c.in-1.is c.put_bytes-in-1.ensures

pub returns-in-2 : goal.returns-in-2
unfolding message_of
returns-in-2 c = rw c.in-2.is c.put_bytes-in-2.ensures

pub returns-in-3 : goal.returns-in-3
unfolding message_of
returns-in-3 c = rw c.in-3.is c.put_bytes-in-3.ensures

pub returns-in_default : goal.returns-in_default
returns-in_default c = let m = c in
    rw (other-message m.args.reason (omega arith)) c.put_bytes-in_default.ensures
