-- `script::messages::put_message` meets its contract: each arm puts the text of its reason.
use mathlib.Core.Path.{◌≡◌}
use Prim.Native.Nat.{ℕ, suc, ◌≤◌}
use native.Mathlib.Omega.{arith}
use Rattle.script.specs.Messages.{message_of}
use Rattle.script.proofs.MessageLaws.{other-message}
use Rattle.script.proofs.messages.put_message.Goals as goal

-- a number that is not below k and is not k
pub above : (k n : ℕ) → k ≤ n → (n ≡ k → ⊥) → suc k ≤ n
above k n h e = omega arith

pub returns-in-1 : goal.returns-in-1
unfolding message_of
returns-in-1 c = rw c.in-1.is c.put_bytes.ensures

pub returns-in-2 : goal.returns-in-2
unfolding message_of
returns-in-2 c = rw c.in-2.is c.put_bytes-in-2.ensures

pub returns-in-3 : goal.returns-in-3
unfolding message_of
returns-in-3 c = rw c.in-3.is c.put_bytes-in-3.ensures

pub returns-in-4 : goal.returns-in-4
unfolding message_of
returns-in-4 c = rw c.in-4.is c.put_bytes-in-4.ensures

pub returns-in-5 : goal.returns-in-5
unfolding message_of
returns-in-5 c = rw c.in-5.is c.put_bytes-in-5.ensures

pub returns-in-6 : goal.returns-in-6
unfolding message_of
returns-in-6 c = rw c.in-6.is c.put_bytes-in-6.ensures

pub returns-in-7 : goal.returns-in-7
unfolding message_of
returns-in-7 c = rw c.in-7.is c.put_bytes-in-7.ensures

pub returns-in-8 : goal.returns-in-8
unfolding message_of
returns-in-8 c = rw c.in-8.is c.put_bytes-in-8.ensures

pub returns-in-9 : goal.returns-in-9
unfolding message_of
returns-in-9 c = rw c.in-9.is c.put_bytes-in-9.ensures

pub returns-in-10 : goal.returns-in-10
unfolding message_of
returns-in-10 c = rw c.in-10.is c.put_bytes-in-10.ensures

pub returns-in-11 : goal.returns-in-11
unfolding message_of
returns-in-11 c = rw c.in-11.is c.put_bytes-in-11.ensures

pub returns-in-12 : goal.returns-in-12
unfolding message_of
returns-in-12 c = rw c.in-12.is c.put_bytes-in-12.ensures

pub returns-in_default : goal.returns-in_default
returns-in_default c = rw (other-message c.args.kind (λ h. omega arith)) c.put_bytes-in_default.ensures
