-- `slave::Slave::take_bytes` meets its contract. The invariant: the panel stays valid, as `answer` promises. The measure is what is left of the bytes: `feed` takes one at least.
use Rattle.std.proofs.Common.{◌-◌, length}
use Rattle.state.specs.Valid.{Good}
use Rattle.slave.proofs.Slave.take_bytes.Given as goal

abbrev pub invariant-loop-at : goal.invariant-loop-at
invariant-loop-at l = Good l.self.state

abbrev pub decreases-loop-at : goal.decreases-loop-at
decreases-loop-at l = length l.bytes - l.at
