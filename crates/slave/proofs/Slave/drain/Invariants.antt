-- `slave::Slave::drain` meets its contract. The invariant: the panel stays valid, as `take_event` promises, and the node address and the serial line stay as they were.
use Rattle.std.proofs.Common.{◌≡◌}
use Rattle.state.specs.Valid.{Good}
use Rattle.slave.proofs.Slave.drain.Given as goal

abbrev pub invariant-loop : goal.invariant-loop
invariant-loop l = record {
  valid : Good l.self.state;
  node : l.self.node ≡ l.initial.self.node;
  line : l.self.line ≡ l.initial.self.line;
}
