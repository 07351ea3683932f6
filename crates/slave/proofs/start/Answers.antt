-- `slave::start` is safe: a node with which a panel starts is at most 247, so it fits a byte.
use Rattle.std.proofs.Common.{sym, ap, ◌∙◌, arith}
use Rattle.registers.specs.declared.Started.{Started}
use Rattle.registers.proofs.StartLaws.{starts}
use Rattle.slave.proofs.start.Goals as goal

pub overflow_cast-node : goal.overflow_cast-node
overflow_cast-node c =
    let address = (starts _ _ (ap Started.refusal (sym c.start-l.ensures.is) ∙ c.in_default.is)).address in
    record { fits = omega arith }
