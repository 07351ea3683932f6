-- `slave::serve` is safe. The invariant: the panel is valid, as `read` promises.
use Rattle.state.specs.Valid.{Good}
use Rattle.slave.proofs.serve.Given as goal

abbrev pub invariant-loop : goal.invariant-loop
invariant-loop l = Good l.slave.state
