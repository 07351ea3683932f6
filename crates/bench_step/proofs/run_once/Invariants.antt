-- `bench_step::run_once` meets its contract. The invariant: the state stays valid, as `panel::advance` promises.
use Rattle.state.specs.State.{state_of}
use Rattle.state.specs.Valid.{Good}
use Rattle.bench_step.proofs.run_once.Given as goal

abbrev pub invariant-loop-w : goal.invariant-loop-w
invariant-loop-w l = Good (state_of l.t l.live)
