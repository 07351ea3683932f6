-- `bench_frame::serve_all` meets its contract. The invariant: the state stays valid, as `serve` promises. The measure is what is left of the frames.
use Rattle.std.proofs.Common.{length}
use Rattle.state.specs.State.{state_of}
use Rattle.state.specs.Valid.{Good}
use Rattle.bench_frame.proofs.serve_all.Given as goal

abbrev pub invariant-loop-left : goal.invariant-loop-left
invariant-loop-left l = Good (state_of l.t l.y.live)

abbrev pub decreases-loop-left : goal.decreases-loop-left
decreases-loop-left l = length l.left
