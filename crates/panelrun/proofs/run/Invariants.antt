-- `panelrun::run` is safe and ends. The invariant: the run is valid.
use Rattle.logrun.specs.Progress.{Ready}
use Rattle.panelrun.proofs.run.Given as goal

abbrev pub invariant-loop : goal.invariant-loop
invariant-loop g l = Ready l.q
