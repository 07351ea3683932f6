-- `logrun::finished` meets its contract: a refusal stands, and else the end of the log says how the run ends.
use Rattle.logrun.specs.Progress.{finished_of}
use Rattle.logrun.proofs.finished.Goals as goal

pub returns-in-Some : goal.returns-in-Some
unfolding finished_of
returns-in-Some c = rw c.in-Some.is

pub returns-in-None : goal.returns-in-None
unfolding finished_of
returns-in-None c = rw c.in-None.is c.end.ensures
