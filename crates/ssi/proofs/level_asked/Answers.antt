-- `ssi::level_asked` meets its contract: each arm is one answer to whether the error is asked for.
use Rattle.ssi.proofs.level_asked.Goals as goal

pub returns : goal.returns
returns c = rw c.if-error.false
