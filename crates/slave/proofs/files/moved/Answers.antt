-- `slave::files::moved` meets its contract: the state is that of the step's answer.
use Rattle.std.proofs.Common.{ap}
use Rattle.panel.specs.Step.{answer_of}
use Rattle.panel.specs.declared.Answer.{Answer}
use Rattle.slave.proofs.files.moved.Goals as goal

pub returns-clause-is : goal.returns-clause-is
unfolding answer_of
returns-clause-is c = ap (λ (a : Answer). a.state) c.advance-o.ensures.is
