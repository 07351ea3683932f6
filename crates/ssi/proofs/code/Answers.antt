-- `ssi::code` meets its contract: each arm is one format.
use Rattle.ssi.proofs.Arms.{coded-binary}
use Rattle.ssi.proofs.code.Goals as goal

pub returns-then-format-eq0 : goal.returns-then-format-eq0
returns-then-format-eq0 c = rw c.if-format-eq0.true

pub returns : goal.returns
returns c = coded-binary c.args.format c.args.p c.if-format-eq0.false
