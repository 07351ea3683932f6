-- `ssi::level` meets its contract: the bit is shifted down to the lowest, which is kept alone.
use Rattle.ssi.proofs.Arms.{level-is}
use Rattle.ssi.proofs.level.Goals as goal

pub returns : goal.returns
returns c = level-is c.args.n c.args.t c.if-n-eq0.false
