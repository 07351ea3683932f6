-- `ssi::accepts` meets its contract: at most the mask of N bits is below 2 to the power N.
use Rattle.ssi.specs.Telegram.{accepted}
use Rattle.ssi.proofs.Arms.{mask-leb}
use Rattle.ssi.proofs.accepts.Goals as goal

pub returns : goal.returns
unfolding accepted
returns c = rw c.mask.ensures (mask-leb c.args.t c.args.l.resolution)
