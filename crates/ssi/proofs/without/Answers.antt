-- `ssi::without` meets its contract: with all bits but one kept, the number loses what that bit is worth.
use Rattle.ssi.proofs.Arms.{without-none, without_is}
use Rattle.ssi.proofs.without.Goals as goal

pub returns-then-n-eq0 : goal.returns-then-n-eq0
returns-then-n-eq0 c = without-none c.args.n c.args.t c.if-n-eq0.true

pub returns : goal.returns
returns c = without_is c.args.n c.args.t c.if-n-eq0.false c.requires c.ranges.t.fits
