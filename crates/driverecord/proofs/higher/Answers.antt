-- `driverecord::higher` meets its contract: the test on the floats is the definition's.
use Rattle.driverecord.proofs.higher.Goals as goal

pub returns-then-y-x : goal.returns-then-y-x
returns-then-y-x c = rw c.if-y-x.true

pub returns : goal.returns
returns c = rw c.if-y-x.false
