-- `driverecord::lower` meets its contract: the test on the floats is the definition's.
use Rattle.driverecord.proofs.lower.Goals as goal

pub returns-then-x-y : goal.returns-then-x-y
returns-then-x-y c = rw c.if-x-y.true

pub returns : goal.returns
returns c = rw c.if-x-y.false
