-- `modbus::broken` meets its contract: the tests are the definition's, in its order.
use borrow.Author.Tests.{lt-ltb, le-ltb}
use Rattle.modbus.specs.Request.{is_broken}
use Rattle.modbus.proofs.broken.Goals as goal

pub returns-then-f-lt4 : goal.returns-then-f-lt4
unfolding is_broken
returns-then-f-lt4 c = rw (lt-ltb _ _ c.if-f-lt4.true)

pub returns-then-f-gt-MOST_BYTES : goal.returns-then-f-gt-MOST_BYTES
unfolding is_broken
returns-then-f-gt-MOST_BYTES c = rw (le-ltb _ _ c.if-f-lt4.false, lt-ltb _ _ c.if-f-gt-MOST_BYTES.true)

pub returns-then-misfit : goal.returns-then-misfit
unfolding is_broken
returns-then-misfit c = rw (le-ltb _ _ c.if-f-lt4.false, le-ltb _ _ c.if-f-gt-MOST_BYTES.false, ← c.misfit.ensures, c.if-misfit.true)

pub returns-else-misfit : goal.returns-else-misfit
unfolding is_broken
returns-else-misfit c = rw (le-ltb _ _ c.if-f-lt4.false, le-ltb _ _ c.if-f-gt-MOST_BYTES.false, ← c.misfit.ensures, c.if-misfit.false, c.crc_right.ensures)
