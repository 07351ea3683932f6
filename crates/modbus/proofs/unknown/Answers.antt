-- `modbus::unknown` meets its contract: without a second byte there is no function, and the other tests are the definition's.
use Prim.Native.Nat.{◌≤◌}
use native.Mathlib.Omega.{arith}
use borrow.Author.Tests.{eq-eqb, ne_eqb}
use lib.ListN.{length, get_or-eq_default}
use Rattle.modbus.specs.Request.{is_unknown}
use Rattle.modbus.proofs.unknown.Goals as goal

pub returns-then-f-lt2 : goal.returns-then-f-lt2
unfolding is_unknown
returns-then-f-lt2 c = let f = c.args.f.now in
    let short : length f ≤ 1 = omega arith in
    rw (get_or-eq_default f 0 short)

pub returns-then-function-ne-READ : goal.returns-then-function-ne-READ
unfolding is_unknown
returns-then-function-ne-READ c = rw (ne_eqb _ _ c.if-function-ne-READ.true)

pub returns-else-function-ne-READ : goal.returns-else-function-ne-READ
unfolding is_unknown
returns-else-function-ne-READ c = rw (eq-eqb _ _ c.if-function-ne-READ.false)
