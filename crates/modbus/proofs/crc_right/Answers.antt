-- `modbus::crc_right` meets its contract: fewer than two bytes hold no CRC, and both sides of its last test are those of the definition.
use Prim.Native.Nat.{◌+◌, ◌-◌}
use mathlib.Core.Path.{◌≡◌}
use native.Mathlib.Omega.{arith}
use borrow.Author.Tests.{le-leb, lt-leb}
use lib.ListN.{length}
use Rattle.modbus.specs.Request.{crc_right}
use Rattle.modbus.proofs.crc_right.Goals as goal

pub returns-then-f-lt2 : goal.returns-then-f-lt2
unfolding crc_right
returns-then-f-lt2 c = rw (lt-leb _ _ c.if-f-lt2.true)

pub returns : goal.returns
unfolding crc_right
returns c = let n = c in
    let s = n in
    let l = length s.args.f.now in
    let e : l - 2 + 1 ≡ l - 1 = omega (arith, s.if-f-lt2.false) in
    rw (le-leb _ _ s.if-f-lt2.false, n.number_of.ensures, c.crc.ensures, e)
