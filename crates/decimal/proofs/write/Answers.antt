-- `decimal::write` meets its contract. A number below 0 is the minus sign and then, in the part after it, the digits of its size; another is its digits.
use Prim.Native.Nat.{◌<◌}
use mathlib.Core.Path.{◌≡◌}
use native.Mathlib.Omega.{arith}
use Rattle.integers.specs.Int.{N}
use mir.Syntax.{w64}
use Rattle.integers.specs.IntLaws.{bk, ints, fit, excl, abs_is}
use Rattle.decimal.specs.Decimal.{digits_of}
use Rattle.decimal.specs.DecimalLaws.{text-natural, text-negative}
use Rattle.decimal.proofs.Steps.{signed}
use Rattle.decimal.proofs.write.Goals as goal

pub returns-then-z-lt0 : goal.returns-then-z-lt0
returns-then-z-lt0 c =
    let w = c.write_digits-k in
    let n = c.unsigned_abs-n.result in
    let below : 0 < N c.args.z = omega (arith, ints, fit c.ranges.z) in
    let t = text-negative c.args.z n (omega (arith, c.unsigned_abs-n.ensures.value, fit c.ranges.z, abs_is (bk w64 c.args.z), excl c.args.z)) below in
    (rw t (omega (arith, w.ensures.0)), rw t (signed c.args.out.now (digits_of n) w.new.out w.result (omega arith) w.ensures.1))

pub returns : goal.returns
returns c =
    let w = c.write_digits in
    let above : N c.args.z ≡ 0 = omega (arith, ints, fit c.ranges.z, excl c.args.z) in
    let t = text-natural c.args.z c.unsigned_abs-n.result (omega (arith, above, c.unsigned_abs-n.ensures.value, fit c.ranges.z, abs_is (bk w64 c.args.z))) above in
    (rw t w.ensures.0, rw t w.ensures.1)
