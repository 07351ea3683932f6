-- `integers::floor_rem` meets its contract: a number from 0 to r - 1 is its own remainder, and any other is divided.
use mathlib.Core.Path.{◌≡◌}
use mathlib.Core.Bool.{true}
use native.Mathlib.Omega.{arith}
use lib.IntN.{pos}
use lib.Signed.{le_z, lt_z}
use mir.Syntax.{w64}
use mir.Facts.{to_z-of_z}
use Rattle.integers.specs.IntLaws.{ints, back_at}
use Rattle.integers.proofs.FloorLaws.{floor-small}
use Rattle.integers.proofs.floor_rem.Goals as goal

pub returns-then-d-r : goal.returns-then-d-r
returns-then-d-r c =
    let s = c.before.before in
    let low : le_z (pos 0) s.args.d ≡ true = simp (to_z-of_z, s.ranges.d) at c.if-d-ge0.true in
    let high : lt_z s.args.d s.args.r ≡ true = simp (to_z-of_z, s.ranges.d, s.ranges.r) at c.if-d-r.true in
    rw (to_z-of_z s.ranges.d) (floor-small s.args.d s.args.r (omega (arith, ints)) (omega (arith, ints)))

pub returns : goal.returns
returns c =
    let s = c.before.before in
    let e = simp (to_z-of_z, s.ranges.d, s.ranges.r) at c.divided.ensures in
    rw (back_at w64 c.divided.result c.divided.type_inv) e
