-- `switching::condition::without_sign` meets its contract: it is what the call gives of the same number.
use native.Mathlib.Omega.{arith}
use mir.Syntax.{w64}
use mir.Facts.{to_z-of_z}
use Rattle.integers.specs.IntLaws.{ints, fit, back_at}
use Rattle.switching.proofs.condition.without_sign.Goals as goal

pub overflow_cast-x : goal.overflow_cast-x
overflow_cast-x c = omega (arith, ints)

pub magnitude-requires : goal.magnitude-requires
magnitude-requires c = record { above = omega (arith, ints, fit (overflow_cast-x c)); below = omega (arith, ints, fit (overflow_cast-x c)) }

pub returns : goal.returns
returns c = rw (back_at w64 c.magnitude.result c.magnitude.type_inv, c.magnitude.ensures, to_z-of_z (overflow_cast-x c.before), to_z-of_z c.ranges.x)
