-- `text::put_word` meets its contract: a word of 32 bits is a number of at most 18 digits.
use native.Mathlib.Omega.{arith}
use lib.IntN.{ℤ}
use mir.Syntax.{w32, w64}
use mir.Val.{SFits}
use mir.Facts.{to_z-of_z}
use Rattle.integers.specs.IntLaws.{size, wider, fits-within}
use Rattle.text.proofs.put_word.Goals as goal

pub as_wide : {z : ℤ} → SFits w32 z → SFits w64 z
as_wide f = fits-within {w = w64} (size f) (omega arith)

pub overflow_cast-z : goal.overflow_cast-z
overflow_cast-z c = rw (to_z-of_z {w = w32} c.ranges.z) (as_wide c.ranges.z)

pub put_number-requires : goal.put_number-requires
put_number-requires c = (omega arith, rw (to_z-of_z {w = w32} c.ranges.z, to_z-of_z {w = w64} (as_wide c.ranges.z)) (wider (size c.ranges.z) (omega arith)))

pub returns : goal.returns
returns c = rw (to_z-of_z {w = w32} c.ranges.z, to_z-of_z {w = w64} (as_wide c.ranges.z)) at c.put_number.ensures
