-- `analog::milliamps20` meets its contract: its literals are the definition's whole numbers as floats, and a code fits the cast.
use mir.Facts.{to_z-of_z}
use lib.Ieee.{of_bits, of_int}
use Rattle.analog.specs.Drives.{float_of}
use Rattle.analog.proofs.FloatCast.{cast-asked}
use Rattle.analog.proofs.milliamps20.Goals as goal

pub int_to_float-result : goal.int_to_float-result
int_to_float-result c = cast-asked 1 c.ranges.code c.requires

pub returns : goal.returns
unfolding float_of of_bits of_int
returns c = rw (to_z-of_z c.ranges.code)
