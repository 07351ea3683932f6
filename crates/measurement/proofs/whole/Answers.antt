-- `measurement::whole` meets its contract: a whole number is its own rounding, and no half.
use mir.Facts.{to_z-of_z}
use Rattle.integers.proofs.HalfLaws.{whole-rounded}
use Rattle.measurement.proofs.whole.Goals as goal

pub returns : goal.returns
returns c = rw (to_z-of_z c.ranges.z) (whole-rounded c.args.z)
