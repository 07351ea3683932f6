-- `recorded_planes::case` is safe: the rooms have the list and two words more.
use native.Mathlib.Omega.{arith}
use lib.Seq.{length-take-le}
use Rattle.recorded_planes.proofs.case.Goals as goal

pub turned-requires : goal.turned-requires
turned-requires g c = (length-take-le _ _ (omega arith), (length-take-le _ _ (omega arith), length-take-le _ _ (omega arith)))
