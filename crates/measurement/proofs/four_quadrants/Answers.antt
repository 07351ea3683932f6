-- `measurement::four_quadrants` meets its contract: `from_point` answers where a point was found, and the first point's y where none was (`value_none`).
use mathlib.Core.Path.{sym, ap, ◌∙◌}
use native.Mathlib.Omega.{arith}
use lib.IntN.{pos}
use lib.ListN.{get_or}
use mir.Syntax.{w32}
use mir.Val.{SFits}
use mir.Facts.{to_z-of_z}
use Rattle.integers.specs.IntLaws.{ints, back_at}
use Rattle.integers.specs.Fraction.{rounded}
use Rattle.measurement.proofs.SearchLaws.{value_none}
use Rattle.measurement.proofs.four_quadrants.Goals as goal

pub highest-requires : goal.highest-requires
highest-requires c = c.requires.long

pub from_point-requires : goal.from_point-requires
from_point-requires c = let h = c.highest in
    (c.requires, sym h.ensures ∙ c.in-Some.is)

pub bounds-points-1 : goal.bounds-points-1
bounds-points-1 c = let u = c.requires in omega (arith, u.long, u.some)

pub overflow_cast-points : goal.overflow_cast-points
overflow_cast-points c = let f : SFits w32 (get_or c.args.points.now 1 (pos 0)) = record { sfits = c.whole-arg-1.given } in
    omega (arith, ints)

pub returns-in-Some : goal.returns-in-Some
returns-in-Some c = let s = c in
    rw (to_z-of_z s.ranges.v) at c.from_point.ensures

pub returns-in-None : goal.returns-in-None
returns-in-None c = let s = c in
    let h = c.highest in
    let e = rw (to_z-of_z s.ranges.v) at (sym h.ensures ∙ c.in-None.is) in
    let w = rw (to_z-of_z (overflow_cast-points c.before), back_at w32 (get_or s.args.points.now 1 (pos 0)) c.whole-arg-1.given) at c.whole.ensures in
    w ∙ ap rounded (sym (value_none s.requires s.args.v e))
