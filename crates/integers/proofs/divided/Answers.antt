-- `integers::divided` meets its contract: std's remainder goes from 0 to r - 1 where r is above 0.
use mathlib.Core.Path.{◌∙◌}
use mir.Syntax.{w64}
use mir.Facts.{to_z-of_z}
use Rattle.integers.proofs.FloorLaws.{rem-none, rem-euclid}
use Rattle.integers.proofs.divided.Goals as goal

pub returns-then-r-le0 : goal.returns-then-r-le0
returns-then-r-le0 c = rem-none _ _ (simp (to_z-of_z, c.ranges.r) at c.if-r-le0.true)

pub returns : goal.returns
returns c =
    let value = rw (to_z-of_z c.ranges.d, to_z-of_z c.ranges.r) at c.rem_euclid.ensures.value in
    to_z-of_z {w = w64} (record { sfits = c.rem_euclid.type_inv }) ∙ value ∙ rem-euclid c.args.d c.args.r (simp (to_z-of_z, c.ranges.r) at c.if-r-le0.false)
