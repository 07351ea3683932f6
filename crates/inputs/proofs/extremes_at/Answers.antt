-- `inputs::extremes_at` meets its contract: its test is the definition's.
use mir.Facts.{to_z-of_z}
use Rattle.inputs.specs.Commands.{extremes_at}
use Rattle.inputs.proofs.ErrorLaws.{no-error}
use Rattle.inputs.proofs.extremes_at.Goals as goal

pub returns-then-seen-is_none : goal.returns-then-seen-is_none
unfolding extremes_at
returns-then-seen-is_none c = rw (to_z-of_z c.ranges.res, no-error _ _ c.is_none.ensures, c.if-seen-is_none.true)

pub returns : goal.returns
unfolding extremes_at
returns c = rw (no-error _ _ c.is_none.ensures, c.if-seen-is_none.false)
