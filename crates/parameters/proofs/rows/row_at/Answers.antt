-- A slot's row number is below 57, and the constant list is the definition's list by computation.
use native.Mathlib.Omega.{arith}
use Rattle.parameters.specs.Rows.{row_at}
use Rattle.parameters.proofs.RowLaws.{row_below}
use Rattle.parameters.proofs.rows.row_at.Goals as goal

pub offset_bounds-row_of : goal.offset_bounds-row_of
offset_bounds-row_of c = omega (arith, row_below c.args.slot)

pub bounds-row_of-row_of : goal.bounds-row_of-row_of
bounds-row_of-row_of c = omega (arith, row_below c.args.slot)

pub returns : goal.returns
unfolding row_at
returns c = rw c.row_of.ensures
