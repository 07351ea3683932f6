-- The lesser of the two.
use Rattle.std.proofs.Common.{◌∙◌}
use Rattle.parameters.proofs.RowLaws.{row-least}
use Rattle.parameters.proofs.rows.row_of.Goals as goal

pub returns : goal.returns
returns c = c.min.ensures ∙ row-least c.args.slot
