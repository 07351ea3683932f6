-- The two tests are the definition's own, on the words that their bits read back.
use Rattle.std.proofs.Common.{◌≡◌, rules, to_z, of_z, w32}
use Rattle.parameters.specs.Rows.{in_range}
use Rattle.parameters.proofs.rows.in_range.Goals as goal

pub returns : goal.returns
unfolding in_range
returns c =
    let row = c.row_at-row in
    let same-word : to_z w32 (of_z w32 c.args.v) ≡ c.args.v = search rules in
    let same-low : to_z w32 (of_z w32 row.result.0) ≡ row.result.0 = search rules in
    let same-high : to_z w32 (of_z w32 row.result.1) ≡ row.result.1 = search rules in
    rw (same-word, same-low, same-high, row.ensures)
