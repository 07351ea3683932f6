-- Each slot holds its default, as in the default table.
use Rattle.std.proofs.Common.{◌∙◌, sym, pos, rules, tests}
use Rattle.std.proofs.lemmas.List.FromFn.{fill_by_all}
use Rattle.parameters.specs.Rows.{default, row_at, default_table}
use Rattle.parameters.proofs.RowLaws.{default-at, default-length}
use Rattle.parameters.proofs.rows.defaults.Goals as goal

pub returns : goal.returns
returns c =
    let made = c.from_fn.ensures.items in
    fill_by_all (λ slot. default (row_at slot)) c.from_fn.result 104 (pos 0) made.long (λ slot h. let one = made.at slot (pos 0) h in search (rules, tests))
    ∙ sym (fill_by_all (λ slot. default (row_at slot)) default_table 104 (pos 0) default-length default-at)
