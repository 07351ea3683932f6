-- `sheet::start` meets its contract: the table's bytes are all of the buffer, and what is opened runs.
use mathlib.Core.Path.{◌∙◌}
use Rattle.sheet.specs.LogWordLaws.{table-whole}
use Rattle.sheet.specs.Sheet.{after_start, start_text}
use borrow.Author.Rules.{rules}
use Rattle.sheet.proofs.start.Goals as goal

pub returns : goal.returns
unfolding after_start start_text
returns c = let o = c.opened-o.ensures in
    let t = c in
    let whole = table-whole c.args.s.table (search rules) (search rules) t.put_table.ensures in
    record {
      is = c.with_run-sheet.ensures ∙ rw (o.is, o.loads, whole);
      text = rw whole at o.text;
    }
