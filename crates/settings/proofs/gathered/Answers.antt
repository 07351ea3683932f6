-- `settings::gathered` meets its contract: each part is that of the table.
use borrow.Author.Rules.{rules}
use Rattle.settings.proofs.gathered.Goals as goal

pub returns : goal.returns
returns c = let a = c in
    let s = a in
    rw (c.preselections.ensures, a.analog_span.ensures, s.scaling.ensures, s.layout.ensures)
