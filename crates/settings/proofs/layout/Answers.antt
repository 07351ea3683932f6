-- `settings::layout` meets its contract: each field is the number of its slot.
use borrow.Author.Rules.{rules}
use Rattle.settings.specs.Settings.{layout_of}
use Rattle.settings.proofs.layout.Goals as goal

pub returns : goal.returns
unfolding layout_of
returns c = let b = c in
    let d = b in
    rw (d.natural.ensures, d.natural-2.ensures, d.natural-3.ensures, b.natural-4.ensures, b.natural-5.ensures, c.natural-6.ensures)
