-- `settings::preselection` meets its contract: each field is the number or the word of its slot, k strides on.
use borrow.Author.Rules.{rules}
use mir.Syntax.{w32}
use Rattle.integers.specs.IntLaws.{back_at}
use Rattle.settings.specs.Settings.{preselection_of}
use Rattle.settings.proofs.preselection.Goals as goal

pub returns : goal.returns
unfolding preselection_of
returns c = let b = c in
    let d = b in
    let w = d.word in
    rw (
      back_at w32 w.result w.type_inv,
      w.ensures,
      d.natural.ensures,
      b.natural-2.ensures,
      b.natural-3.ensures,
      b.natural-4.ensures,
      c.natural-5.ensures,
      c.natural-6.ensures,
      c.natural-7.ensures,
    )
