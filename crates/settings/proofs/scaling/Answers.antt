-- `settings::scaling` meets its contract: each field is the number or the word of its slot.
use borrow.Author.Rules.{rules}
use mir.Syntax.{w32}
use Rattle.integers.specs.IntLaws.{back_at}
use Rattle.settings.specs.Settings.{scaling_of}
use Rattle.settings.proofs.scaling.Goals as goal

pub returns : goal.returns
unfolding scaling_of
returns c = let b = c in
    let d = b in
    let w = d.word in
    rw (
      back_at w32 w.result w.type_inv,
      back_at w32 b.word-2.result b.word-2.type_inv,
      d.natural.ensures,
      w.ensures,
      d.natural-2.ensures,
      d.natural-3.ensures,
      b.natural-4.ensures,
      b.word-2.ensures,
      c.natural-5.ensures,
      c.natural-6.ensures,
    )
