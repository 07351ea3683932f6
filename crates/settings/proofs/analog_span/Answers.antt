-- `settings::analog_span` meets its contract: each field is the number or the word of its slot.
use borrow.Author.Rules.{rules}
use mir.Syntax.{w32}
use Rattle.integers.specs.IntLaws.{back_at}
use Rattle.settings.specs.Settings.{span_of}
use Rattle.settings.proofs.analog_span.Goals as goal

pub returns : goal.returns
unfolding span_of
returns c = let b = c in
    rw (
      back_at w32 b.word.result b.word.type_inv,
      back_at w32 c.word-2.result c.word-2.type_inv,
      b.natural.ensures,
      b.word.ensures,
      c.word-2.ensures,
    )
