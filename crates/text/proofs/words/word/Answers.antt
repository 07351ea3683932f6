-- `text::words::word` meets its contract: the part up to the first space, behind the spaces in front.
use mathlib.Core.Path.{sym}
use lib.Seq.{length-take-le}
use Rattle.text.specs.WordSteps.{word_of}
use Rattle.text.specs.WordLaws.{word-within}
use Rattle.text.proofs.words.word.Goals as goal

pub slice_bounds-result-end : goal.slice_bounds-result-end
slice_bounds-result-end c = rw c.word_length-n.ensures (sym (length-take-le _ _ (word-within c.unspaced-t.result.now)))

pub returns : goal.returns
unfolding word_of
returns c = rw (c.word_length-n.ensures, c.unspaced-t.ensures)
