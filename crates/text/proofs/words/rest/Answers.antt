-- `text::words::rest` meets its contract: the part from the end of the first word on.
use Rattle.text.specs.WordSteps.{rest_of}
use Rattle.text.specs.WordLaws.{part-all}
use Rattle.text.specs.WordLaws.{word-within}
use Rattle.text.proofs.words.rest.Goals as goal

pub slice_bounds-result-count : goal.slice_bounds-result-count
slice_bounds-result-count c = rw c.word_length-n.ensures (word-within c.unspaced-t.result.now)

pub slice_bounds-result-start : goal.slice_bounds-result-start
slice_bounds-result-start c = slice_bounds-result-count c

pub returns : goal.returns
unfolding rest_of
returns c = rw (part-all c.unspaced-t.result.now c.word_length-n.result, c.word_length-n.ensures, c.unspaced-t.ensures)
