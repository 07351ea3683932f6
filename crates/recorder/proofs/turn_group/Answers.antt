-- `recorder::turn_group` meets its contract: the words of the group are turned, and their bytes are put.
use mathlib.Core.Path.{ap, ◌∙◌}
use Rattle.bitplanes.specs.Turned.{turned_group}
use Rattle.events.specs.Bytes.{bytes_of}
use Rattle.recorder.proofs.turn_group.Goals as goal

pub returns : goal.returns
returns c = c.put_words.ensures ∙ ap bytes_of (c.turn_group.ensures ∙ ap turned_group c.words_of-words.ensures)
