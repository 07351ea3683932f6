-- `panel::step` meets its contract: it advances a copy of the table, and the answer is that of what is left.
use mathlib.Core.Path.{◌∙◌}
use Rattle.panel.specs.Step.{answer_of}
use Rattle.panel.proofs.step.Goals as goal

pub returns : goal.returns
unfolding answer_of
returns c = let a = c.advance-x in
    let is = c.answered.ensures ∙ a.ensures.is in
    record {
      is = is;
      valid = rw c.answered.ensures a.ensures.valid;
    }
