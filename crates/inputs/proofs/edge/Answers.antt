-- `inputs::edge` meets its contract: the config of the input, and its level before and after.
use Rattle.inputs.proofs.edge.Goals as goal

pub returns : goal.returns
returns c = let b = c in
    rw (c.acts_on.ensures, c.high_at-2.ensures, b.high_at.ensures, b.config_at.ensures)
