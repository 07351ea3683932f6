-- `inputs::holds` meets its contract: an input set to the freeze, while it lasts.
use Rattle.inputs.specs.Freeze.{freezes}
use Rattle.inputs.proofs.holds.Goals as goal

pub returns-then-freezes_at : goal.returns-then-freezes_at
unfolding freezes
returns-then-freezes_at c = let b = c in
    let test = b in
    rw (← test.freezes_at.ensures, test.if-freezes_at.true, c.lasts_at.ensures, c.high_at.ensures, b.config_at.ensures)

pub returns : goal.returns
unfolding freezes
returns c = rw (← c.freezes_at.ensures, c.if-freezes_at.false)
