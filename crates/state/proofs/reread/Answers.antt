-- `state::reread` meets its contract: the reading anew, and the extremes with it.
use Rattle.state.proofs.reread.Goals as goal

pub returns : goal.returns
returns c = rw (c.with_reading.ensures, c.widened-x.ensures)
