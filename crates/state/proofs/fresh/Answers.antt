-- `state::fresh` meets its contract: four times the fresh switch, and the fresh record.
use Rattle.state.specs.State.{fresh_of}
use Rattle.state.proofs.fresh.Goals as goal

pub returns : goal.returns
unfolding fresh_of
returns c = rw (c.fresh-off.ensures, c.fresh.ensures)
