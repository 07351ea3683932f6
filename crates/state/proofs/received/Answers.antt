-- `state::received` meets its contract: the basis of the telegram, its reading, and least and greatest with it.
use Rattle.state.proofs.received.Goals as goal

pub returns : goal.returns
returns c = rw c.widened-x.ensures
