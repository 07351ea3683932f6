-- `inputs::clear_locks` meets its contract.
use Rattle.inputs.proofs.clear_locks.Goals as goal

pub returns : goal.returns
returns c = rw (c.with_switches.ensures, c.unlock_all.ensures)
