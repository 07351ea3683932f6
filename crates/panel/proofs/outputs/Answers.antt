-- `panel::outputs` meets its contract.
use Rattle.panel.proofs.outputs.Goals as goal

pub returns : goal.returns
returns c = rw (c.outputs.ensures, c.preselections.ensures)
