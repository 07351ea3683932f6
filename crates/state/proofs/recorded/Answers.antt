-- `state::recorded` meets its contract: the record is brought up to date with the reading's drive, and neither has a NaN.
use Rattle.state.proofs.recorded.Goals as goal

pub returns : goal.returns
returns c = rw (c.with_record.ensures, c.updated.ensures)
