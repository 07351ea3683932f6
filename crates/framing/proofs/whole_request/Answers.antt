-- `framing::whole_request` meets its contract: its tests are the definition's.
use Rattle.framing.specs.Ends.{is_request}
use Rattle.framing.proofs.whole_request.Goals as goal

pub returns-then-not-unknown : goal.returns-then-not-unknown
unfolding is_request
returns-then-not-unknown c = rw (← c.unknown.ensures, c.if-not-unknown.true-raw, c.broken.ensures)

pub returns-else-not-unknown : goal.returns-else-not-unknown
unfolding is_request
returns-else-not-unknown c = rw (← c.unknown.ensures, c.if-not-unknown.false-raw)
