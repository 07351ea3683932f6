-- `framing::Collector::push` meets its contract: a byte behind those held, if there is room for it; else it is dropped.
use Rattle.std.proofs.Common.{lt-ltb, le-ltb}
use Rattle.framing.specs.Collector.{pushed}
use Rattle.framing.proofs.Collector.push.Goals as goal

pub returns-then-n-lt-MOST_HELD : goal.returns-then-n-lt-MOST_HELD
unfolding pushed
returns-then-n-lt-MOST_HELD c = rw (← c.still_held-n.ensures, lt-ltb _ _ c.if-n-lt-MOST_HELD.true, c.judge.ensures, c.add.ensures)

pub returns-else-n-lt-MOST_HELD : goal.returns-else-n-lt-MOST_HELD
unfolding pushed
returns-else-n-lt-MOST_HELD c = rw (← c.still_held-n.ensures, le-ltb _ _ c.if-n-lt-MOST_HELD.false)
