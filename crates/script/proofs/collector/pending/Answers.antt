-- `script::collector::pending` meets its contract: the line has ended, or its bytes decide.
use borrow.Author.Tests.{not-true, not-false}
use Rattle.script.specs.Collector.{pending_of}
use Rattle.script.proofs.collector.pending.Goals as goal

pub returns-then-not-c : goal.returns-then-not-c
unfolding pending_of
returns-then-not-c c = rw (not-true c.args.c.ended c.if-not-c.true)

pub returns-else-not-c : goal.returns-else-not-c
unfolding pending_of
returns-else-not-c c = rw (not-false c.args.c.ended c.if-not-c.false)
