-- `script::collector::renew` meets its contract: the line has ended, or it goes on.
use Rattle.script.specs.Collector.{begun_of}
use Rattle.script.proofs.collector.renew.Goals as goal

pub returns-then-x : goal.returns-then-x
unfolding begun_of
returns-then-x c = rw c.if-x.true

pub returns : goal.returns
unfolding begun_of
returns c = rw c.if-x.false
