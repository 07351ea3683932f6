-- `script::collector::asked` meets its contract: what the bytes that are held mean.
use Rattle.script.specs.Collector.{asked_of}
use Rattle.script.proofs.collector.asked.Goals as goal

pub returns : goal.returns
unfolding asked_of
returns c = rw (← c.held-n.ensures.0) c.read.ensures
