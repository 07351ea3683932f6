-- `framing::Collector::silence` meets its contract: its test is the definition's.
use Rattle.std.proofs.Common.{eq-eqb, ne_eqb}
use Rattle.framing.specs.Collector.{quieted}
use Rattle.framing.proofs.Collector.silence.Goals as goal

pub returns-then-still_held-eq0 : goal.returns-then-still_held-eq0
unfolding quieted
returns-then-still_held-eq0 c = rw (← c.still_held.ensures, eq-eqb _ _ c.if-still_held-eq0.true, c.empty.ensures)

pub returns : goal.returns
unfolding quieted
returns c = rw (← c.still_held.ensures, ne_eqb _ _ c.if-still_held-eq0.false)
