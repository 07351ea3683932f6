-- The tests are the definition's own, on the numbers read.
use Rattle.std.proofs.Common.{ne_eqb, eq-eqb}
use Rattle.parameters.specs.Load.{frozen_by_edge}
use Rattle.parameters.proofs.checks.frozen_by_edge.Goals as goal

pub returns-then-natural-ne2 : goal.returns-then-natural-ne2
unfolding frozen_by_edge
returns-then-natural-ne2 c = rw (← c.natural.ensures, ne_eqb _ _ c.if-natural-ne2.true)

pub returns : goal.returns
unfolding frozen_by_edge
returns c = rw (← c.natural.ensures, ← c.natural-config.ensures, eq-eqb _ _ c.if-natural-ne2.false)
