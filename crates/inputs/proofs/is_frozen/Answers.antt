-- `inputs::is_frozen` meets its contract: the three inputs, one after the other.
use Rattle.integers.specs.TestLaws.{clash}
use Rattle.inputs.specs.Freeze.{frozen}
use Rattle.inputs.proofs.is_frozen.Goals.{then-holds, else-holds}
use Rattle.inputs.proofs.is_frozen.Goals as goal

pub returns-then-holds-2 : goal.returns-then-holds-2
unfolding frozen
returns-then-holds-2 c =
    elim c.if-holds.branch [
      | then-holds w ↦ rw (w.value-is, ← c.holds.ensures, w.if-holds.true)
      | else-holds w ↦ rw (← c.holds.ensures, w.if-holds.false, ← w.holds-else-holds.ensures, ← w.value-is, c.if-holds-2.true)
    ]

pub returns-else-holds-2 : goal.returns-else-holds-2
unfolding frozen
returns-else-holds-2 c =
    elim c.if-holds.branch [
      | then-holds w ↦ absurd (clash c.if-holds-2.false (rw (w.value-is, w.if-holds.true)))
      | else-holds w ↦ rw (← c.holds.ensures, w.if-holds.false, ← w.holds-else-holds.ensures, ← w.value-is, c.if-holds-2.false, c.holds-else-holds-2.ensures)
    ]
