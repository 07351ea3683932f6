-- `framing::foreign` meets its contract: its tests are the definition's.
use borrow.Author.Tests.{eq-eqb, ne_eqb}
use Rattle.framing.specs.Ends.{is_foreign}
use Rattle.framing.proofs.foreign.Goals as goal

pub returns-then-address-ne0 : goal.returns-then-address-ne0
unfolding is_foreign
returns-then-address-ne0 c = rw (ne_eqb _ _ c.if-address-ne0.true)

pub returns-else-address-ne0 : goal.returns-else-address-ne0
unfolding is_foreign
returns-else-address-ne0 c = rw (eq-eqb _ _ c.if-address-ne0.false)
