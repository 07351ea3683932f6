-- `inputs::teach_refusal` meets its contract: its test is the definition's.
use Rattle.inputs.specs.Commands.{teach_refusal}
use Rattle.inputs.proofs.ErrorLaws.{no-error}
use Rattle.inputs.proofs.teach_refusal.Goals as goal

pub returns-then-seen-is_none : goal.returns-then-seen-is_none
unfolding teach_refusal
returns-then-seen-is_none c = rw (no-error _ _ c.is_none.ensures, c.if-seen-is_none.true)

pub returns : goal.returns
unfolding teach_refusal
returns c = rw (no-error _ _ c.is_none.ensures, c.if-seen-is_none.false)
