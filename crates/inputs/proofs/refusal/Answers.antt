-- `inputs::refusal` meets its contract: each arm of the match is a clause of the definition.
use Rattle.inputs.specs.Commands.{refusal_of}
use Rattle.inputs.proofs.refusal.Goals as goal

pub returns-in-None : goal.returns-in-None
unfolding refusal_of
returns-in-None c = rw c.in-None.is

pub returns-in-Reset : goal.returns-in-Reset
unfolding refusal_of
returns-in-Reset c = let b = c in
    rw (b.in-Reset.is, c.reset_refusal.ensures)

pub returns-in-Freeze : goal.returns-in-Freeze
unfolding refusal_of
returns-in-Freeze c = rw c.in-Freeze.is

pub returns-in-ClearLocks : goal.returns-in-ClearLocks
unfolding refusal_of
returns-in-ClearLocks c = rw c.in-ClearLocks.is

pub returns-in-ClearExtremes : goal.returns-in-ClearExtremes
unfolding refusal_of
returns-in-ClearExtremes c = rw c.in-ClearExtremes.is

pub returns-in-Teach : goal.returns-in-Teach
unfolding refusal_of
returns-in-Teach c = let b = c in
    rw (b.in-Teach.is, c.teach_refusal.ensures)
