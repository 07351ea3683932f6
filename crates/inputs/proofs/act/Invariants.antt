-- `inputs::act` meets its contract. The invariant: the first i inputs have acted on what the call was given, where they act, and left their marks.
use mathlib.Core.Path.{◌≡◌}
use Rattle.inputs.specs.Commands.{left_by}
use Rattle.inputs.proofs.CommandLaws.{inputs_of, marks_up_to}
use Rattle.inputs.proofs.act.Given as goal

abbrev pub invariant-loop-i : goal.invariant-loop-i
invariant-loop-i l = (left_by l.t l.x ≡ inputs_of l.levels l.i (left_by l.initial.t l.initial.x)) × (l.x.halves ≡ marks_up_to l.levels l.i (left_by l.initial.t l.initial.x))
