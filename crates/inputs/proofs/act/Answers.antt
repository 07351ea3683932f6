-- `inputs::act` meets its contract. The invariant: the first i inputs have acted on what the call was given, where they act, and left their marks.
use mathlib.Core.Path.{◌≡◌, refl, ◌∙◌}
use native.Mathlib.Omega.{arith}
use native.Mathlib.Numerals.{add-one}
use Rattle.inputs.specs.Commands.{acted}
use Rattle.inputs.specs.Levels.{edge_at, input_of, marks_at}
use Rattle.inputs.proofs.CommandLaws.{inputs_of, all-inputs, marks_up_to, all-marks, good-inputs, good-commands}
use Rattle.state.specs.Refusal.{no_note}
use Rattle.state.specs.State.{state_of}
use Rattle.inputs.proofs.act.Goals.{then-edge, else-edge}
use Rattle.inputs.proofs.act.Goals as goal

pub loop-i-init : goal.loop-i-init
unfolding inputs_of marks_up_to
loop-i-init c = (refl, c.no_halves.ensures)

pub edge-requires : goal.edge-requires
edge-requires c = omega arith

pub input-x-requires : goal.input-x-requires
input-x-requires c = let turn = c in
    let l = turn.loop-i in
    let s = turn in
    let g = rw (← l.invariant.0) at (good-inputs s.args.levels l.i (acted (state_of s.args.t.now s.args.l) no_note) s.requires) in
    (g.table, omega arith)

pub loop-i-preserved : goal.loop-i-preserved
unfolding inputs_of input_of edge_at marks_up_to marks_at
loop-i-preserved c = let l = c.loop-i in
    let e = c.edge.ensures in
    elim c.if-edge.branch [
      | then-edge w ↦
          (rw (add-one, ← l.invariant.0, ← e, w.if-edge.true, w.t-is, w.x-is) w.input-x.ensures.is, rw (add-one, ← l.invariant.0, ← e, w.if-edge.true, w.x-is, ← l.invariant.1) w.input-x.ensures.marks)
      | else-edge w ↦
          (rw (add-one, ← l.invariant.0, ← e, w.if-edge.false, w.t-is, w.x-is), rw (add-one, ← l.invariant.0, ← e, w.if-edge.false, w.x-is, ← l.invariant.1))
    ]

pub returns : goal.returns
returns c = let l = c.loop-i in
    let s = c in
    let all : l.i ≡ 3 = omega arith in
    let f = state_of s.args.t.now s.args.l in
    let e = (rw all at l.invariant.0) ∙ all-inputs f s.args.levels in
    record {
      is = e;
      marks = (rw all at l.invariant.1) ∙ all-marks f s.args.levels;
      valid = rw (← e) at (good-commands f s.args.levels s.requires);
    }
