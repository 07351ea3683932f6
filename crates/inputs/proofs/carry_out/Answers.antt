-- `inputs::carry_out` meets its contract: each arm of the match is a clause of the definition, and the reset's alone brings marks.
use mathlib.Core.Path.{ap}
use Rattle.state.specs.declared.State.{State}
use Rattle.state.specs.Refusal.{no_note}
use Rattle.inputs.specs.Commands.{acted, clear_locks_of, clear_extremes_of, carried_out, marks_after}
use Rattle.inputs.proofs.CommandLaws.{reset-allowed}
use Rattle.inputs.proofs.carry_out.Goals as goal

pub reset-requires : goal.reset-requires
reset-requires c = let b = c in
    let s = b in
    (s.requires.0, reset-allowed _ (rw b.in-Reset.is at s.requires.1.1))

pub teach-requires : goal.teach-requires
teach-requires c = let b = c in
    rw b.in-Teach.is at b.requires.1.0

pub returns-in-None : goal.returns-in-None
unfolding carried_out marks_after
returns-in-None c = let told = c.in-None.is in
    record {
      is = rw (told, c.kept.ensures);
      marks = rw (told, c.kept.ensures);
    }

pub returns-in-Reset : goal.returns-in-Reset
unfolding carried_out marks_after
returns-in-Reset c = let b = c in
    let told = b.in-Reset.is in
    let done = rw told at b.requires.1.1 in
    record {
      is = rw told c.reset.ensures.is;
      marks = rw (told, done) c.reset.ensures.marks;
    }

pub returns-in-Freeze : goal.returns-in-Freeze
unfolding carried_out marks_after
returns-in-Freeze c = let told = c.in-Freeze.is in
    record {
      is = rw (told, c.kept-in-Freeze.ensures);
      marks = rw (told, c.kept-in-Freeze.ensures);
    }

pub returns-in-ClearLocks : goal.returns-in-ClearLocks
unfolding carried_out marks_after clear_locks_of
returns-in-ClearLocks c = let x = c in
    let told = x.in-ClearLocks.is in
    record {
      is = rw (told, c.kept-in-ClearLocks.ensures, x.clear_locks.ensures);
      marks = rw (told, c.kept-in-ClearLocks.ensures);
    }

pub returns-in-ClearExtremes : goal.returns-in-ClearExtremes
unfolding carried_out marks_after clear_extremes_of
returns-in-ClearExtremes c = let x = c in
    let told = x.in-ClearExtremes.is in
    record {
      is = rw (told, c.kept-in-ClearExtremes.ensures, x.clear_extremes.ensures);
      marks = rw (told, c.kept-in-ClearExtremes.ensures);
    }

pub returns-in-Teach : goal.returns-in-Teach
unfolding carried_out marks_after
returns-in-Teach c = let x = c in
    let told = x.in-Teach.is in
    record {
      is = rw (told, c.kept-in-Teach.ensures) (ap (λ (s : State). acted s no_note) x.teach.ensures);
      marks = rw (told, c.kept-in-Teach.ensures);
    }
