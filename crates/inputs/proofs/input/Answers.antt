-- `inputs::input` meets its contract: the command of its action, on what is left so far, and its marks.
use Rattle.inputs.proofs.CommandLaws.{input-aimed}
use Rattle.inputs.proofs.input.Goals as goal

pub command-y-requires : goal.command-y-requires
command-y-requires c = let b = c in
    let s = b in
    (s.requires.0, rw b.action_at-a.ensures (input-aimed _ _))

pub returns : goal.returns
returns c = let b = c in
    let a = b.action_at-a.ensures in
    let is = rw a at b.command-y.ensures.is in
    record {
      is = rw (c.or-note.ensures, ← is);
      marks = rw a at b.command-y.ensures.marks;
    }
