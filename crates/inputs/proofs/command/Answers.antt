-- `inputs::command` meets its contract: refused with its number, or carried out; only a reset carried out brings marks.
use mathlib.Core.Path.{refl, sym, ◌∙◌}
use Rattle.inputs.specs.Commands.{command_of}
use Rattle.inputs.proofs.CommandLaws.{refused-keeps}
use Rattle.inputs.proofs.command.Goals as goal

pub returns-in-None : goal.returns-in-None
unfolding command_of
returns-in-None c = record {
  is = rw (sym c.refusal.ensures ∙ c.in-None.is) c.carry_out.ensures.is;
  marks = c.carry_out.ensures.marks;
}

pub returns-in-Some : goal.returns-in-Some
unfolding command_of
returns-in-Some c = let e = sym c.refusal.ensures ∙ c.in-Some.is in
    record {
      is = rw (e, c.kept.ensures);
      marks = rw c.kept.ensures (sym (refused-keeps _ _ _ (rw e refl)));
    }
