-- `slave::files::event_line` meets its contract: a blank line, the three events, and every other command.
use Rattle.std.proofs.Common.{◌≡◌, ℕ, None, refl, sym, rules}
use Rattle.state.specs.declared.State.{State}
use Rattle.script.specs.declared.Command.{Command}
use Rattle.script.specs.declared.Command.TheVariants.{Blank, Wrong, Node, Slot, Start, Halves, Record, Telegram, Burst, Levels, Tick, Frame}
use Rattle.slave.specs.Files.{stepped_of}
use Rattle.slave.proofs.files.event_line.Goals as goal

others : (s : State) (c : Command) → (c ≡ Blank → ⊥) → ((w : ℕ) → c ≡ Telegram w → ⊥) → ((l : ℕ) → c ≡ Levels l → ⊥) → ((ms : ℕ) → c ≡ Tick ms → ⊥)
    → stepped_of s c ≡ None
unfolding stepped_of
others s Blank b t l m = absurd (b refl)
others s (Telegram w) b t l m = absurd (t w refl)
others s (Levels w) b t l m = absurd (l w refl)
others s (Tick ms) b t l m = absurd (m ms refl)
others s (Wrong n) b t l m = refl
others s (Node n) b t l m = refl
others s (Slot n z) b t l m = refl
others s Start b t l m = refl
others s Halves b t l m = refl
others s Record b t l m = refl
others s Burst b t l m = refl
others s Frame b t l m = refl

pub returns-in-Blank-clause-is : goal.returns-in-Blank-clause-is
unfolding stepped_of
returns-in-Blank-clause-is c = rw c.in-Blank.is

pub returns-in-Telegram-clause-is : goal.returns-in-Telegram-clause-is
unfolding stepped_of
returns-in-Telegram-clause-is c = rw (c.in-Telegram.is, c.moved.ensures.is)

pub returns-in-Levels-clause-is : goal.returns-in-Levels-clause-is
unfolding stepped_of
returns-in-Levels-clause-is c = rw (c.in-Levels.is, c.moved-in-Levels.ensures.is)

pub returns-in-Tick-clause-is : goal.returns-in-Tick-clause-is
unfolding stepped_of
returns-in-Tick-clause-is c = rw (c.in-Tick.is, c.moved-in-Tick.ensures.is)

pub returns-in_default : goal.returns-in_default
returns-in_default c = record {
  is = sym (others c.args.s c.args.c c.in_default.not-Blank c.in_default.not-Telegram c.in_default.not-Levels c.in_default.not-Tick);
  valid = search rules;
}
