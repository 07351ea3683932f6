-- `slave::files::table_line` meets its contract: a blank line, a slot, and every other command.
use Rattle.std.proofs.Common.{◌≡◌, ℕ, List, ℤ, None, refl, sym, w32, rules}
use Rattle.integers.specs.IntLaws.{bk}
use Rattle.script.specs.declared.Command.{Command}
use Rattle.script.specs.declared.Command.TheVariants.{Blank, Wrong, Node, Slot, Start, Halves, Record, Telegram, Burst, Levels, Tick, Frame}
use Rattle.slave.specs.Files.{listed_of}
use Rattle.slave.proofs.files.table_line.Goals as goal

others : (t : List ℤ) (c : Command) → (c ≡ Blank → ⊥) → ((n : ℕ) (z : ℤ) → c ≡ Slot n z → ⊥) → listed_of t c ≡ None
unfolding listed_of
others t Blank b s = absurd (b refl)
others t (Slot n z) b s = absurd (s n z refl)
others t (Wrong n) b s = refl
others t (Node n) b s = refl
others t Start b s = refl
others t Halves b s = refl
others t Record b s = refl
others t (Telegram w) b s = refl
others t Burst b s = refl
others t (Levels l) b s = refl
others t (Tick ms) b s = refl
others t Frame b s = refl

pub returns-in-Blank : goal.returns-in-Blank
unfolding listed_of
returns-in-Blank c = rw c.in-Blank.is

pub returns-in-Slot : goal.returns-in-Slot
unfolding listed_of
returns-in-Slot c =
    let z : bk w32 c.in-Slot.z ≡ c.in-Slot.z = search rules in
    rw (c.in-Slot.is, c.changed.ensures, z)

pub returns-in_default : goal.returns-in_default
returns-in_default c = sym (others c.args.t c.args.c c.in_default.not-Blank c.in_default.not-Slot)
