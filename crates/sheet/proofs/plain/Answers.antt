-- `sheet::plain` meets its contract: each thing that `script` asks for has its function.
use mathlib.Core.Path.{◌≡◌}
use mir.Syntax.{w32}
use Rattle.integers.specs.IntLaws.{bk}
use Rattle.text.specs.PutLaws.{put-none}
use Rattle.sheet.specs.Sheet.{after_plain, plain_text}
use borrow.Author.Rules.{rules}
use Rattle.sheet.proofs.plain.Goals as goal

pub returns-in-Blank : goal.returns-in-Blank
unfolding after_plain plain_text
returns-in-Blank c = let told = rw c.read-command.ensures at c.in-Blank.is in
    record {
      is = rw told;
      text = rw told (put-none _ 0);
    }

pub returns-in-Slot : goal.returns-in-Slot
unfolding after_plain plain_text
returns-in-Slot c = let x = c in
    let known = x in
    let told = rw known.read-command.ensures at known.in-Slot.is in
    let z : bk w32 known.in-Slot.z ≡ known.in-Slot.z = search rules in
    record {
      is = rw (told, c.with_table.ensures, x.changed.ensures, z);
      text = rw told (put-none _ 0);
    }

pub returns-in-Start : goal.returns-in-Start
unfolding after_plain plain_text
returns-in-Start c = let x = c in
    let told = rw x.read-command.ensures at x.in-Start.is in
    record {
      is = rw told x.start.ensures.is;
      text = rw told x.start.ensures.text;
    }

pub returns-in-Telegram : goal.returns-in-Telegram
unfolding after_plain plain_text
returns-in-Telegram c = let x = c in
    let told = rw x.read-command.ensures at x.in-Telegram.is in
    record {
      is = rw told x.event.ensures.is;
      text = rw told x.event.ensures.text;
    }

pub returns-in-Levels : goal.returns-in-Levels
unfolding after_plain plain_text
returns-in-Levels c = let x = c in
    let told = rw x.read-command.ensures at x.in-Levels.is in
    record {
      is = rw told x.event-in-Levels.ensures.is;
      text = rw told x.event-in-Levels.ensures.text;
    }

pub returns-in-Tick : goal.returns-in-Tick
unfolding after_plain plain_text
returns-in-Tick c = let x = c in
    let told = rw x.read-command.ensures at x.in-Tick.is in
    record {
      is = rw told x.event-in-Tick.ensures.is;
      text = rw told x.event-in-Tick.ensures.text;
    }

pub returns-in-Wrong : goal.returns-in-Wrong
unfolding after_plain plain_text
returns-in-Wrong c = let x = c in
    let told = rw x.read-command.ensures at x.in-Wrong.is in
    record {
      is = rw told x.unknown.ensures.is;
      text = rw told x.unknown.ensures.text;
    }

pub returns-in-Node : goal.returns-in-Node
unfolding after_plain plain_text
returns-in-Node c = let x = c in
    let told = rw x.read-command.ensures at x.in-Node.is in
    record {
      is = rw told x.unknown-in-Node.ensures.is;
      text = rw told x.unknown-in-Node.ensures.text;
    }

pub returns-in-Halves : goal.returns-in-Halves
unfolding after_plain plain_text
returns-in-Halves c = let x = c in
    let told = rw x.read-command.ensures at x.in-Halves.is in
    record {
      is = rw told x.unknown-in-Halves.ensures.is;
      text = rw told x.unknown-in-Halves.ensures.text;
    }

pub returns-in-Record : goal.returns-in-Record
unfolding after_plain plain_text
returns-in-Record c = let x = c in
    let told = rw x.read-command.ensures at x.in-Record.is in
    record {
      is = rw told x.unknown-in-Record.ensures.is;
      text = rw told x.unknown-in-Record.ensures.text;
    }

pub returns-in-Burst : goal.returns-in-Burst
unfolding after_plain plain_text
returns-in-Burst c = let x = c in
    let told = rw x.read-command.ensures at x.in-Burst.is in
    record {
      is = rw told x.unknown-in-Burst.ensures.is;
      text = rw told x.unknown-in-Burst.ensures.text;
    }

pub returns-in-Frame : goal.returns-in-Frame
unfolding after_plain plain_text
returns-in-Frame c = let x = c in
    let told = rw x.read-command.ensures at x.in-Frame.is in
    record {
      is = rw told x.unknown-in-Frame.ensures.is;
      text = rw told x.unknown-in-Frame.ensures.text;
    }
