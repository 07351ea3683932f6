-- `lines::put_analog` meets its contract: each arm of the match puts the text that the definition has for that drive.
use mir.Syntax.{w32}
use mir.Facts.{to_z-of_z}
use Rattle.lines.specs.Lines.{analog_text}
use borrow.Author.Rules.{rules}
use Rattle.lines.proofs.put_analog.Goals as goal

pub returns-in-Off : goal.returns-in-Off
unfolding analog_text
returns-in-Off c = rw c.in-Off.is c.put_bytes.ensures

pub returns-in-Volts : goal.returns-in-Volts
unfolding analog_text
returns-in-Volts c = rw c.in-Volts.is (rw (to_z-of_z {w = w32} c.ranges.code) at c.put_word.ensures)

pub returns-in-Milliamps : goal.returns-in-Milliamps
unfolding analog_text
returns-in-Milliamps c = rw c.in-Milliamps.is (rw (to_z-of_z {w = w32} c.ranges.code) at c.put_word-in-Milliamps.ensures)
