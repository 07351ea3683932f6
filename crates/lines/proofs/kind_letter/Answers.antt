-- `lines::kind_letter` meets its contract: each arm of the match has the letter of its kind.
use borrow.Author.Rules.{rules}
use Rattle.lines.proofs.kind_letter.Goals as goal

pub returns-in-Telegram : goal.returns-in-Telegram
returns-in-Telegram c = rw c.in-Telegram.is

pub returns-in-Levels : goal.returns-in-Levels
returns-in-Levels c = rw c.in-Levels.is

pub returns-in-Tick : goal.returns-in-Tick
returns-in-Tick c = rw c.in-Tick.is
