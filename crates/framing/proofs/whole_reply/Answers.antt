-- `framing::whole_reply` meets its contract: its tests are the definition's.
use borrow.Author.Tests.{le-leb, lt-leb}
use Rattle.framing.specs.Ends.{is_reply}
use Rattle.framing.proofs.whole_reply.Goals as goal

pub returns-then-reply_long : goal.returns-then-reply_long
unfolding is_reply
returns-then-reply_long c = rw (le-leb _ _ c.if-f-le-MOST_BYTES.true, ← c.reply_long.ensures, c.if-reply_long.true, c.crc_right.ensures)

pub returns-else-reply_long : goal.returns-else-reply_long
unfolding is_reply
returns-else-reply_long c = rw (le-leb _ _ c.if-f-le-MOST_BYTES.true, ← c.reply_long.ensures, c.if-reply_long.false)

pub returns-else-f-le-MOST_BYTES : goal.returns-else-f-le-MOST_BYTES
unfolding is_reply
returns-else-f-le-MOST_BYTES c = rw (lt-leb _ _ c.if-f-le-MOST_BYTES.false)
