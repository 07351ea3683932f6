-- `sheet::log_words::is_log` meets its contract: at most 100 words of 1 to 8 hex digits.
use borrow.Author.Rules.{rules}
use Rattle.sheet.specs.LogWords.{is_log}
use Rattle.sheet.proofs.log_words.is_log.Goals as goal

pub returns : goal.returns
unfolding is_log
returns c = c.are_hex.ensures
