-- Every message begins with `? `, ends in a newline, its only one, and has at most 128 bytes.
use Rattle.std.specs.Prelude.{◌≡◌, refl, true, ℕ, ◌≤◌, length}
use Rattle.std.proofs.Math.ListN.{get_or-eq_default}
use Rattle.decimal.specs.Decimal.{same_text}
use Rattle.script.specs.Collector.{no_newline}
use Rattle.script.specs.Messages.{longest_message, is_message}
use Rattle.script.proofs.MessageLaws.{all_messages, each, message-short}
use Rattle.poll_dialog.specs.Messages.{bad_pick_text, messages, message_of}

-- EVERY MESSAGE IS ONE
pub message-is : (reason : ℕ) → is_message (message_of reason) ≡ true
unfolding message_of all_messages no_newline same_text
message-is reason = each messages reason bad_pick_text refl refl

pub message-fits : (reason : ℕ) → length (message_of reason) ≤ longest_message
message-fits reason = message-short (message_of reason) (message-is reason)

-- a number that is no reason of 0 to 3
pub other-message : (reason : ℕ) → 4 ≤ reason → message_of reason ≡ bad_pick_text
unfolding message_of
other-message reason h = get_or-eq_default messages bad_pick_text {n = reason} h
