-- Every message begins with `? `, ends in a newline, its only one, and has at most 128 bytes.
use Rattle.std.specs.Prelude.{◌≡◌, refl, Bool, true, ◌&&◌, List, [], ◌∷◌, ℕ, zero, suc, ◌-◌, ◌≤◌, ◌<◌, eqb, leb, length, get_or, take}
use Rattle.std.proofs.Common.{arith, leb-true}
use Rattle.std.proofs.Math.ListN.{get_or-eq_default}
use Rattle.decimal.specs.Decimal.{same_text}
use Rattle.decimal.specs.DigitLaws.{both_true}
use Rattle.text.specs.Marks.{space, newline}
use Rattle.script.specs.Collector.{no_newline}
use Rattle.script.specs.Messages.{no_panel_text, messages, message_of, longest_message, is_message}

unfoldable pub all_messages : List (List ℕ) → Bool
all_messages [] = true
all_messages (t ∷ ts) = is_message t && all_messages ts

-- the texts of a list are messages: so is each of them, and what stands for all others
pub each : (ts : List (List ℕ)) (n : ℕ) (t : List ℕ) → all_messages ts ≡ true → is_message t ≡ true → is_message (get_or ts n t) ≡ true
unfolding all_messages
each [] n t a e = e
each (u ∷ ts) zero t a e = (both_true (is_message u) (all_messages ts) a).0
each (u ∷ ts) (suc n) t a e = each ts n t (both_true (is_message u) (all_messages ts) a).1 e

-- a message is not too long
pub message-short : (t : List ℕ) → is_message t ≡ true → length t ≤ longest_message
message-short t e =
    leb-true (length t) longest_message
    (both_true (leb (length t) longest_message) (same_text (take 2 t) (63 ∷ space ∷ []) && (eqb (get_or t (length t - 1) 0) newline && no_newline (take (length t - 1) t))) e).0

-- EVERY MESSAGE IS ONE
pub message-is : (kind : ℕ) → is_message (message_of kind) ≡ true
unfolding message_of all_messages no_newline same_text
message-is kind = each messages kind no_panel_text refl refl

pub message-fits : (kind : ℕ) → length (message_of kind) ≤ longest_message
message-fits kind = message-short (message_of kind) (message-is kind)

-- a number that is no reason of 1 to 12
pub other-message : (kind : ℕ) → (0 < kind → 13 ≤ kind) → message_of kind ≡ no_panel_text
unfolding message_of
other-message zero h = refl
other-message (suc n) h = get_or-eq_default messages no_panel_text {n = suc n} (omega (arith, h (omega arith)))
