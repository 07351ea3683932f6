-- THE NUMBERS OF A COMMAND LIE IN THEIR RANGES: a node address is at most 65535, a slot below 104. Those of levels, ticks and
-- telegrams fill the types that hold them.
use Rattle.std.specs.Prelude.{◌≡◌, refl, Bool, true, false, cond, List, [], ◌∷◌, ℕ, ◌≤◌, ◌<◌, eqb, ltb, leb, ℤ, length, get_or, Option, Some, None}
use Rattle.std.proofs.Common.{sym, ap, ◌∙◌, arith, leb-true, le-leb, ltb-true, lt-ltb}
use Rattle.integers.specs.ChoiceLaws.{by-test}
use Rattle.decimal.specs.Decimal.{same_text}
use Rattle.text.specs.Words.{trimmed_of, words_of, only_of, first_of, others_of}
use Rattle.text.specs.Hex.{is_hex, hex_of}
use Rattle.script.specs.declared.Command.{Command}
use Rattle.script.specs.declared.Command.TheVariants.{Blank, Wrong, Node, Slot, Start, Halves, Record, Telegram, Burst, Levels, Tick, Frame}
use Rattle.script.specs.Table.{Entry, named_in}
use Rattle.script.specs.declared.Reason.{Reason}
use Rattle.script.specs.declared.Reason.TheVariants.{TooLong, NoSuchWord, BadStart, BadTelegram, BadFrame, BadHalves, BadRecord, BadBurst}
use Rattle.script.specs.Commands.{natural_of, signed_of, last_node, last_slot, node_by, node_of, slot_by, slot_of, alone_of, start_of, halves_of, record_of, telegram_in, levels_by, levels_of, tick_by, tick_of, is_frame, framed_of, is_burst, burst_in, table, meaning_of, longest, longest_burst, burst_word, limit_of, hash, command_of}
use Rattle.script.proofs.NumberLaws.{count_most}

-- ---- how long a line may be: `longest` at least, and nowhere more than with `b`
module _ (ws : List (List ℕ)) where
  pub limit-least : longest ≤ limit_of ws
  unfolding limit_of
  limit-least = by-test (same_text (first_of ws) burst_word) longest_burst longest (λ (n : ℕ). longest ≤ n) (λ _. omega arith) (λ _. omega arith)

  pub limit-most : limit_of ws ≤ longest_burst
  unfolding limit_of
  limit-most = by-test (same_text (first_of ws) burst_word) longest_burst longest (λ (n : ℕ). n ≤ longest_burst) (λ _. omega arith) (λ _. omega arith)

-- ---- numbers
-- whether the numbers of a command lie in their ranges
unfoldable pub in_range : Command → Bool
in_range Blank = true
in_range (Wrong k) = true
in_range (Node n) = leb n 65535
in_range (Slot n z) = ltb n 104
in_range Start = true
in_range Halves = true
in_range Record = true
in_range (Telegram n) = true
in_range Burst = true
in_range (Levels n) = true
in_range (Tick n) = true
in_range Frame = true

-- ---- of two commands one is chosen
either : (t : Bool) (a b : Command) → in_range a ≡ true → in_range b ≡ true → in_range (cond t a b) ≡ true
either true a b p q = p
either false a b p q = q

-- ---- each word of the table
node_in_lem : (ws : List (List ℕ)) → in_range (node_of ws) ≡ true
unfolding node_of in_range
node_in_lem ws = by (natural_of last_node (only_of ws)) refl
  where
    by : (m : Option ℕ) → natural_of last_node (only_of ws) ≡ m → in_range (node_by m) ≡ true
    by (Some n) e = le-leb n 65535 (omega (arith, count_most last_node (only_of ws) n e))
    by None e = refl

slot-in : (ws : List (List ℕ)) → in_range (slot_of ws) ≡ true
unfolding slot_of in_range
slot-in ws = by (natural_of last_slot (first_of ws)) refl (signed_of (only_of (others_of ws)))
  where
    by : (m : Option ℕ) → natural_of last_slot (first_of ws) ≡ m → (v : Option ℤ) → in_range (slot_by m v) ≡ true
    by (Some n) e (Some z) = lt-ltb n 104 (omega (arith, count_most last_slot (first_of ws) n e))
    by (Some n) e None = refl
    by None e v = refl

alone-in : (c : Command) (reason : Reason) → in_range c ≡ true → (ws : List (List ℕ)) → in_range (alone_of c reason ws) ≡ true
unfolding alone_of in_range
alone-in c reason e [] = e
alone-in c reason e (w ∷ ws) = refl

start-in : (ws : List (List ℕ)) → in_range (start_of ws) ≡ true
unfolding in_range
start-in = alone-in Start BadStart refl

halves_in_lem : (ws : List (List ℕ)) → in_range (halves_of ws) ≡ true
unfolding in_range
halves_in_lem = alone-in Halves BadHalves refl

record-in : (ws : List (List ℕ)) → in_range (record_of ws) ≡ true
unfolding in_range
record-in = alone-in Record BadRecord refl

telegram-in : (ws : List (List ℕ)) → in_range (telegram_in ws) ≡ true
unfolding telegram_in in_range
telegram-in ws = either (is_hex 1 8 (only_of ws)) (Telegram (hex_of (only_of ws))) (Wrong BadTelegram) refl refl

burst-in : (ws : List (List ℕ)) → in_range (burst_in ws) ≡ true
unfolding burst_in in_range
burst-in ws = either (is_burst ws) Burst (Wrong BadBurst) refl refl

levels-in : (ws : List (List ℕ)) → in_range (levels_of ws) ≡ true
unfolding levels_of in_range
levels-in ws = by (natural_of 255 (only_of ws))
  where
    by : (m : Option ℕ) → in_range (levels_by m) ≡ true
    by (Some n) = refl
    by None = refl

tick-in : (ws : List (List ℕ)) → in_range (tick_of ws) ≡ true
unfolding tick_of in_range
tick-in ws = by (natural_of 65535 (only_of ws))
  where
    by : (m : Option ℕ) → in_range (tick_by m) ≡ true
    by (Some n) = refl
    by None = refl

framed-in : (ws : List (List ℕ)) → in_range (framed_of ws) ≡ true
unfolding framed_of in_range
framed-in ws = either (is_frame ws) Frame (Wrong BadFrame) refl refl

-- ---- the table, entry by entry
data AllIn : List (Entry Command) → Type 0 where
  none : AllIn []
  entry : {e : Entry Command} {es : List (Entry Command)} → ((ws : List (List ℕ)) → in_range (e.1 ws) ≡ true) → AllIn es → AllIn (e ∷ es)

table-in : AllIn table
table-in = entry node_in_lem (entry slot-in (entry start-in (entry halves_in_lem (entry record-in (entry telegram-in (entry burst-in (entry levels-in (entry tick-in (entry framed-in none)))))))))

named-in : (es : List (Entry Command)) → AllIn es → (w : List ℕ) (ws : List (List ℕ)) → in_range (named_in (Wrong NoSuchWord) es w ws) ≡ true
unfolding named_in in_range
named-in [] none w ws = refl
named-in (e ∷ es) (entry p r) w ws = either (same_text w e.0) (e.1 ws) (named_in (Wrong NoSuchWord) es w ws) (p ws) (named-in es r w ws)

meaning-in : (ws : List (List ℕ)) → in_range (meaning_of ws) ≡ true
unfolding meaning_of in_range
meaning-in [] = refl
meaning-in (w ∷ ws) = named-in table table-in w ws

-- EVERY COMMAND OF A LINE
pub command-in : (line : List ℕ) → in_range (command_of line) ≡ true
unfolding command_of in_range
command-in line =
    let t = trimmed_of line in
    either (ltb (limit_of (words_of t)) (length t)) (Wrong TooLong) (cond (eqb (get_or t 0 0) hash) Blank (meaning_of (words_of t))) refl
    (either (eqb (get_or t 0 0) hash) Blank (meaning_of (words_of t)) refl (meaning-in (words_of t)))

pub node-limit : (line : List ℕ) (n : ℕ) → command_of line ≡ Node n → n ≤ 65535
unfolding in_range
node-limit line n e = leb-true n 65535 (sym (ap in_range e) ∙ command-in line)

pub slot-limit : (line : List ℕ) (n : ℕ) (z : ℤ) → command_of line ≡ Slot n z → n < 104
unfolding in_range
slot-limit line n z e = ltb-true n 104 (sym (ap in_range e) ∙ command-in line)
