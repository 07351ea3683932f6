-- What holds of every line: what is printed fits into the room for it, and the run that is kept stays valid. And what the code makes of an event.
use Rattle.std.specs.Prelude.{◌≡◌, refl, Bool, true, false, cond, Option, Some, None, List, [], map, ℕ, ◌+◌, ◌*◌, ◌≤◌, eqb, ltb, ℤ, pos, length, take, Result, Ok, Err, is_none}
use Rattle.std.proofs.Common.{arith, ltb-false, length-append}
use mir.Val.{bool_byte}
use Rattle.text.specs.HexList.{hexes_of}
use Rattle.state.specs.declared.Extremes.{Extremes as LeastAndGreatest}
use Rattle.state.specs.declared.Outcome.{Outcome}
use Rattle.state.proofs.ValidLaws.{good-fresh}
use Rattle.state.specs.State.{state_of}
use Rattle.decimal.specs.DecimalLaws.{text-at-most-19}
use Rattle.events.specs.declared.Event.{Event}
use Rattle.events.specs.declared.Event.TheVariants as Event
use Rattle.events.specs.Bytes.{words_in}
use Rattle.integers.specs.ChoiceLaws.{by-test}
use Rattle.integers.specs.TwosComplement.{bits_of}
use Rattle.lines.specs.Lines.{event_line, next_count}
use Rattle.lines.specs.LineLaws.{header-line-at-most, load-line-at-most, end-line-at-most}
use Rattle.logrun.specs.declared.Progress.{Progress}
use Rattle.logrun.specs.Input.{table_of}
use Rattle.logrun.specs.Output.{opening_text}
use Rattle.logrun.proofs.PieceLaws.{lines-at-most}
use Rattle.logrun.specs.Pieces.{goes_on, last_line, piece_text}
use Rattle.logrun.specs.Progress.{Ready, after_taken, text_taken}
use Rattle.logrun.specs.ProgressLaws.{taken-ready, taken-at-most, words-ready}
use Rattle.panel.specs.declared.Answer.{Answer}
use Rattle.parameters.specs.Refusals.{number_told, slot_told}
use Rattle.panel.specs.declared.Loaded.{Loaded}
use Rattle.panel.specs.Load.{loaded_of}
use Rattle.panel.specs.Telegrams.{diagnosed_of, built_by}
use Rattle.panel.specs.Step.{answer_of, answer_by, step_of}
use Rattle.parameters.proofs.ValidLaws.{load-valid}
use Rattle.script.specs.declared.Command.{Command}
use Rattle.script.specs.declared.Command.TheVariants.{Blank, Wrong, Node, Slot, Start, Halves, Record, Telegram, Burst, Levels, Tick, Frame}
use Rattle.script.specs.Commands.{longest, command_of, frame_of}
use Rattle.script.proofs.FrameLaws.{frame-fits}
use Rattle.settings.specs.Settings.{layout_of}
use Rattle.ssi.specs.Telegram.{number_told as told, content_of}
use Rattle.text.specs.Put.{Put}
use Rattle.text.specs.PutLaws.{put-within}
use Rattle.text.specs.Words.{words_of, first_of}
use Rattle.sheet.specs.declared.orders.Question.{Question}
use Rattle.sheet.specs.declared.orders.Question.TheVariants.{Build, Fault, Read, Diagnose}
use Rattle.sheet.specs.declared.orders.Word.{Word}
use Rattle.sheet.specs.declared.orders.Word.TheVariants.{Plain, Heading, Log, End, Cut, Extremes, Asked}
use Rattle.sheet.specs.declared.Sheet.{Sheet}
use Rattle.sheet.specs.LogWordLaws.{log-fits}
use Rattle.events.specs.Bytes.{bytes_of}
use Rattle.sheet.specs.LogWords.{is_log}
use Rattle.sheet.specs.Orders.{word_named}
use Rattle.sheet.specs.Sheet.{with_run, wrong_line, loaded_by, after_start, start_text, after_piece, piece_of, words_behind, after_log, log_text, full_end, numbers_text, build_text, read_text, diagnose_text, question_text, number_behind, answer_text, asked_text, given_by, after_cut, told_by, cut_text, extremes_text, after_event, event_text, after_plain, plain_text, after_word, word_text, after_line, line_text, room}

-- ---- THE RUN THAT IS KEPT STAYS VALID

ready-piece : (full : ℕ) (s : Sheet) (bytes : List ℕ) → Ready s.progress → Ready (after_piece full s bytes).progress
unfolding after_piece
ready-piece full s bytes r = by-test s.running _ _ (λ (x : Sheet). Ready x.progress) (λ _. words-ready r (words_in bytes)) (λ _. r)

ready-log : (s : Sheet) (line : List ℕ) → Ready s.progress → Ready (after_log s line).progress
unfolding after_log
ready-log s line r = by-test (is_log (words_behind line)) _ _ (λ (x : Sheet). Ready x.progress) (λ _. ready-piece 0 s (bytes_of (hexes_of (words_behind line))) r) (λ _. r)

ready-start : (s : Sheet) → Ready (after_start s).progress
unfolding after_start loaded_of
ready-start s = record { state = good-fresh (load-valid (table_of (take s.given (bytes_of (map bits_of s.table))))); count = omega arith }

ready-cut : (s : Sheet) (n : Option ℕ) → Ready s.progress → Ready (given_by s n).progress
ready-cut s (Some n) r = r
ready-cut s None r = r

ready-plain : (s : Sheet) (c : Command) → Ready s.progress → Ready (after_plain s c).progress
unfolding after_plain
ready-plain s Blank r = r
ready-plain s (Wrong reason) r = r
ready-plain s (Node a) r = r
ready-plain s (Slot n z) r = r
ready-plain s Start r = ready-start s
ready-plain s Halves r = r
ready-plain s Record r = r
ready-plain s (Telegram w) r = taken-ready r s.progress.pending (Ok (Some (Event.Telegram w)))
ready-plain s Burst r = r
ready-plain s (Levels l) r = taken-ready r s.progress.pending (Ok (Some (Event.Levels l)))
ready-plain s (Tick ms) r = taken-ready r s.progress.pending (Ok (Some (Event.Tick ms)))
ready-plain s Frame r = r

ready-word : (s : Sheet) (line : List ℕ) (w : Word) → Ready s.progress → Ready (after_word s line w).progress
unfolding after_word after_cut
ready-word s line Plain r = ready-plain s (command_of line) r
ready-word s line Heading r = r
ready-word s line Log r = ready-log s line r
ready-word s line End r = ready-piece full_end s (frame_of line) r
ready-word s line Cut r = ready-cut s (number_behind line) r
ready-word s line Extremes r = r
ready-word s line (Asked q) r = r

pub ready-line : (s : Sheet) (line : List ℕ) → Ready s.progress → Ready (after_line s line).progress
unfolding after_line
ready-line s line r = by-test (ltb longest (length line)) _ _ (λ (x : Sheet). Ready x.progress) (λ _. r) (λ _. ready-word s line (word_named (first_of (words_of line))) r)

-- ---- WHAT IS PRINTED FITS

piece-text-most : (full : ℕ) (p : Progress) (a : List ℕ) → length (piece_text full p a) ≤ 32 * length a + 128
unfolding piece_text
piece-text-most full p a = rw length-append (omega (arith, lines-at-most p a, last))
  where
    last : length (cond (goes_on full p a) [] (last_line p a)) ≤ 128
    last = by-test (goes_on full p a) _ _ (λ (l : List ℕ). length l ≤ 128) (λ _. omega arith) (λ _. end-line-at-most _)

piece-most : (full : ℕ) (s : Sheet) (bytes : List ℕ) → length bytes ≤ 400 → length (piece_of full s bytes) ≤ room
unfolding piece_of
piece-most full s bytes h = by-test s.running _ _ (λ (l : List ℕ). length l ≤ room) (λ _. omega (arith, piece-text-most full s.progress bytes)) (λ _. omega arith)

log-most : (s : Sheet) (line : List ℕ) → length (log_text s line) ≤ room
unfolding log_text
log-most s line = by (is_log (words_behind line)) refl
  where
    by : (t : Bool) → is_log (words_behind line) ≡ t → length (cond t (piece_of 0 s (bytes_of (hexes_of (words_behind line)))) wrong_line) ≤ room
    by true e = piece-most 0 s (bytes_of (hexes_of (words_behind line))) (log-fits (words_behind line) e)
    by false e = omega arith

opening-most : (l : Loaded) → length (opening_text l) ≤ room
unfolding opening_text
opening-most l = by-test (is_none l.refusal) _ _ (λ (x : List ℕ). length x ≤ room) (λ _. omega (arith, header-line-at-most)) (λ _. omega (arith, load-line-at-most (number_told l.refusal) (slot_told l.refusal)))

numbers-most : (a b c : ℕ) → length (numbers_text a b c) ≤ 60
numbers-most a b c = simp length-append (omega (arith, text-at-most-19 (pos a), text-at-most-19 (pos b), text-at-most-19 (pos c)))

question-most : (t : List ℤ) (q : Question) (n : ℕ) → length (question_text t q n) ≤ room
unfolding question_text build_text read_text diagnose_text
question-most t Build n = rw length-append (omega (arith, numbers-most n (told (built_by t n false).refusal) (built_by t n false).telegram))
question-most t Fault n = rw length-append (omega (arith, numbers-most n (told (built_by t n true).refusal) (built_by t n true).telegram))
question-most t Read n = let r = content_of (layout_of t) n in rw length-append (omega (arith, numbers-most (told r.refusal) r.position (bool_byte r.error)))
question-most t Diagnose n = let d = diagnosed_of t n in rw length-append (omega (arith, numbers-most (told d.refusal) d.turns d.place))

answer-most : (s : Sheet) (q : Question) (n : Option ℕ) → length (answer_text s q n) ≤ room
answer-most s q (Some n) = question-most s.progress.state.table q n
answer-most s q None = omega arith

told-most : (n : Option ℕ) → length (told_by n) ≤ room
told-most (Some n) = omega arith
told-most None = omega arith

extremes-most : (x : LeastAndGreatest) → length (extremes_text x) ≤ room
unfolding extremes_text
extremes-most x = simp length-append (omega (arith, text-at-most-19 (pos (bool_byte x.any)), text-at-most-19 x.least, text-at-most-19 x.greatest))

plain-most : (s : Sheet) (c : Command) → length (plain_text s c) ≤ room
unfolding plain_text start_text
plain-most s Blank = omega arith
plain-most s (Wrong reason) = omega arith
plain-most s (Node a) = omega arith
plain-most s (Slot n z) = omega arith
plain-most s Start = opening-most (loaded_by s)
plain-most s Halves = omega arith
plain-most s Record = omega arith
plain-most s (Telegram w) = omega (arith, taken-at-most s.progress (Ok (Some (Event.Telegram w))))
plain-most s Burst = omega arith
plain-most s (Levels l) = omega (arith, taken-at-most s.progress (Ok (Some (Event.Levels l))))
plain-most s (Tick ms) = omega (arith, taken-at-most s.progress (Ok (Some (Event.Tick ms))))
plain-most s Frame = omega arith

word-most : (s : Sheet) (line : List ℕ) (w : Word) → length line ≤ longest → length (word_text s line w) ≤ room
unfolding word_text asked_text cut_text
word-most s line Plain h = plain-most s (command_of line)
word-most s line Heading h = rw length-append (omega arith)
word-most s line Log h = log-most s line
word-most s line End h = piece-most full_end s (frame_of line) (omega (arith, frame-fits line))
word-most s line Cut h = told-most (number_behind line)
word-most s line Extremes h = extremes-most s.progress.state.live.extremes
word-most s line (Asked q) h = answer-most s q (number_behind line)

pub line-at-most : (s : Sheet) (line : List ℕ) → length (line_text s line) ≤ room
unfolding line_text
line-at-most s line = by (ltb longest (length line)) refl
  where
    by : (t : Bool) → ltb longest (length line) ≡ t → length (cond t wrong_line (word_text s line (word_named (first_of (words_of line))))) ≤ room
    by true e = omega arith
    by false e = word-most s line (word_named (first_of (words_of line))) (ltb-false longest (length line) e)

pub line-within : (s : Sheet) (line : List ℕ) {buffer after text : List ℕ} {end : ℕ} → text ≡ line_text s line → Put buffer 0 text end after → room ≤ length buffer → end ≤ length after
line-within s line e p h = put-within p room (rw e (line-at-most s line)) h

-- ---- what the code makes of an event
module _ (s : Sheet) (e : Event) where
  pub event-done : (t : List ℤ) (o : Outcome) → answer_by t o ≡ step_of s.progress.state e
      → with_run s (record { state = state_of t o.live; pending = s.progress.pending; count = next_count s.progress.count; refusal = None }) s.running ≡ after_event s e
  unfolding after_taken answer_of
  event-done t o k = rw (← k)

  pub event-told : (a : Answer) → a ≡ step_of s.progress.state e → event_line (next_count s.progress.count) e a ≡ event_text s e
  unfolding text_taken
  event-told a k = rw k
