-- THE MEANING OF A LINE of the gate's runs: what is kept after it (`after_line`), and what is printed for it (`line_text`).
-- A run is a table, given by what differs from the defaults, and a log, given piece by piece; it prints what panelrun prints. The other lines ask what panelrun does not print.
-- Main property (SheetLaws): what is printed fits into `room` bytes. Assumes nothing.
use Rattle.std.specs.Prelude.{Bool, true, false, cond, Option, Some, None, List, [], ◌∷◌, ◌++◌, map, ℕ, ◌+◌, ◌*◌, ◌^◌, ◌-◌, eqb, ltb, ℤ, length, take, Result, Ok, Err, is_none}
use mir.Val.{bool_byte}
use Rattle.text.specs.HexList.{hexes_of}
use Rattle.state.specs.declared.Extremes.{Extremes as LeastAndGreatest}
use Rattle.state.specs.State.{fresh_of}
use Rattle.decimal.specs.Decimal.{text_of}
use Rattle.events.specs.declared.Event.{Event}
use Rattle.events.specs.declared.Event.TheVariants as Event
use Rattle.events.specs.Bytes.{words_in}
use Rattle.integers.specs.TwosComplement.{bits_of}
use Rattle.lines.specs.Lines.{line_with}
use Rattle.logrun.specs.declared.Progress.{Progress}
use Rattle.logrun.specs.Input.{table_bytes, table_of}
use Rattle.logrun.specs.Output.{opening_text}
use Rattle.logrun.specs.Pieces.{goes_on, piece_text}
use Rattle.logrun.specs.Progress.{start_of, after_taken, text_taken, words_fed}
use Rattle.panel.specs.declared.Loaded.{Loaded}
use Rattle.panel.specs.Load.{loaded_of}
use Rattle.panel.specs.Telegrams.{diagnosed_of, built_by}
use Rattle.parameters.specs.Rows.{default_table}
use Rattle.parameters.specs.Slots.{with_word}
use Rattle.script.specs.declared.Command.{Command}
use Rattle.script.specs.declared.Command.TheVariants.{Blank, Wrong, Node, Slot, Start, Halves, Record, Telegram, Burst, Levels, Tick, Frame}
use Rattle.script.specs.Commands.{longest, command_of, frame_of, natural_of}
use Rattle.settings.specs.Settings.{layout_of}
use Rattle.ssi.specs.declared.Built.{Built}
use Rattle.ssi.specs.declared.Diagnosis.{Diagnosis}
use Rattle.ssi.specs.declared.Content.{Content}
use Rattle.ssi.specs.Telegram.{number_told, content_of}
use Rattle.text.specs.Marks.{space, newline, number}
use Rattle.text.specs.Words.{words_of, first_of, others_of, only_of}
use Rattle.sheet.specs.declared.orders.Question.{Question}
use Rattle.sheet.specs.declared.orders.Question.TheVariants.{Build, Fault, Read, Diagnose}
use Rattle.sheet.specs.declared.orders.Word.{Word}
use Rattle.sheet.specs.declared.orders.Word.TheVariants.{Plain, Heading, Log, End, Cut, Extremes, Asked}
use Rattle.sheet.specs.declared.Sheet.{Sheet}
use Rattle.events.specs.Bytes.{bytes_of}
use Rattle.sheet.specs.LogWords.{is_log}
use Rattle.sheet.specs.Orders.{build_word, read_word, diagnose_word, extremes_word, word_named}

-- ---- what is kept

-- the defaults, the whole of them for the next start, and no run
unfoldable pub fresh_sheet : Sheet
fresh_sheet = record { table = default_table; given = table_bytes; progress = start_of (fresh_of default_table); running = false }

abbrev pub with_table : Sheet → List ℤ → Sheet
with_table s t = record { table = t; given = s.given; progress = s.progress; running = s.running }

abbrev pub with_given : Sheet → ℕ → Sheet
with_given s n = record { table = s.table; given = n; progress = s.progress; running = s.running }

abbrev pub with_run : Sheet → Progress → Bool → Sheet
with_run s p on = record { table = s.table; given = s.given; progress = p; running = on }

-- ---- a line that is none: `? no such line`
abbrev pub wrong_line : List ℕ
wrong_line = 63 ∷ 32 ∷ 110 ∷ 111 ∷ 32 ∷ 115 ∷ 117 ∷ 99 ∷ 104 ∷ 32 ∷ 108 ∷ 105 ∷ 110 ∷ 101 ∷ newline ∷ []

-- ---- `== NAME`: the table is the defaults again, and the line is printed

abbrev pub headed : Sheet → Sheet
headed s = record { table = default_table; given = table_bytes; progress = s.progress; running = false }

abbrev pub heading_text : List ℕ → List ℕ
heading_text line = line ++ (newline ∷ [])

-- ---- `start`: the table's bytes, or as many of them as are given, are loaded, and what panelrun prints for them is printed

abbrev pub loaded_by : Sheet → Loaded
loaded_by s = loaded_of (table_of (take s.given (bytes_of (map bits_of s.table))))

unfoldable pub after_start : Sheet → Sheet
after_start s = with_run s (start_of (loaded_by s).state) (is_none (loaded_by s).refusal)

unfoldable pub start_text : Sheet → List ℕ
start_text s = opening_text (loaded_by s)

-- ---- a piece of the log: "A refused table prints only `load`, number, slot", and a run that has ended prints no more

unfoldable pub after_piece : ℕ → Sheet → List ℕ → Sheet
after_piece full s bytes = cond s.running (with_run s (words_fed s.progress (words_in bytes)) (goes_on full s.progress bytes)) s

unfoldable pub piece_of : ℕ → Sheet → List ℕ → List ℕ
piece_of full s bytes = cond s.running (piece_text full s.progress bytes) []

-- `log WORD WORD ..`: a full piece
abbrev pub words_behind : List ℕ → List (List ℕ)
words_behind line = others_of (words_of line)

unfoldable pub after_log : Sheet → List ℕ → Sheet
after_log s line = cond (is_log (words_behind line)) (after_piece 0 s (bytes_of (hexes_of (words_behind line)))) s

unfoldable pub log_text : Sheet → List ℕ → List ℕ
log_text s line = cond (is_log (words_behind line)) (piece_of 0 s (bytes_of (hexes_of (words_behind line)))) wrong_line

-- `end HH HH ..`: the last piece, which is not full: at most 300 bytes
abbrev pub full_end : ℕ
full_end = 301

abbrev pub after_end : Sheet → List ℕ → Sheet
after_end s line = after_piece full_end s (frame_of line)

abbrev pub end_text : Sheet → List ℕ → List ℕ
end_text s line = piece_of full_end s (frame_of line)

-- ---- questions under a table: a word and three numbers

abbrev pub numbers_text : ℕ → ℕ → ℕ → List ℕ
numbers_text a b c = line_with (number a ∷ number b ∷ number c ∷ [])

-- position, refusal, telegram
abbrev pub built_text : ℕ → Built → List ℕ
built_text p b = (build_word ++ (space ∷ [])) ++ numbers_text p (number_told b.refusal) b.telegram

unfoldable pub build_text : List ℤ → ℕ → Bool → List ℕ
build_text t p error = built_text p (built_by t p error)

-- refusal, position, error
abbrev pub content_text : Content → List ℕ
content_text r = (read_word ++ (space ∷ [])) ++ numbers_text (number_told r.refusal) r.position (bool_byte r.error)

unfoldable pub read_text : List ℤ → ℕ → List ℕ
read_text t w = content_text (content_of (layout_of t) w)

-- refusal, turns, place
abbrev pub diagnosis_text : Diagnosis → List ℕ
diagnosis_text d = (diagnose_word ++ (space ∷ [])) ++ numbers_text (number_told d.refusal) d.turns d.place

unfoldable pub diagnose_text : List ℤ → ℕ → List ℕ
diagnose_text t w = diagnosis_text (diagnosed_of t w)

unfoldable pub question_text : List ℤ → Question → ℕ → List ℕ
question_text t Build n = build_text t n false
question_text t Fault n = build_text t n true
question_text t Read n = read_text t n
question_text t Diagnose n = diagnose_text t n

-- `build P`, `fault P`, `read T`, `diagnose T`, of the table in force
abbrev pub number_behind : List ℕ → Option ℕ
number_behind line = natural_of (2 ^ 32 - 1) (only_of (words_behind line))

abbrev pub answer_text : Sheet → Question → Option ℕ → List ℕ
answer_text s q (Some n) = question_text s.progress.state.table q n
answer_text s q None = wrong_line

unfoldable pub asked_text : Sheet → Question → List ℕ → List ℕ
asked_text s q line = answer_text s q (number_behind line)

-- ---- `cut N`

abbrev pub given_by : Sheet → Option ℕ → Sheet
given_by s (Some n) = with_given s n
given_by s None = s

unfoldable pub after_cut : Sheet → List ℕ → Sheet
after_cut s line = given_by s (number_behind line)

abbrev pub told_by : Option ℕ → List ℕ
told_by (Some n) = []
told_by None = wrong_line

unfoldable pub cut_text : List ℕ → List ℕ
cut_text line = told_by (number_behind line)

-- ---- `extremes`: whether there are a least and a greatest result, and they

abbrev pub results_text : ℕ → ℤ → ℤ → List ℕ
results_text any least greatest = line_with (number any ∷ text_of least ∷ text_of greatest ∷ [])

unfoldable pub extremes_text : LeastAndGreatest → List ℕ
extremes_text x = (extremes_word ++ (space ∷ [])) ++ results_text (bool_byte x.any) x.least x.greatest

-- ---- the lines of `script`: `slot N V`, `start`, and events that the panel is stepped with directly

abbrev pub after_event : Sheet → Event → Sheet
after_event s e = with_run s (after_taken s.progress s.progress.pending (Ok (Some e))) s.running

abbrev pub event_text : Sheet → Event → List ℕ
event_text s e = text_taken s.progress (Ok (Some e))

unfoldable pub after_plain : Sheet → Command → Sheet
after_plain s Blank = s
after_plain s (Wrong reason) = s
after_plain s (Node a) = s
after_plain s (Slot n z) = with_table s (with_word s.table n z)
after_plain s Start = after_start s
after_plain s Halves = s
after_plain s Record = s
after_plain s (Telegram w) = after_event s (Event.Telegram w)
after_plain s Burst = s
after_plain s (Levels l) = after_event s (Event.Levels l)
after_plain s (Tick ms) = after_event s (Event.Tick ms)
after_plain s Frame = s

unfoldable pub plain_text : Sheet → Command → List ℕ
plain_text s Blank = []
plain_text s (Wrong reason) = wrong_line
plain_text s (Node a) = wrong_line
plain_text s (Slot n z) = []
plain_text s Start = start_text s
plain_text s Halves = wrong_line
plain_text s Record = wrong_line
plain_text s (Telegram w) = event_text s (Event.Telegram w)
plain_text s Burst = wrong_line
plain_text s (Levels l) = event_text s (Event.Levels l)
plain_text s (Tick ms) = event_text s (Event.Tick ms)
plain_text s Frame = wrong_line

-- ---- a line

unfoldable pub after_word : Sheet → List ℕ → Word → Sheet
after_word s line Plain = after_plain s (command_of line)
after_word s line Heading = headed s
after_word s line Log = after_log s line
after_word s line End = after_end s line
after_word s line Cut = after_cut s line
after_word s line Extremes = s
after_word s line (Asked q) = s

unfoldable pub word_text : Sheet → List ℕ → Word → List ℕ
word_text s line Plain = plain_text s (command_of line)
word_text s line Heading = heading_text line
word_text s line Log = log_text s line
word_text s line End = end_text s line
word_text s line Cut = cut_text line
word_text s line Extremes = extremes_text s.progress.state.live.extremes
word_text s line (Asked q) = asked_text s q line

-- a line that is too long is none
unfoldable pub after_line : Sheet → List ℕ → Sheet
after_line s line = cond (ltb longest (length line)) s (after_word s line (word_named (first_of (words_of line))))

unfoldable pub line_text : Sheet → List ℕ → List ℕ
line_text s line = cond (ltb longest (length line)) wrong_line (word_text s line (word_named (first_of (words_of line))))

-- room for what a line prints: 32 bytes a byte of a piece, and a line of 128
abbrev pub room : ℕ
room = 32 * 400 + 128
