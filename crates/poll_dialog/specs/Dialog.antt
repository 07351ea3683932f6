-- THE MEANING OF A LINE of poller: the dispatcher after it (`after_line`), and the line that is written for it (`line_text`), or none. Paper 02, K12, poller.
-- A word more is one line in each of `after_asked` and `asked_text`.
-- Main properties (DialogLaws): no line that is written is longer than 128 bytes; a line that is no command changes nothing.
use Rattle.std.specs.Prelude.{Bool, List, [], ◌∷◌, ◌++◌, ℕ, Option, None, Some}
use Rattle.dispatcher.specs.declared.Dispatcher.{Dispatcher}
use Rattle.dispatcher.specs.Dispatch.{number_of, register_of, report_of, pick_of}
use Rattle.text.specs.Marks.{newline, number}
use Rattle.text.specs.Plain.{spoken}
use Rattle.poll_dialog.specs.declared.asked.Asked.{Asked}
use Rattle.poll_dialog.specs.declared.asked.Asked.TheVariants.{Blank, Wrong, Join, Report, Pick}
use Rattle.poll_dialog.specs.Asked.{join_word, report_word, pick_word, reason_number, asked_of}
use Rattle.poll_dialog.specs.Messages.{message_of}

-- the most bytes of a line that is written
abbrev pub longest_line : ℕ
longest_line = 128

-- ---- the lines that answer
-- a line: its words parted by one space, and a newline
abbrev pub line_with : List (List ℕ) → List ℕ
line_with ws = spoken ws ++ (newline ∷ [])

-- "`join NUMBER`", the refusal's number or 0
unfoldable pub join_text : Dispatcher → ℕ → List ℕ
join_text d a = line_with (join_word ∷ number (number_of (register_of d a).1) ∷ [])

-- "`report NUMBER`"
unfoldable pub report_text : Dispatcher → ℕ → Bool → List ℕ
report_text d a e = line_with (report_word ∷ number (number_of (report_of d a e).1) ∷ [])

-- the word `none`
abbrev pub none_word : List ℕ
none_word = 110 ∷ 111 ∷ 110 ∷ 101 ∷ []

-- "`pick A` or `pick none`"
unfoldable pub choice_line : Option ℕ → List ℕ
choice_line (Some a) = line_with (pick_word ∷ number a ∷ [])
choice_line None = line_with (pick_word ∷ none_word ∷ [])

-- ---- a line
unfoldable pub after_asked : Dispatcher → Asked → Dispatcher
after_asked d Blank = d
after_asked d (Wrong reason) = d
after_asked d (Join a) = (register_of d a).0
after_asked d (Report a e) = (report_of d a e).0
after_asked d Pick = (pick_of d).0

unfoldable pub asked_text : Dispatcher → Asked → List ℕ
asked_text d Blank = []
asked_text d (Wrong reason) = message_of (reason_number reason)
asked_text d (Join a) = join_text d a
asked_text d (Report a e) = report_text d a e
asked_text d Pick = choice_line (pick_of d).1

unfoldable pub after_line : Dispatcher → List ℕ → Dispatcher
after_line d line = after_asked d (asked_of line)

unfoldable pub line_text : Dispatcher → List ℕ → List ℕ
line_text d line = asked_text d (asked_of line)
