-- What a line of poller asks for: `asked_of`. Paper 02, K12, poller. `script` has the words of a console; a line is read here as it is there.
-- Main properties (AskedLaws): a command written in its plain form is read back; a line asks for the same when it is cut.
-- A WORD IS ADDED by its reason (in `src/asked.rt`) and its message, its `..In` below, its bytes, and its line of `table`.
use Rattle.std.specs.Prelude.{cond, List, [], ◌∷◌, ℕ, eqb, ltb, length, get_or, Option, Some, None}
use Rattle.text.specs.Words.{trimmed_of, words_of, only_of, first_of, others_of}
use Rattle.script.specs.Table.{Entry, named_in}
use Rattle.script.specs.Commands.{natural_of, longest, hash}
use Rattle.poll_dialog.specs.declared.asked.Reason.{Reason}
use Rattle.poll_dialog.specs.declared.asked.Reason.TheVariants.{TooLong, NoSuchWord, BadJoin, BadReport, BadPick}
use Rattle.poll_dialog.specs.declared.asked.Asked.{Asked}
use Rattle.poll_dialog.specs.declared.asked.Asked.TheVariants.{Blank, Wrong, Join, Report, Pick}

-- ---- why a line is no command: the number of each reason
abbrev pub reason_number : Reason → ℕ
reason_number TooLong = 0
reason_number NoSuchWord = 1
reason_number BadJoin = 2
reason_number BadReport = 3
reason_number BadPick = 4

-- ---- what stands behind the first word
-- an address, registered or not: 0 to 65535
abbrev pub last_address : ℕ
last_address = 65535

-- `join A`
abbrev pub join_by : Option ℕ → Asked
join_by (Some a) = Join a
join_by None = Wrong BadJoin

unfoldable pub join_in : List (List ℕ) → Asked
join_in ws = join_by (natural_of last_address (only_of ws))

-- `report A E`: E is 0 or 1, 1 for an error
abbrev pub report_by : Option ℕ → Option ℕ → Asked
report_by (Some a) (Some e) = Report a (eqb e 1)
report_by (Some a) None = Wrong BadReport
report_by None e = Wrong BadReport

unfoldable pub report_in : List (List ℕ) → Asked
report_in ws = report_by (natural_of last_address (first_of ws)) (natural_of 1 (only_of (others_of ws)))

-- `pick`
unfoldable pub pick_in : List (List ℕ) → Asked
pick_in [] = Pick
pick_in (w ∷ ws) = Wrong BadPick

-- ---- a line
-- the words that lines begin with: join, report, pick
abbrev pub join_word : List ℕ
join_word = 106 ∷ 111 ∷ 105 ∷ 110 ∷ []

abbrev pub report_word : List ℕ
report_word = 114 ∷ 101 ∷ 112 ∷ 111 ∷ 114 ∷ 116 ∷ []

abbrev pub pick_word : List ℕ
pick_word = 112 ∷ 105 ∷ 99 ∷ 107 ∷ []

-- THE TABLE OF WORDS: the first word says how the others are read
abbrev pub table : List (Entry Asked)
table = (join_word, join_in) ∷ (report_word, report_in) ∷ (pick_word, pick_in) ∷ []

abbrev pub named_of : List ℕ → List (List ℕ) → Asked
named_of w ws = named_in (Wrong NoSuchWord) table w ws

unfoldable pub meaning_of : List (List ℕ) → Asked
meaning_of [] = Blank
meaning_of (w ∷ ws) = named_of w ws

-- what a line asks for that has no carriage return at its end: `longest` is 1,024 bytes, of a remark too
abbrev pub meant_of : List ℕ → Asked
meant_of line = cond (ltb longest (length line)) (Wrong TooLong) (cond (eqb (get_or line 0 0) hash) Blank (meaning_of (words_of line)))

-- WHAT A LINE ASKS FOR: the line comes without its newline
unfoldable pub asked_of : List ℕ → Asked
asked_of line = meant_of (trimmed_of line)
