-- What is written in words where a line is no command: one line for each reason. Paper 02, K12, poller. Bytes of a text stand below it.
-- Main property: every message begins with `? `, ends in a newline, its only one, and has at most 128 bytes (MessageLaws).
use Rattle.std.specs.Prelude.{List, [], ◌∷◌, ℕ, get_or}

-- ? line has more than 1024 bytes
abbrev pub too_long_text : List ℕ
too_long_text =
    63 ∷ 32 ∷ 108 ∷ 105 ∷ 110 ∷ 101 ∷ 32 ∷ 104 ∷ 97 ∷ 115 ∷ 32 ∷ 109 ∷ 111 ∷ 114 ∷ 101 ∷ 32 ∷ 116 ∷ 104 ∷ 97 ∷ 110
    ∷ 32 ∷ 49 ∷ 48 ∷ 50 ∷ 52 ∷ 32 ∷ 98 ∷ 121 ∷ 116 ∷ 101 ∷ 115 ∷ 10 ∷ []

-- ? no such word; the words are join, report and pick
abbrev pub no_such_word_text : List ℕ
no_such_word_text =
    63 ∷ 32 ∷ 110 ∷ 111 ∷ 32 ∷ 115 ∷ 117 ∷ 99 ∷ 104 ∷ 32 ∷ 119 ∷ 111 ∷ 114 ∷ 100 ∷ 59 ∷ 32 ∷ 116 ∷ 104 ∷ 101 ∷ 32
    ∷ 119 ∷ 111 ∷ 114 ∷ 100 ∷ 115 ∷ 32 ∷ 97 ∷ 114 ∷ 101 ∷ 32 ∷ 106 ∷ 111 ∷ 105 ∷ 110 ∷ 44 ∷ 32 ∷ 114 ∷ 101 ∷ 112 ∷ 111
    ∷ 114 ∷ 116 ∷ 32 ∷ 97 ∷ 110 ∷ 100 ∷ 32 ∷ 112 ∷ 105 ∷ 99 ∷ 107 ∷ 10 ∷ []

-- ? join takes a number from 0 to 65535
abbrev pub bad_join_text : List ℕ
bad_join_text =
    63 ∷ 32 ∷ 106 ∷ 111 ∷ 105 ∷ 110 ∷ 32 ∷ 116 ∷ 97 ∷ 107 ∷ 101 ∷ 115 ∷ 32 ∷ 97 ∷ 32 ∷ 110 ∷ 117 ∷ 109 ∷ 98 ∷ 101
    ∷ 114 ∷ 32 ∷ 102 ∷ 114 ∷ 111 ∷ 109 ∷ 32 ∷ 48 ∷ 32 ∷ 116 ∷ 111 ∷ 32 ∷ 54 ∷ 53 ∷ 53 ∷ 51 ∷ 53 ∷ 10 ∷ []

-- ? report takes a number from 0 to 65535 and 0 or 1
abbrev pub bad_report_text : List ℕ
bad_report_text =
    63 ∷ 32 ∷ 114 ∷ 101 ∷ 112 ∷ 111 ∷ 114 ∷ 116 ∷ 32 ∷ 116 ∷ 97 ∷ 107 ∷ 101 ∷ 115 ∷ 32 ∷ 97 ∷ 32 ∷ 110 ∷ 117 ∷ 109
    ∷ 98 ∷ 101 ∷ 114 ∷ 32 ∷ 102 ∷ 114 ∷ 111 ∷ 109 ∷ 32 ∷ 48 ∷ 32 ∷ 116 ∷ 111 ∷ 32 ∷ 54 ∷ 53 ∷ 53 ∷ 51 ∷ 53 ∷ 32
    ∷ 97 ∷ 110 ∷ 100 ∷ 32 ∷ 48 ∷ 32 ∷ 111 ∷ 114 ∷ 32 ∷ 49 ∷ 10 ∷ []

-- ? pick takes nothing
abbrev pub bad_pick_text : List ℕ
bad_pick_text =
    63 ∷ 32 ∷ 112 ∷ 105 ∷ 99 ∷ 107 ∷ 32 ∷ 116 ∷ 97 ∷ 107 ∷ 101 ∷ 115 ∷ 32 ∷ 110 ∷ 111 ∷ 116 ∷ 104 ∷ 105 ∷ 110 ∷ 103
    ∷ 10 ∷ []

-- the messages of the reasons 0 to 3, in their order
abbrev pub messages : List (List ℕ)
messages = too_long_text ∷ no_such_word_text ∷ bad_join_text ∷ bad_report_text ∷ []

-- THE MESSAGE OF A REASON: 4 and any other number say that `pick` takes nothing
unfoldable pub message_of : ℕ → List ℕ
message_of reason = get_or messages reason bad_pick_text
