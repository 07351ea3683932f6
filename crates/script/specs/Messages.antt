-- What is written in words where a line is no command or no panel runs yet: one line for each reason. Request K2, "console":
-- "answers one line that begins with `? ` and says in words what is wrong". Bytes of a text stand below it.
-- Main property: every message begins with `? `, ends in a newline, its only one, and has at most 128 bytes (MessageLaws).
use Rattle.std.specs.Prelude.{Bool, ◌&&◌, List, [], ◌∷◌, ℕ, ◌-◌, eqb, leb, length, get_or, take}
use Rattle.decimal.specs.Decimal.{same_text}
use Rattle.text.specs.Marks.{space, newline}
use Rattle.script.specs.Collector.{no_newline}

-- ? line has more than 1024 bytes, or 10240 with b
abbrev pub too_long_text : List ℕ
too_long_text =
    63 ∷ 32 ∷ 108 ∷ 105 ∷ 110 ∷ 101 ∷ 32 ∷ 104 ∷ 97 ∷ 115 ∷ 32 ∷ 109 ∷ 111 ∷ 114 ∷ 101 ∷ 32 ∷ 116 ∷ 104 ∷ 97 ∷ 110
    ∷ 32 ∷ 49 ∷ 48 ∷ 50 ∷ 52 ∷ 32 ∷ 98 ∷ 121 ∷ 116 ∷ 101 ∷ 115 ∷ 44 ∷ 32 ∷ 111 ∷ 114 ∷ 32 ∷ 49 ∷ 48 ∷ 50 ∷ 52
    ∷ 48 ∷ 32 ∷ 119 ∷ 105 ∷ 116 ∷ 104 ∷ 32 ∷ 98 ∷ 10 ∷ []

-- ? no such word; the words are node, slot, start, halves, record, t, b, i, c and f
abbrev pub no_such_word_text : List ℕ
no_such_word_text =
    63 ∷ 32 ∷ 110 ∷ 111 ∷ 32 ∷ 115 ∷ 117 ∷ 99 ∷ 104 ∷ 32 ∷ 119 ∷ 111 ∷ 114 ∷ 100 ∷ 59 ∷ 32 ∷ 116 ∷ 104 ∷ 101 ∷ 32
    ∷ 119 ∷ 111 ∷ 114 ∷ 100 ∷ 115 ∷ 32 ∷ 97 ∷ 114 ∷ 101 ∷ 32 ∷ 110 ∷ 111 ∷ 100 ∷ 101 ∷ 44 ∷ 32 ∷ 115 ∷ 108 ∷ 111 ∷ 116
    ∷ 44 ∷ 32 ∷ 115 ∷ 116 ∷ 97 ∷ 114 ∷ 116 ∷ 44 ∷ 32 ∷ 104 ∷ 97 ∷ 108 ∷ 118 ∷ 101 ∷ 115 ∷ 44 ∷ 32 ∷ 114 ∷ 101 ∷ 99
    ∷ 111 ∷ 114 ∷ 100 ∷ 44 ∷ 32 ∷ 116 ∷ 44 ∷ 32 ∷ 98 ∷ 44 ∷ 32 ∷ 105 ∷ 44 ∷ 32 ∷ 99 ∷ 32 ∷ 97 ∷ 110 ∷ 100 ∷ 32
    ∷ 102 ∷ 10 ∷ []

-- ? node takes a number from 0 to 65535
abbrev pub bad_node_text : List ℕ
bad_node_text =
    63 ∷ 32 ∷ 110 ∷ 111 ∷ 100 ∷ 101 ∷ 32 ∷ 116 ∷ 97 ∷ 107 ∷ 101 ∷ 115 ∷ 32 ∷ 97 ∷ 32 ∷ 110 ∷ 117 ∷ 109 ∷ 98 ∷ 101
    ∷ 114 ∷ 32 ∷ 102 ∷ 114 ∷ 111 ∷ 109 ∷ 32 ∷ 48 ∷ 32 ∷ 116 ∷ 111 ∷ 32 ∷ 54 ∷ 53 ∷ 53 ∷ 51 ∷ 53 ∷ 10 ∷ []

-- ? slot takes a number from 0 to 103 and a signed 32-bit word
abbrev pub bad_slot_text : List ℕ
bad_slot_text =
    63 ∷ 32 ∷ 115 ∷ 108 ∷ 111 ∷ 116 ∷ 32 ∷ 116 ∷ 97 ∷ 107 ∷ 101 ∷ 115 ∷ 32 ∷ 97 ∷ 32 ∷ 110 ∷ 117 ∷ 109 ∷ 98 ∷ 101
    ∷ 114 ∷ 32 ∷ 102 ∷ 114 ∷ 111 ∷ 109 ∷ 32 ∷ 48 ∷ 32 ∷ 116 ∷ 111 ∷ 32 ∷ 49 ∷ 48 ∷ 51 ∷ 32 ∷ 97 ∷ 110 ∷ 100 ∷ 32
    ∷ 97 ∷ 32 ∷ 115 ∷ 105 ∷ 103 ∷ 110 ∷ 101 ∷ 100 ∷ 32 ∷ 51 ∷ 50 ∷ 45 ∷ 98 ∷ 105 ∷ 116 ∷ 32 ∷ 119 ∷ 111 ∷ 114 ∷ 100
    ∷ 10 ∷ []

-- ? start takes nothing
abbrev pub bad_start_text : List ℕ
bad_start_text =
    63 ∷ 32 ∷ 115 ∷ 116 ∷ 97 ∷ 114 ∷ 116 ∷ 32 ∷ 116 ∷ 97 ∷ 107 ∷ 101 ∷ 115 ∷ 32 ∷ 110 ∷ 111 ∷ 116 ∷ 104 ∷ 105 ∷ 110
    ∷ 103 ∷ 10 ∷ []

-- ? t takes 1 to 8 hex digits
abbrev pub bad_telegram_text : List ℕ
bad_telegram_text =
    63 ∷ 32 ∷ 116 ∷ 32 ∷ 116 ∷ 97 ∷ 107 ∷ 101 ∷ 115 ∷ 32 ∷ 49 ∷ 32 ∷ 116 ∷ 111 ∷ 32 ∷ 56 ∷ 32 ∷ 104 ∷ 101 ∷ 120
    ∷ 32 ∷ 100 ∷ 105 ∷ 103 ∷ 105 ∷ 116 ∷ 115 ∷ 10 ∷ []

-- ? i takes a number from 0 to 255
abbrev pub bad_levels_text : List ℕ
bad_levels_text =
    63 ∷ 32 ∷ 105 ∷ 32 ∷ 116 ∷ 97 ∷ 107 ∷ 101 ∷ 115 ∷ 32 ∷ 97 ∷ 32 ∷ 110 ∷ 117 ∷ 109 ∷ 98 ∷ 101 ∷ 114 ∷ 32 ∷ 102
    ∷ 114 ∷ 111 ∷ 109 ∷ 32 ∷ 48 ∷ 32 ∷ 116 ∷ 111 ∷ 32 ∷ 50 ∷ 53 ∷ 53 ∷ 10 ∷ []

-- ? c takes a number from 0 to 65535
abbrev pub bad_tick_text : List ℕ
bad_tick_text =
    63 ∷ 32 ∷ 99 ∷ 32 ∷ 116 ∷ 97 ∷ 107 ∷ 101 ∷ 115 ∷ 32 ∷ 97 ∷ 32 ∷ 110 ∷ 117 ∷ 109 ∷ 98 ∷ 101 ∷ 114 ∷ 32 ∷ 102
    ∷ 114 ∷ 111 ∷ 109 ∷ 32 ∷ 48 ∷ 32 ∷ 116 ∷ 111 ∷ 32 ∷ 54 ∷ 53 ∷ 53 ∷ 51 ∷ 53 ∷ 10 ∷ []

-- ? f takes at most 300 bytes of two hex digits each
abbrev pub bad_frame_text : List ℕ
bad_frame_text =
    63 ∷ 32 ∷ 102 ∷ 32 ∷ 116 ∷ 97 ∷ 107 ∷ 101 ∷ 115 ∷ 32 ∷ 97 ∷ 116 ∷ 32 ∷ 109 ∷ 111 ∷ 115 ∷ 116 ∷ 32 ∷ 51 ∷ 48
    ∷ 48 ∷ 32 ∷ 98 ∷ 121 ∷ 116 ∷ 101 ∷ 115 ∷ 32 ∷ 111 ∷ 102 ∷ 32 ∷ 116 ∷ 119 ∷ 111 ∷ 32 ∷ 104 ∷ 101 ∷ 120 ∷ 32 ∷ 100
    ∷ 105 ∷ 103 ∷ 105 ∷ 116 ∷ 115 ∷ 32 ∷ 101 ∷ 97 ∷ 99 ∷ 104 ∷ 10 ∷ []

-- ? halves takes nothing
abbrev pub bad_halves_text : List ℕ
bad_halves_text =
    63 ∷ 32 ∷ 104 ∷ 97 ∷ 108 ∷ 118 ∷ 101 ∷ 115 ∷ 32 ∷ 116 ∷ 97 ∷ 107 ∷ 101 ∷ 115 ∷ 32 ∷ 110 ∷ 111 ∷ 116 ∷ 104 ∷ 105
    ∷ 110 ∷ 103 ∷ 10 ∷ []

-- ? record takes nothing
abbrev pub bad_record_text : List ℕ
bad_record_text =
    63 ∷ 32 ∷ 114 ∷ 101 ∷ 99 ∷ 111 ∷ 114 ∷ 100 ∷ 32 ∷ 116 ∷ 97 ∷ 107 ∷ 101 ∷ 115 ∷ 32 ∷ 110 ∷ 111 ∷ 116 ∷ 104 ∷ 105
    ∷ 110 ∷ 103 ∷ 10 ∷ []

-- ? b takes at most 1100 telegrams of 1 to 8 hex digits each
abbrev pub bad_burst_text : List ℕ
bad_burst_text =
    63 ∷ 32 ∷ 98 ∷ 32 ∷ 116 ∷ 97 ∷ 107 ∷ 101 ∷ 115 ∷ 32 ∷ 97 ∷ 116 ∷ 32 ∷ 109 ∷ 111 ∷ 115 ∷ 116 ∷ 32 ∷ 49 ∷ 49
    ∷ 48 ∷ 48 ∷ 32 ∷ 116 ∷ 101 ∷ 108 ∷ 101 ∷ 103 ∷ 114 ∷ 97 ∷ 109 ∷ 115 ∷ 32 ∷ 111 ∷ 102 ∷ 32 ∷ 49 ∷ 32 ∷ 116 ∷ 111
    ∷ 32 ∷ 56 ∷ 32 ∷ 104 ∷ 101 ∷ 120 ∷ 32 ∷ 100 ∷ 105 ∷ 103 ∷ 105 ∷ 116 ∷ 115 ∷ 32 ∷ 101 ∷ 97 ∷ 99 ∷ 104 ∷ 10 ∷ []

-- ? no panel runs yet; start one
abbrev pub no_panel_text : List ℕ
no_panel_text =
    63 ∷ 32 ∷ 110 ∷ 111 ∷ 32 ∷ 112 ∷ 97 ∷ 110 ∷ 101 ∷ 108 ∷ 32 ∷ 114 ∷ 117 ∷ 110 ∷ 115 ∷ 32 ∷ 121 ∷ 101 ∷ 116 ∷ 59
    ∷ 32 ∷ 115 ∷ 116 ∷ 97 ∷ 114 ∷ 116 ∷ 32 ∷ 111 ∷ 110 ∷ 101 ∷ 10 ∷ []

-- the messages of the reasons 1 to 12, in their order; what stands at 0 is no reason's
abbrev pub messages : List (List ℕ)
messages =
    no_panel_text
    ∷ too_long_text
    ∷ no_such_word_text
    ∷ bad_node_text
    ∷ bad_slot_text
    ∷ bad_start_text
    ∷ bad_telegram_text
    ∷ bad_levels_text
    ∷ bad_tick_text
    ∷ bad_frame_text
    ∷ bad_halves_text
    ∷ bad_record_text
    ∷ bad_burst_text
    ∷ []

-- THE MESSAGE OF A REASON: 13 and any other number say that no panel runs
unfoldable pub message_of : ℕ → List ℕ
message_of kind = get_or messages kind no_panel_text

-- the most bytes that a message has
abbrev pub longest_message : ℕ
longest_message = 128

-- a text is a message: it begins with `? `, ends in a newline, its only one, and is not too long
abbrev pub is_message : List ℕ → Bool
is_message t =
    leb (length t) longest_message
    && (same_text (take 2 t) (63 ∷ space ∷ [])
    && (eqb (get_or t (length t - 1) 0) newline && no_newline (take (length t - 1) t)))
