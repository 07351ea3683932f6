-- The lines that panelrun prints, as bytes: fields parted by one space, and one newline at the end.
-- Paper 01, "panelrun and its log", the printed example and the paragraph after it. Assumes nothing.
use Rattle.std.specs.Prelude.{Bool, true, false, cond, List, [], ◌∷◌, ◌++◌, ℕ, ◌+◌, ltb, ℤ, get_or}
use Rattle.analog.specs.declared.Drive.{Drive}
use Rattle.analog.specs.declared.Drive.TheVariants.{Off, Volts, Milliamps}
use Rattle.decimal.specs.Decimal.{largest, text_of}
use Rattle.events.specs.declared.Event.{Event}
use Rattle.events.specs.declared.Event.TheVariants.{Telegram, Levels, Tick}
use Rattle.measurement.specs.Measure.{error_number}
use Rattle.state.specs.Refusal.{note_number}
use Rattle.panel.specs.declared.Answer.{Answer}
use Rattle.text.specs.Marks.{space, newline, number}

-- ---- a line of fields

-- "Fields are parted by one space"; every line ends in one newline
abbrev pub line_with : List (List ℕ) → List ℕ
line_with [] = newline ∷ []
line_with (f ∷ []) = f ++ (newline ∷ [])
line_with (f ∷ (g ∷ fs)) = f ++ (space ∷ []) ++ line_with (g ∷ fs)

-- ---- the first line: event kind result shown error outs analog note

-- the word `event`
abbrev pub event_word : List ℕ
event_word = 101 ∷ 118 ∷ 101 ∷ 110 ∷ 116 ∷ []

-- the word `kind`
abbrev pub kind_word : List ℕ
kind_word = 107 ∷ 105 ∷ 110 ∷ 100 ∷ []

-- the word `result`
abbrev pub result_word : List ℕ
result_word = 114 ∷ 101 ∷ 115 ∷ 117 ∷ 108 ∷ 116 ∷ []

-- the word `shown`
abbrev pub shown_word : List ℕ
shown_word = 115 ∷ 104 ∷ 111 ∷ 119 ∷ 110 ∷ []

-- the word `error`
abbrev pub error_word : List ℕ
error_word = 101 ∷ 114 ∷ 114 ∷ 111 ∷ 114 ∷ []

-- the word `outs`
abbrev pub outs_word : List ℕ
outs_word = 111 ∷ 117 ∷ 116 ∷ 115 ∷ []

-- the word `analog`
abbrev pub analog_word : List ℕ
analog_word = 97 ∷ 110 ∷ 97 ∷ 108 ∷ 111 ∷ 103 ∷ []

-- the word `note`
abbrev pub note_word : List ℕ
note_word = 110 ∷ 111 ∷ 116 ∷ 101 ∷ []

unfoldable pub header_line : List ℕ
header_line = line_with (event_word ∷ kind_word ∷ result_word ∷ shown_word ∷ error_word ∷ outs_word ∷ analog_word ∷ note_word ∷ [])

-- ---- an event's line

-- "Kind is T, I or C (tick)": the letters are 84, 73 and 67
abbrev pub kind_letter : Event → ℕ
kind_letter (Telegram w) = 84
kind_letter (Levels l) = 73
kind_letter (Tick ms) = 67

-- "Outs are the levels of outputs 1 to 4, 1 for high": the digits 1 and 0 are 49 and 48
abbrev pub level_digit : Bool → ℕ
level_digit true = 49
level_digit false = 48

abbrev pub outs_text : List Bool → List ℕ
outs_text outs = level_digit (get_or outs 0 false) ∷ level_digit (get_or outs 1 false) ∷ level_digit (get_or outs 2 false) ∷ level_digit (get_or outs 3 false) ∷ []

-- "Analog is the code, or `off`"; the word `off`
abbrev pub off_word : List ℕ
off_word = 111 ∷ 102 ∷ 102 ∷ []

unfoldable pub analog_text : Drive → ℤ → List ℕ
analog_text Off code = off_word
analog_text (Volts x) code = text_of code
analog_text (Milliamps x) code = text_of code

-- the code that an answer's drive is made of
abbrev pub code_in : Answer → ℤ
code_in a = a.state.live.reading.code

-- result shown error outs analog note
abbrev pub answer_fields : Answer → List (List ℕ)
answer_fields a =
    text_of a.result
    ∷ text_of a.shown
    ∷ number (error_number a.error)
    ∷ outs_text a.outputs
    ∷ analog_text a.drive (code_in a)
    ∷ number (note_number a.note)
    ∷ []

-- event kind result shown error outs analog note
unfoldable pub event_line : ℕ → Event → Answer → List ℕ
event_line count e a = line_with (number count ∷ (kind_letter e ∷ []) ∷ answer_fields a)

-- "Events are counted from 1, refused ones too": the count after one more event. It stays at the largest number that is printed,
-- 10 ^ 18 − 1, which no run reaches
unfoldable pub next_count : ℕ → ℕ
next_count n = cond (ltb n largest) (n + 1) largest

-- K5, "Each telegram taken is an event of its own": the count after k events more (`more-is-next` in CountLaws)
unfoldable pub count_more : ℕ → ℕ → ℕ
count_more n k = cond (ltb (n + k) largest) (n + k) largest

-- ---- the lines of a refused table and of the end

-- "A refused table prints only `load`, number, slot"; the word `load`
abbrev pub load_word : List ℕ
load_word = 108 ∷ 111 ∷ 97 ∷ 100 ∷ []

unfoldable pub load_line : ℕ → ℕ → List ℕ
load_line refusal slot = line_with (load_word ∷ number refusal ∷ number slot ∷ [])

-- "`end` carries 0 or the log's refusal"; the word `end`
abbrev pub end_word : List ℕ
end_word = 101 ∷ 110 ∷ 100 ∷ []

unfoldable pub end_line : ℕ → List ℕ
end_line refusal = line_with (end_word ∷ number refusal ∷ [])
