-- The words that lines begin with. What none of them begins is a line of `script`. Assumes nothing.
use Rattle.std.specs.Prelude.{cond, List, [], ◌∷◌, ℕ}
use Rattle.decimal.specs.Decimal.{same_text}
use Rattle.sheet.specs.declared.orders.Question.{Question}
use Rattle.sheet.specs.declared.orders.Question.TheVariants.{Build, Fault, Read, Diagnose}
use Rattle.sheet.specs.declared.orders.Word.{Word}
use Rattle.sheet.specs.declared.orders.Word.TheVariants.{Plain, Heading, Log, End, Cut, Extremes, Asked}

-- ==, log, end, cut, extremes, build, fault, read, diagnose
abbrev pub heading_word : List ℕ
heading_word = 61 ∷ 61 ∷ []

abbrev pub log_word : List ℕ
log_word = 108 ∷ 111 ∷ 103 ∷ []

abbrev pub end_word : List ℕ
end_word = 101 ∷ 110 ∷ 100 ∷ []

abbrev pub cut_word : List ℕ
cut_word = 99 ∷ 117 ∷ 116 ∷ []

abbrev pub extremes_word : List ℕ
extremes_word = 101 ∷ 120 ∷ 116 ∷ 114 ∷ 101 ∷ 109 ∷ 101 ∷ 115 ∷ []

abbrev pub build_word : List ℕ
build_word = 98 ∷ 117 ∷ 105 ∷ 108 ∷ 100 ∷ []

abbrev pub fault_word : List ℕ
fault_word = 102 ∷ 97 ∷ 117 ∷ 108 ∷ 116 ∷ []

abbrev pub read_word : List ℕ
read_word = 114 ∷ 101 ∷ 97 ∷ 100 ∷ []

abbrev pub diagnose_word : List ℕ
diagnose_word = 100 ∷ 105 ∷ 97 ∷ 103 ∷ 110 ∷ 111 ∷ 115 ∷ 101 ∷ []

-- those that take a number
unfoldable pub question_named : List ℕ → Word
question_named w =
    cond (same_text w build_word) (Asked Build)
    (cond (same_text w fault_word) (Asked Fault)
    (cond (same_text w read_word) (Asked Read)
    (cond (same_text w diagnose_word) (Asked Diagnose) Plain)))

-- what a line's first word asks for
unfoldable pub word_named : List ℕ → Word
word_named w =
    cond (same_text w heading_word) Heading
    (cond (same_text w log_word) Log
    (cond (same_text w end_word) End
    (cond (same_text w cut_word) Cut
    (cond (same_text w extremes_word) Extremes (question_named w)))))
