-- The bytes of a log: its whole words in order, and 1 to 3 bytes that may be left over; and words as bytes.
-- Paper 01, "panelrun and its log": "all 4 bytes, lowest byte first"; "left-over bytes give 16".
-- Main property (WordBytesLaws): the bytes of words are read as these words.
use Rattle.std.specs.Prelude.{List, [], ◌∷◌, ◌++◌, ℕ, ◌/◌, ◌%◌, ◌<◌, length}
use Rattle.events.specs.Words.{word_at}
use Rattle.events.specs.Log.{Log, log_of}

-- the whole words
unfoldable pub words_in : List ℕ → List ℕ
words_in [] = []
words_in (a ∷ []) = []
words_in (a ∷ (b ∷ [])) = []
words_in (a ∷ (b ∷ (c ∷ []))) = []
words_in (a ∷ (b ∷ (c ∷ (d ∷ bytes)))) = word_at a b c d ∷ words_in bytes

-- the number of bytes left over behind them
abbrev pub left_over : List ℕ → ℕ
left_over bytes = length bytes % 4

-- what the bytes of a log give
unfoldable pub log_of_bytes : List ℕ → Log
log_of_bytes bytes = log_of (words_in bytes) (left_over bytes)

-- a word as bytes
abbrev pub least_first : ℕ → List ℕ
least_first w = w % 256 ∷ w / 256 % 256 ∷ w / 65536 % 256 ∷ w / 16777216 ∷ []

unfoldable pub bytes_of : List ℕ → List ℕ
bytes_of [] = []
bytes_of (w ∷ ws) = least_first w ++ bytes_of ws

-- bytes of 8 bits
abbrev pub AllBytes : List ℕ → Type 0
AllBytes [] = Unit
AllBytes (b ∷ bytes) = (b < 256) × AllBytes bytes
