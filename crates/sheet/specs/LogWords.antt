-- The words of a log as a line gives them.
use Rattle.std.specs.Prelude.{Bool, List, ℕ}
use Rattle.text.specs.HexList.{are_hex}

-- the most words that a line has
abbrev pub most_words : ℕ
most_words = 100

-- 0 to 100 words of 1 to 8 hex digits
unfoldable pub is_log : List (List ℕ) → Bool
is_log ws = are_hex most_words 1 8 ws
