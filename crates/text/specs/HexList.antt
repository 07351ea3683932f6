-- Words that are hex numbers: at most so many, each of so many digits; and what they stand for. Assumes nothing.
use Rattle.std.specs.List.{list_all}
use Rattle.std.specs.Prelude.{Bool, ◌&&◌, List, [], ◌∷◌, ℕ, leb, length}
use Rattle.text.specs.Hex.{is_hex, hex_of}

-- each word has from `least` to `most` hex digits
unfoldable pub all_hex_words : ℕ → ℕ → List (List ℕ) → Bool
all_hex_words least most ws = list_all (is_hex least most) ws

unfoldable pub are_hex : ℕ → ℕ → ℕ → List (List ℕ) → Bool
are_hex count least most ws = leb (length ws) count && all_hex_words least most ws

unfoldable pub hexes_of : List (List ℕ) → List ℕ
hexes_of [] = []
hexes_of (w ∷ ws) = hex_of w ∷ hexes_of ws
