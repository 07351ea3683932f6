-- Hex digits: `0` to `9`, `A` to `F` and `a` to `f`, read in either case and written in upper case. Request K2, "console".
-- Main property: what is written is read (HexBackLaws), and upper and lower case are read alike.
use Rattle.std.specs.Prelude.{Bool, true, cond, ◌&&◌, List, [], ◌∷◌, ◌++◌, ℕ, zero, suc, ◌+◌, ◌-◌, ◌*◌, ◌/◌, ◌%◌, ltb, leb, length, Option, Some, None}
use Rattle.std.specs.List.{list_all}
use Rattle.std.specs.Option.{is_some, unwrap_or}
use Rattle.text.specs.Marks.{space}

-- a byte from a to b
abbrev pub between : ℕ → ℕ → ℕ → Bool
between a b x = leb a x && leb x b

-- what a byte stands for as a hex digit; none for a byte that is none
unfoldable pub hex_digit : ℕ → Option ℕ
hex_digit b =
    cond (between 48 57 b) (Some (b - 48))
    (cond (between 65 70 b) (Some (b - 55))
    (cond (between 97 102 b) (Some (b - 87)) None))

-- every byte is a hex digit
unfoldable pub all_hex : List ℕ → Bool
all_hex s = list_all (λ b. is_some (hex_digit b)) s

-- from `least` to `most` hex digits
unfoldable pub is_hex : ℕ → ℕ → List ℕ → Bool
is_hex least most s = leb least (length s) && (leb (length s) most && all_hex s)

-- the number that hex digits stand for, behind digits that stand for v; a byte that is none counts 16
unfoldable pub hex_from : ℕ → List ℕ → ℕ
hex_from v [] = v
hex_from v (b ∷ s) = hex_from (v * 16 + unwrap_or (hex_digit b) 16) s

abbrev pub hex_of : List ℕ → ℕ
hex_of s = hex_from 0 s

-- the upper-case hex digit of a number below 16
unfoldable pub hex_letter : ℕ → ℕ
hex_letter n = cond (ltb n 10) (48 + n) (55 + n)

-- a byte as two digits
abbrev pub hex_pair : ℕ → List ℕ
hex_pair b = hex_letter (b / 16) ∷ hex_letter (b % 16) ∷ []

-- bytes as two digits each, with a space before each, and with one between them
unfoldable pub spaced_pairs : List ℕ → List ℕ
spaced_pairs [] = []
spaced_pairs (b ∷ l) = space ∷ (hex_pair b ++ spaced_pairs l)

unfoldable pub hex_text : List ℕ → List ℕ
hex_text [] = []
hex_text (b ∷ l) = hex_pair b ++ spaced_pairs l

-- k digits of a number
unfoldable pub hex_in : ℕ → ℕ → List ℕ
hex_in zero n = []
hex_in (suc k) n = hex_in k (n / 16) ++ (hex_letter (n % 16) ∷ [])

-- a word of two digits for each byte
unfoldable pub pair_words : List ℕ → List (List ℕ)
pair_words [] = []
pair_words (b ∷ l) = hex_pair b ∷ pair_words l

-- every number is a byte
unfoldable pub all_bytes : List ℕ → Bool
all_bytes [] = true
all_bytes (b ∷ l) = ltb b 256 && all_bytes l

-- a digit in lower case
unfoldable pub lowered : ℕ → ℕ
lowered b = cond (between 65 70 b) (b + 32) b

unfoldable pub lowered_all : List ℕ → List ℕ
lowered_all [] = []
lowered_all (b ∷ s) = lowered b ∷ lowered_all s
