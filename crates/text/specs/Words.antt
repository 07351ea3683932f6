-- The words of a text: the parts of it between spaces that are not empty. Request K2, "console": "words are parted by spaces".
-- Main property: the words that the code finds, first and then the rest, are these (WordLaws); words parted by one space are found again (PlainLaws).
use Rattle.std.specs.Prelude.{cond, List, [], ◌∷◌, ℕ, ◌-◌, eqb, length, get_or, take}
use Rattle.text.specs.Marks.{space, carriage_return}

-- a line without a carriage return at its end
unfoldable pub trimmed_of : List ℕ → List ℕ
trimmed_of s = cond (eqb (get_or s (length s - 1) 0) carriage_return) (take (length s - 1) s) s

-- a byte in front of the first part
abbrev pub onto : ℕ → List (List ℕ) → List (List ℕ)
onto b [] = (b ∷ []) ∷ []
onto b (p ∷ ps) = (b ∷ p) ∷ ps

-- the parts before, between and behind the spaces, of which some may be empty
unfoldable pub parts_of : List ℕ → List (List ℕ)
parts_of [] = [] ∷ []
parts_of (b ∷ s) = cond (eqb b space) ([] ∷ parts_of s) (onto b (parts_of s))

-- those that are not empty
abbrev pub filled : List (List ℕ) → List (List ℕ)
filled [] = []
filled ([] ∷ ps) = filled ps
filled ((b ∷ p) ∷ ps) = (b ∷ p) ∷ filled ps

-- the words of a text
unfoldable pub words_of : List ℕ → List (List ℕ)
words_of s = filled (parts_of s)

-- the only one of some words; where there is none, or there are several, the empty text, which is no word
abbrev pub only_of : List (List ℕ) → List ℕ
only_of [] = []
only_of (w ∷ []) = w
only_of (w ∷ (v ∷ ws)) = []

-- the first word, empty where there is none, and the words behind it
abbrev pub first_of : List (List ℕ) → List ℕ
first_of [] = []
first_of (w ∷ ws) = w

abbrev pub others_of : List (List ℕ) → List (List ℕ)
others_of [] = []
others_of (w ∷ ws) = ws
