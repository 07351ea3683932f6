-- A text read from its start: the first word and what stands behind it. How the code finds the words; WordLaws ties it to `words_of`.
use Rattle.std.specs.Prelude.{cond, List, [], ◌∷◌, ℕ, suc, eqb, take, drop}
use Rattle.text.specs.Marks.{space}

-- the text from its first byte on that is no space
unfoldable pub unspaced_of : List ℕ → List ℕ
unspaced_of [] = []
unspaced_of (b ∷ s) = cond (eqb b space) (unspaced_of s) (b ∷ s)

-- how many bytes stand before the first space
unfoldable pub word_length : List ℕ → ℕ
word_length [] = 0
word_length (b ∷ s) = cond (eqb b space) 0 (suc (word_length s))

-- the first word, empty where there is none
unfoldable pub word_of : List ℕ → List ℕ
word_of s = take (word_length (unspaced_of s)) (unspaced_of s)

-- what stands behind it
unfoldable pub rest_of : List ℕ → List ℕ
rest_of s = drop (word_length (unspaced_of s)) (unspaced_of s)
