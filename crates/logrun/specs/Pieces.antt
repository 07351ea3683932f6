-- A log that comes in pieces, as it is read: what each of them prints, and whether the run goes on behind it. Paper 01, "panelrun and its log".
-- Main property (OutputLaws, `output-in-pieces`): the opening and what the pieces print is the output. Assumes nothing.
use Rattle.std.specs.Prelude.{◌≡◌, Bool, cond, ◌&&◌, List, [], ◌∷◌, ◌++◌, ℕ, ◌<◌, leb, length}
use Rattle.events.specs.Bytes.{words_in, left_over}
use Rattle.events.specs.Log.{end_number}
use Rattle.lines.specs.Lines.{end_line}
use Rattle.logrun.specs.declared.Progress.{Progress}
use Rattle.logrun.specs.Progress.{running, words_fed, words_text, finished_of}

-- a piece of whole words
abbrev pub Whole : List ℕ → Type 0
Whole a = left_over a ≡ 0

-- the run goes on behind a piece that holds no refusal and is full
unfoldable pub goes_on : ℕ → Progress → List ℕ → Bool
goes_on full p a = running (words_fed p (words_in a)) && leb full (length a)

-- the last line, with the bytes left over behind the piece's words
abbrev pub last_line : Progress → List ℕ → List ℕ
last_line p a = end_line (end_number (finished_of (words_fed p (words_in a)) (left_over a)))

-- what a piece prints: the lines of its whole words, and the last line where the run ends in it
unfoldable pub piece_text : ℕ → Progress → List ℕ → List ℕ
piece_text full p a = words_text p (words_in a) ++ cond (goes_on full p a) [] (last_line p a)

-- what pieces print, one after the other, up to the one in which the run ends
unfoldable pub pieces_text : ℕ → Progress → List (List ℕ) → List ℕ
pieces_text full p [] = []
pieces_text full p (a ∷ more) = piece_text full p a ++ cond (goes_on full p a) (pieces_text full (words_fed p (words_in a)) more) []

-- the pieces of a log as it is read into a room of `full` bytes: the last one is not full, the others are
abbrev pub AsRead : ℕ → List (List ℕ) → Type 0
AsRead full [] = ⊥
AsRead full (a ∷ []) = length a < full
AsRead full (a ∷ (b ∷ more)) = (length a ≡ full) × AsRead full (b ∷ more)

-- .. one behind the other
abbrev pub together : List (List ℕ) → List ℕ
together [] = []
together (a ∷ more) = a ++ together more
