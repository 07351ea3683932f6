-- Words in their plain form, parted by one space: what a program writes and a person types. Assumes nothing.
-- Main property: such words are found again (PlainLaws).
use Rattle.std.specs.Prelude.{Bool, true, ◌&&◌, ◌≡◌, List, [], ◌∷◌, ◌++◌, ℕ, ◌<◌, ltb, length}
use Rattle.text.specs.Marks.{space}

-- every byte is above a space, so that none is a space or a carriage return
unfoldable pub all_plain : List ℕ → Bool
all_plain [] = true
all_plain (b ∷ s) = ltb space b && all_plain s

-- a plain word: it is not empty
pub record Plain (w : List ℕ) : Type 0 where
  pub some : 0 < length w
  pub all : all_plain w ≡ true

-- one or more plain words
pub data Words : List (List ℕ) → Type 0 where
  last : {w : List ℕ} → Plain w → Words (w ∷ [])
  more : {w v : List ℕ} {ws : List (List ℕ)} → Plain w → Words (v ∷ ws) → Words (w ∷ (v ∷ ws))

-- words parted by one space
unfoldable pub spoken : List (List ℕ) → List ℕ
spoken [] = []
spoken (w ∷ []) = w
spoken (w ∷ (v ∷ ws)) = w ++ (space ∷ spoken (v ∷ ws))
