-- The least and the greatest of whole numbers that are listed, and what is said of a list: one of them, each of them. Assumes nothing.
use Rattle.std.specs.Prelude.{cond, List, [], ◌∷◌, ◌⊎◌, ◌≡◌, ℤ, ◌≤ℤ◌}
use Rattle.std.specs.Int.Signed.{lt_z}

-- of two numbers
abbrev pub lesser : ℤ → ℤ → ℤ
lesser a b = cond (lt_z a b) a b

abbrev pub greater : ℤ → ℤ → ℤ
greater a b = cond (lt_z b a) a b

-- of a number and those behind it
unfoldable pub least_of : ℤ → List ℤ → ℤ
least_of a [] = a
least_of a (b ∷ bs) = lesser a (least_of b bs)

unfoldable pub greatest_of : ℤ → List ℤ → ℤ
greatest_of a [] = a
greatest_of a (b ∷ bs) = greater a (greatest_of b bs)

-- a number is one of them
abbrev pub Among : ℤ → List ℤ → Type 0
Among a [] = ⊥
Among a (b ∷ bs) = (a ≡ b) ⊎ Among a bs

-- a number lies between the least and the greatest of them; of none, no number does
abbrev pub Between : ℤ → List ℤ → Type 0
Between a [] = ⊥
Between a (b ∷ bs) = (least_of b bs ≤ℤ a) × (a ≤ℤ greatest_of b bs)

-- each of them is so
abbrev pub Each : (ℤ → Type 0) → List ℤ → Type 0
Each Q [] = Unit {0}
Each Q (a ∷ xs) = Q a × Each Q xs
