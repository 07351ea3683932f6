-- The same rule for each of a list: the element at place k becomes f of k and itself. Assumes nothing.
use Rattle.std.specs.Prelude.{List, [], ◌∷◌, ℕ, suc}

-- the places are counted from i
unfoldable pub each_from : {A : Type 0} → ℕ → (ℕ → A → A) → List A → List A
each_from i f [] = []
each_from i f (x ∷ xs) = f i x ∷ each_from (suc i) f xs
