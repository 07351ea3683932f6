-- The levels of the outputs: each follows from the preselections aimed at it alone.
-- Paper 01, "Switching", the last three sentences. Outputs are counted from 1, as targets name them. Assumes nothing.
use Rattle.std.specs.Prelude.{Bool, cond, not, ◌&&◌, List, [], ◌∷◌, ℕ, eqb}
use Rattle.integers.specs.Choice.{some}
use Rattle.switching.specs.declared.Preselection.{Preselection}
use Rattle.switching.specs.declared.Switch.{Switch}
use Rattle.switching.specs.Switching.{active_of, preselection_at, switch_at}

-- Switching, "aimed at it"
abbrev pub aims : ℕ → Preselection → Bool
aims n p = eqb p.target n

-- aimed at output n, and active
abbrev pub drives_of : ℕ → Preselection → Switch → Bool
drives_of n p s = aims n p && active_of p s

-- aimed at output n, and active low
abbrev pub inverts_of : ℕ → Preselection → Bool
inverts_of n p = aims n p && eqb p.polarity 1

-- Switching, "an output is active when any preselection aimed at it is"
unfoldable pub active_at : ℕ → List Preselection → List Switch → Bool
active_at n ps ss = some 4 (λ k. drives_of n (preselection_at ps k) (switch_at ss k))

-- Switching, "active low": load check 9 has all preselections aimed at one output agree; in general, any of them makes it active low
unfoldable pub low_at : ℕ → List Preselection → Bool
low_at n ps = some 4 (λ k. inverts_of n (preselection_at ps k))

-- Switching, "an inactive active-low output is high". One that nobody aims at is neither active nor active low, and so it is low. True is high
unfoldable pub level_of : ℕ → List Preselection → List Switch → Bool
level_of n ps ss = cond (low_at n ps) (not (active_at n ps ss)) (active_at n ps ss)

-- panelrun, "the levels of outputs 1 to 4"
unfoldable pub outputs_of : List Preselection → List Switch → List Bool
outputs_of ps ss = level_of 1 ps ss ∷ level_of 2 ps ss ∷ level_of 3 ps ss ∷ level_of 4 ps ss ∷ []
