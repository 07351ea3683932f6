-- What demand 3 counts: a run's travel, a condition's changes, and the modes that have a hysteresis.
-- Paper 01, "Runs". Assumes nothing.
use Rattle.std.specs.Prelude.{Bool, true, false, cond, List, [], ◌∷◌, ℕ, ◌+◌, ℤ, nat_abs, ◌-ℤ◌}
use Rattle.switching.specs.Condition.{by_mode}

-- what an event leaves: the result answered and the condition
pub record Seen : Type 0 where
  pub result : ℤ
  pub on : Bool

-- Runs, "travel is the sum of the distance between the result before and after each"; r is the result before
unfoldable pub travel : ℤ → List Seen → ℕ
travel r [] = 0
travel r (s ∷ ss) = nat_abs (s.result -ℤ r) + travel s.result ss

-- 1 where the condition turns, 0 where it stays
abbrev pub changed : Bool → Bool → ℕ
changed true on = cond on 0 1
changed false on = cond on 1 0

-- Runs, "a condition changes at each event that turns it"; was is the condition before
unfoldable pub changes : Bool → List Seen → ℕ
changes was [] = 0
changes was (s ∷ ss) = changed was s.on + changes s.on ss

-- Switching, the modes with a hysteresis: 0, 1, 3, 4 and 6. Modes 2 and 5 have none
unfoldable pub hysteretic : ℕ → Bool
hysteretic mode = by_mode mode true true false true true false true
