-- The count U of a round loop: it starts as p modulo R and goes on by the step from each position to the next, so that it runs on across the encoder's end.
-- Paper 02, K4. M is how many positions the encoder has, R the round loop. Assumes nothing.
use Rattle.std.specs.Prelude.{ℕ, ◌/◌, ◌%◌, ℤ, pos, neg_ℤ, ◌+ℤ◌, ◌-ℤ◌, ◌*ℤ◌, ◌≤ℤ◌, ◌<ℤ◌}
use Rattle.integers.specs.Int.{P}
use Rattle.integers.specs.Round.{floor_mod}

-- M/2
abbrev pub half : ℕ → ℕ
half M = M / 2

-- "with −M/2 ≤ s < M/2"
pub record Short (M : ℕ) (s : ℤ) : Type 0 where
  pub low : neg_ℤ (pos M) ≤ℤ (pos 2 *ℤ s)
  pub high : (pos 2 *ℤ s) <ℤ pos M

-- "the step s that equals, modulo M, the change of p", and is short (`step_is`), from the last p to this one
unfoldable pub step_from : ℕ → ℕ → ℕ → ℤ
step_from M last p = floor_mod (pos p -ℤ pos last +ℤ pos (half M)) (pos M) -ℤ pos (half M)

-- "The count U starts as p modulo R"
unfoldable pub first_count : ℕ → ℕ → ℕ
first_count R p = p % R

-- "adds the step s .., and U is kept modulo R"
unfoldable pub counted_of : ℕ → ℕ → ℤ → ℕ
counted_of R U s = P (floor_mod (pos U +ℤ s) (pos R))
