-- Which scalings and control points a loaded table can have: those that pass checks 2 and 6 of paper 01, "Where each check sits".
-- `measure` asks for a sound scaling, its parts for what they need of it.
use Rattle.std.specs.Prelude.{List, ℕ, zero, suc, ◌*◌, ◌≤◌, ◌<◌, T, ℤ, pos, length, get_or, ◌≤ℤ◌, ◌<ℤ◌}
use Rattle.std.specs.Int.Signed.{lt_z}
use Rattle.integers.specs.Int.{Within}
use Rattle.integers.specs.Limit.{Z}
use Rattle.measurement.specs.declared.Scaling.{Scaling}
use Rattle.measurement.specs.Curve.{point_at}

-- what a table that loads says of its n used points: they are there, within ±Z, and their x rises strictly
pub record Usable (ws : List ℤ) (n : ℕ) : Type 0 where
  pub long : 2 * n ≤ length ws
  pub some : 0 < n
  pub within : (k : ℕ) → k < 2 * n → Within Z (get_or ws k (pos 0))
  pub rises : (j : ℕ) → suc j < n → T (lt_z (point_at ws j).x (point_at ws (suc j)).x)

-- two points within ±Z, and v from the first on and before the second
pub record OnLine (x y x₁ y₁ v : ℤ) : Type 0 where
  pub x-within : Within Z x
  pub y-within : Within Z y
  pub x₁-within : Within Z x₁
  pub y₁-within : Within Z y₁
  pub from : x ≤ℤ v
  pub to : v <ℤ x₁

-- with the mode on the points are usable
unfoldable pub Linearizable : ℕ → List ℤ → ℕ → Type 0
Linearizable zero ws n = Unit {0}
Linearizable (suc m) ws n = Usable ws n

-- the scaling of a table that loads, and its points
pub record Sound (s : Scaling) (ws : List ℤ) : Type 0 where
  pub offset : Within Z s.offset
  pub round-loop : s.round_loop ≤ Z
  pub factor : s.factor ≤ 9999999
  pub divider : 0 < s.divider
  pub additive : Within Z s.additive
  pub curve : Linearizable s.linearization ws s.used
