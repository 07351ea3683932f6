-- The curve through the control points: L, its value at any fraction before rounding, and S, its steepest slope.
-- Paper 01, "From telegram to result", step 4. Assumes nothing.
use Rattle.std.specs.Prelude.{Option, None, Some, ℕ, zero, suc, ◌+◌, ◌*◌, Bool, cond, List, [], ◌∷◌, ◌≡◌, T, leb, ℤ, pos, nat_abs, ◌+ℤ◌, ◌-ℤ◌, ◌*ℤ◌, get_or}
use Rattle.std.specs.Int.Signed.{le_z, lt_z, non_neg}
use Rattle.integers.specs.declared.Rounded.{Rounded}
use Rattle.integers.specs.Fraction.{Frac, Ratio, whole, minus, nearest, rounded}

-- a control point
pub record Point : Type 0 where
  pub x : ℤ
  pub y : ℤ

-- the points as the table has them, x then y: point i, counted from 0, and n points from point i on
abbrev pub point_at : List ℤ → ℕ → Point
point_at ws i = record { x = get_or ws (2 * i) (pos 0); y = get_or ws (2 * i + 1) (pos 0) }

unfoldable pub points_from : List ℤ → ℕ → ℕ → List Point
points_from ws i zero = []
points_from ws i (suc n) = point_at ws i ∷ points_from ws (suc i) n

-- the place of the highest of the first n points whose x is at most v, or none
unfoldable pub highest_of : List ℤ → ℕ → ℤ → Option ℕ
highest_of ws zero v = None
highest_of ws (suc n) v = cond (le_z (point_at ws n).x v) (Some n) (highest_of ws n v)

-- q is below the whole number z
abbrev pub before : Frac → ℤ → Bool
before q z = lt_z q.num (z *ℤ pos q.den)

-- the straight line from p to p₁: y + (q − x)(y₁ − y)/(x₁ − x) as one fraction
abbrev pub line : Point → Point → Frac → Frac
line p p₁ q =
    record {
      num = p.y *ℤ pos (nat_abs (p₁.x -ℤ p.x) * q.den) +ℤ (q.num -ℤ p.x *ℤ pos q.den) *ℤ (p₁.y -ℤ p.y);
      den = nat_abs (p₁.x -ℤ p.x) * q.den;
    }

-- "the whole fraction rounded once": the line from (x, y) to (x₁, y₁) at the whole number v, and K7's mark
unfoldable pub line_value : ℤ → ℤ → ℤ → ℤ → ℤ → Rounded
line_value x y x₁ y₁ v = rounded (line (record { x = x; y = y }) (record { x = x₁; y = y₁ }) (whole v))

-- from p on: the line to the next point, what follows it, or the last point's y beyond the end
unfoldable pub right_of : Point → List Point → Frac → Frac
right_of p [] q = whole p.y
right_of p (p₁ ∷ ps) q = cond (before q p₁.x) (line p p₁ q) (right_of p₁ ps q)

-- four quadrants: before the first point its y
unfoldable pub four_quadrants : List Point → Frac → Frac
four_quadrants [] q = whole (pos 0)
four_quadrants (p ∷ ps) q = cond (before q p.x) (whole p.y) (right_of p ps q)

-- one quadrant: a negative value gives minus the value for its negative
unfoldable pub one_quadrant : List Point → Frac → Frac
one_quadrant ps q = cond (non_neg q.num) (four_quadrants ps q) (minus (four_quadrants ps (minus q)))

-- L by the mode of linearization: 0 off, 1 one quadrant, 2 four
unfoldable pub curve : ℕ → List Point → Frac → Frac
curve zero ps q = q
curve (suc zero) ps q = one_quadrant ps q
curve (suc (suc m)) ps q = four_quadrants ps q

-- step 4: the straight line's whole fraction rounded once; with the mode off, v
unfoldable pub linearized_of : ℕ → List Point → ℤ → ℤ
linearized_of m ps v = nearest (curve m ps (whole v))

-- K7: the same with its mark, which is no with the mode off, beyond the end points and at a control point (MarkLaws)
unfoldable pub linearized_by : ℕ → List Point → ℤ → Rounded
linearized_by m ps v = rounded (curve m ps (whole v))

-- |change of y| ÷ change of x
abbrev pub slope : Point → Point → Ratio
slope p p₁ = record { top = nat_abs (p₁.y -ℤ p.y); low = nat_abs (p₁.x -ℤ p.x) }

abbrev pub larger : Ratio → Ratio → Ratio
larger s t = cond (leb (s.top * t.low) (t.top * s.low)) t s

unfoldable pub steepest_from : Point → List Point → Ratio
steepest_from p [] = record { top = 0; low = 1 }
steepest_from p (p₁ ∷ ps) = larger (slope p p₁) (steepest_from p₁ ps)

-- S: the largest slope between used neighbours; 0 with the mode off
unfoldable pub steepest : ℕ → List Point → Ratio
steepest zero ps = record { top = 0; low = 1 }
steepest (suc m) [] = record { top = 0; low = 1 }
steepest (suc m) (p ∷ ps) = steepest_from p ps

-- load check 6: strictly rising x
unfoldable pub rising : Point → List Point → Type 0
rising p [] = Unit {0}
rising p (p₁ ∷ ps) = T (lt_z p.x p₁.x) × rising p₁ ps

abbrev pub origin : Point
origin = record { x = pos 0; y = pos 0 }

-- what load checks 6 and 7 leave of the used points: strictly rising; in one quadrant the first is (0, 0)
unfoldable pub Ordered : ℕ → List Point → Type 0
Ordered zero ps = Unit {0}
Ordered (suc m) [] = ⊥
Ordered (suc zero) (p ∷ ps) = (p ≡ origin) × rising p ps
Ordered (suc (suc m)) (p ∷ ps) = rising p ps
