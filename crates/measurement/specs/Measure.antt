-- From position to result: steps 1 to 3 and 5 of paper 01, "From telegram to result" (step 4 is in Curve), and the exact value E.
-- Assumes nothing.
use Rattle.std.specs.Prelude.{Option, None, Some, ℕ, ◌-◌, ◌%◌, ◌^◌, Bool, cond, List, eqb, ℤ, pos, neg_ℤ, ◌+ℤ◌, ◌-ℤ◌, ◌*ℤ◌}
use Rattle.std.specs.Int.Signed.{lt_z}
use Rattle.integers.specs.Limit.{Z}
use Rattle.integers.specs.declared.Rounded.{Rounded}
use Rattle.integers.specs.Round.{round_div, halved, floor_mod}
use Rattle.measurement.specs.declared.Error.{Error}
use Rattle.measurement.specs.declared.Measured.{Measured}
use Rattle.measurement.specs.declared.Measurement.{Measurement}
use Rattle.measurement.specs.declared.Scaling.{Scaling}
use Rattle.integers.specs.Fraction.{Frac}
use Rattle.measurement.specs.Curve.{Point, points_from, curve, linearized_of, linearized_by}

-- step 1, direction: 1 replaces p by (M − p) modulo M, with M = 2 ^ width
unfoldable pub directed_of : ℕ → ℕ → ℕ → ℕ
directed_of reverse width p = cond (eqb reverse 1) ((2 ^ width - p) % 2 ^ width) p

-- step 2, d: p − O, and with R above 0 that modulo R
unfoldable pub distance_of : ℕ → ℤ → ℕ → ℤ
distance_of p O R = cond (eqb R 0) (pos p -ℤ O) (floor_mod (pos p -ℤ O) (pos R))

-- step 3, v: d × factor ÷ divider rounded, plus A; with its mark; and E, the same without rounding
unfoldable pub scaled_of : ℤ → ℕ → ℕ → ℤ → ℤ
scaled_of d factor divider A = round_div (d *ℤ pos factor) (pos divider) +ℤ A

-- K7: step 3 with its mark, that of the division; A is a whole number
unfoldable pub scaled_by : ℤ → ℕ → ℕ → ℤ → Rounded
scaled_by d factor divider A = record { value = scaled_of d factor divider A; half = halved (d *ℤ pos factor) (pos divider) }

abbrev pub exact : ℤ → ℕ → ℕ → ℤ → Frac
exact d factor divider A = record { num = d *ℤ pos factor +ℤ A *ℤ pos divider; den = divider }

-- step 5, errors: the paper's number of each, 0 for none
abbrev pub error_number : Option Error → ℕ
error_number None = 0
error_number (Some Error.AboveRange) = 1
error_number (Some Error.BelowRange) = 2
error_number (Some Error.ErrorBit) = 3

abbrev pub measured : ℤ → Option Error → Measured
measured r e = record { result = r; error = e }

-- step 5: error 3 when the error bit is at its error level; else 1 above Z, 2 below −Z; under an error the result is 0
unfoldable pub judged_of : Bool → ℤ → Measured
judged_of reported v =
    cond reported (measured (pos 0) (Some Error.ErrorBit))
    (cond (lt_z (pos Z) v) (measured (pos 0) (Some Error.AboveRange))
    (cond (lt_z v (neg_ℤ (pos Z))) (measured (pos 0) (Some Error.BelowRange))
    (measured v None)))

-- ---- the steps together, for a position after direction. `ws` holds the points, x then y

unfoldable pub used_points : Scaling → List ℤ → List Point
used_points s ws = points_from ws 0 s.used

abbrev pub distance_at : Scaling → ℕ → ℤ
distance_at s p = distance_of p s.offset s.round_loop

abbrev pub scaled_at : Scaling → ℕ → ℤ
scaled_at s p = scaled_of (distance_at s p) s.factor s.divider s.additive

unfoldable pub value_of : Scaling → List ℤ → ℕ → ℤ
value_of s ws p = linearized_of s.linearization (used_points s ws) (scaled_at s p)

-- the result and the error of a reading
unfoldable pub measured_of : Scaling → List ℤ → ℕ → Bool → Measured
measured_of s ws p reported = judged_of reported (value_of s ws p)

-- K7: whether a half decided in scaling, and in linearization
unfoldable pub scaling_half : Scaling → ℕ → Bool
scaling_half s p = (scaled_by (distance_at s p) s.factor s.divider s.additive).half

unfoldable pub line_half : Scaling → List ℤ → ℕ → Bool
line_half s ws p = (linearized_by s.linearization (used_points s ws) (scaled_at s p)).half

-- a reading with these two marks, whatever its error
unfoldable pub measurement_of : Scaling → List ℤ → ℕ → Bool → Measurement
measurement_of s ws p reported = record { measured = measured_of s ws p reported; scaling = scaling_half s p; linearization = line_half s ws p }

-- E, and L(E)
unfoldable pub exact_of : Scaling → ℕ → Frac
exact_of s p = exact (distance_at s p) s.factor s.divider s.additive

unfoldable pub exact_curve : Scaling → List ℤ → ℕ → Frac
exact_curve s ws p = curve s.linearization (used_points s ws) (exact_of s p)
