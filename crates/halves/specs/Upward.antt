-- THE OTHER FIRMWARE: it rounds halves upward in scaling and linearization, and in all else is ours. It stands here for the law of marks alone.
-- Request K7; paper 01, "From telegram to result", steps 2 to 5, with `round_up` for `round_div`. Assumes nothing.
use Rattle.std.specs.Prelude.{List, ℕ, ℤ, pos, ◌+ℤ◌, ◌*ℤ◌}
use Rattle.analog.specs.AnalogCode.{fraction, full_scale, lowest, held, on_scale}
use Rattle.integers.specs.Fraction.{whole}
use Rattle.integers.specs.Upward.{round_up, upward}
use Rattle.measurement.specs.declared.Measured.{Measured}
use Rattle.measurement.specs.declared.Scaling.{Scaling}
use Rattle.measurement.specs.Curve.{Point, curve}
use Rattle.measurement.specs.Measure.{distance_at, judged_of, used_points}
use Rattle.reading.specs.declared.Basis.{Basis}
use Rattle.settings.specs.declared.Span.{Span}
use Rattle.settings.specs.Settings.{scaling_of, points_of}

-- step 3, v: d × factor ÷ divider rounded halves upward, plus A
unfoldable pub scaled_up : ℤ → ℕ → ℕ → ℤ → ℤ
scaled_up d factor divider A = round_up (d *ℤ pos factor) (pos divider) +ℤ A

-- step 4: the straight line's whole fraction rounded halves upward
unfoldable pub linearized_up : ℕ → List Point → ℤ → ℤ
linearized_up m ps v = upward (curve m ps (whole v))

unfoldable pub value_up : Scaling → List ℤ → ℕ → ℤ
value_up s ws p = linearized_up s.linearization (used_points s ws) (scaled_up (distance_at s p) s.factor s.divider s.additive)

-- its result and error of what a result starts from, under a table
unfoldable pub measured_up : List ℤ → Basis → Measured
measured_up t b = judged_of b.reported (value_up (scaling_of t) (points_of t) b.start)

-- the analog code of a result rounded halves upward
unfoldable pub code_up : Span → ℤ → ℤ
code_up a r = held (lowest a.format) (pos (full_scale a.format)) (upward (on_scale a.format (fraction a.start a.end r)))
