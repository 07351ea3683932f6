-- Values next to the mistakes that paper 01 calls tempting: rounding after the sum, rounding the rise alone, a remainder cut toward zero.
use Rattle.std.specs.Prelude.{◌≡◌, refl, pos, negsuc, true}
use Rattle.integers.specs.Round.{round_div, halved, rounding, floor_mod}
use Rattle.measurement.specs.Curve.{line_value}
use Rattle.measurement.specs.Measure.{distance_of, scaled_of}

-- 3 × 1.5 − 5: the half is rounded before A is added
pub additive-after-rounding : scaled_of (pos 3) 150000 100000 (negsuc 4) ≡ pos 0
unfolding scaled_of round_div
additive-after-rounding = refl

-- from (−100, −50) to (0, 0), at −3: −1.5 as a whole, a half
pub whole-fraction-rounded : line_value (negsuc 99) (negsuc 49) (pos 0) (pos 0) (negsuc 2) ≡ record { value = negsuc 1; half = true }
unfolding line_value rounding round_div halved
whole-fraction-rounded = refl

-- 3 − 5 modulo 360
pub remainder-from-zero : distance_of 3 (pos 5) 360 ≡ pos 358
unfolding distance_of floor_mod
remainder-from-zero = refl
