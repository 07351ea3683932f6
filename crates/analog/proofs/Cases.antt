-- Analog values worked out by the definitions alone: the codes of paper 01, "panelrun and its log", and the ends of each format.
-- Defaults: format 0, start 0, end 10,000. Assumes nothing.
use Rattle.std.specs.Prelude.{◌≡◌, refl, pos, negsuc}
use Rattle.std.specs.Float.Ieee.{of_int, mul, div, add}
use Rattle.integers.specs.Round.{round_div}
use Rattle.integers.specs.Fraction.{frac}
use Rattle.analog.specs.declared.Drive.TheVariants.{Off}
use Rattle.analog.specs.AnalogCode.{code_of, held}
use Rattle.analog.specs.Drives.{drive_of, float_of, drive_value}

-- panelrun and its log, the worked example: r = 999, 1000, 0, −2
pub worked-first : code_of 0 (pos 0) (pos 10000) (pos 999) ≡ pos 3273
unfolding code_of held round_div
worked-first = refl

pub worked-second : code_of 0 (pos 0) (pos 10000) (pos 1000) ≡ pos 3277
unfolding code_of held round_div
worked-second = refl

pub worked-third : code_of 0 (pos 0) (pos 10000) (pos 0) ≡ pos 0
unfolding code_of held round_div
worked-third = refl

pub worked-fourth : code_of 0 (pos 0) (pos 10000) (negsuc 1) ≡ negsuc 6
unfolding code_of held round_div
worked-fourth = refl

-- Analog value: held at both ends, and an end below the start
pub held-above : code_of 0 (pos 0) (pos 10000) (pos 10001) ≡ pos 32767
unfolding code_of held round_div
held-above = refl

pub held_below : code_of 0 (pos 0) (pos 10000) (negsuc 10000) ≡ negsuc 32766
unfolding code_of held round_div
held_below = refl

pub held-at-zero : code_of 2 (pos 0) (pos 10000) (negsuc 0) ≡ pos 0
unfolding code_of held round_div
held-at-zero = refl

pub mirrored : code_of 1 (pos 10000) (pos 0) (pos 2500) ≡ pos 49151
unfolding code_of held round_div
mirrored = refl

-- Analog value, "off means 0 V or 0 mA, also in format 2"; the lowest drive of format 2 is 4 mA
pub off-is-zero : drive_value Off ≡ frac (pos 0) 1
off-is-zero = refl

pub format-two-lowest : drive_value (drive_of 2 (pos 0)) ≡ frac (pos 4) 1
unfolding drive_of float_of of_int mul div add
format-two-lowest = refl
