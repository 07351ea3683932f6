-- The drive: for every code within its ends, the float that drives the line is exactly the paper's fraction, and no float step rounds.
-- Paper 01, "Analog value", second half, and "The form each place needs". Assumes nothing.
use Rattle.std.specs.Prelude.{◌≡◌, Bool, cond, ℕ, zero, suc, ◌*◌, ℤ, pos, ◌+ℤ◌, ◌*ℤ◌, Float}
use Rattle.std.specs.Float.{binary32}
use Rattle.std.specs.Float.Ieee.{of_int, mul, div, add}
use Rattle.integers.specs.Fraction.{Frac, frac}
use Rattle.analog.specs.declared.Drive.{Drive}
use Rattle.analog.specs.declared.Drive.TheVariants.{Off, Volts, Milliamps}
use Rattle.analog.specs.AnalogCode.{CodeFits}
use Rattle.analog.specs.FloatValue.{Is, value_of}

-- Analog value, "code × 10 ÷ 32,768; code × 20 ÷ 65,536; code × 16 ÷ 65,536 + 4"
abbrev pub factor : ℕ → ℕ
factor zero = 10
factor (suc zero) = 20
factor (suc (suc k)) = 16

abbrev pub divisor : ℕ → ℕ
divisor zero = 32768
divisor (suc k) = 65536

abbrev pub offset : ℕ → ℕ
offset zero = 0
offset (suc zero) = 0
offset (suc (suc k)) = 4

-- the value of a code as a fraction: code × factor ÷ divisor + offset
abbrev pub analog_value : ℕ → ℤ → Frac
analog_value format code = frac (code *ℤ pos (factor format) +ℤ pos (offset format * divisor format)) (divisor format)

-- Analog value, "with a 32-bit float": a whole number as a float, and the float steps in their order. Formats 0 and 1 add nothing.
abbrev pub float : ℤ → Float
float z = of_int binary32 z

abbrev pub product_of : ℕ → ℤ → Float
product_of format code = mul binary32 (float code) (float (pos (factor format)))

abbrev pub quotient_of : ℕ → ℤ → Float
quotient_of format code = div binary32 (product_of format code) (float (pos (divisor format)))

unfoldable pub float_of : ℕ → ℤ → Float
float_of zero code = quotient_of zero code
float_of (suc zero) code = quotient_of (suc zero) code
float_of (suc (suc k)) code = add binary32 (quotient_of (suc (suc k)) code) (float (pos (offset (suc (suc k)))))

-- Analog value, "None of these float steps rounds": each step is exactly its whole-number fraction
pub record Unrounded (format : ℕ) (code : ℤ) : Type 0 where
  pub cast : Is (float code) code 1
  pub product : Is (product_of format code) (code *ℤ pos (factor format)) 1
  pub quotient : Is (quotient_of format code) (code *ℤ pos (factor format)) (divisor format)
  pub result : Is (float_of format code) (analog_value format code).num (divisor format)

-- Analog value, "The drive is off, or volts, or milliamps"; "set from format and code"
unfoldable pub drive_of : ℕ → ℤ → Drive
drive_of zero code = Volts (float_of zero code)
drive_of (suc k) code = Milliamps (float_of (suc k) code)

-- a drive is that of a code within the ends of its format, or off
pub record CodeDrive (format : ℕ) (code : ℤ) (d : Drive) : Type 0 where
  pub on : Bool
  pub is : d ≡ cond on (drive_of format code) Off
  pub fits : CodeFits format code

-- Analog value, "off means 0 V or 0 mA, also in format 2": what a drive is worth, in its unit
abbrev pub drive_value : Drive → Frac
drive_value Off = frac (pos 0) 1
drive_value (Volts x) = value_of x
drive_value (Milliamps x) = value_of x
