-- The analog code: for every result the code is f on the format's scale, rounded and held to the format's ends. Paper 01, "Analog value",
-- first half. Format 0 is ±10 V, 1 is 0..20 mA, 2 is 4..20 mA; a number above 2, which no table has, counts as 2. Assumes nothing.
use Rattle.std.specs.Prelude.{ℕ, zero, suc, Bool, cond, ℤ, pos, neg_ℤ, nat_abs, ◌-ℤ◌, ◌*ℤ◌, ◌≤ℤ◌}
use Rattle.std.specs.Int.Signed.{lt_z}
use Rattle.integers.specs.Fraction.{Frac, frac, nearest, halfway}
use Rattle.analog.specs.declared.Coded.{Coded}

-- Analog value, f = (r − start) ÷ (end − start): where the end is below the start both signs are turned, so that the lower number is
-- above zero. It is 0 where start equals end, which a load refuses; the code is then 0, as `round_div` has it for that divisor.
abbrev pub upper_of : ℤ → ℤ → ℤ → ℤ
upper_of start end r = cond (lt_z end start) (start -ℤ r) (r -ℤ start)

abbrev pub lower_of : ℤ → ℤ → ℕ
lower_of start end = nat_abs (end -ℤ start)

abbrev pub fraction : ℤ → ℤ → ℤ → Frac
fraction start end r = frac (upper_of start end r) (lower_of start end)

-- Analog value, "32,767 × f" in format 0, "65,535 × f" in formats 1 and 2: the scale, which is the highest code too
abbrev pub full_scale : ℕ → ℕ
full_scale zero = 32767
full_scale (suc k) = 65535

-- Analog value, "held to ±32,767", "held to 0..65,535": the lowest code
abbrev pub lowest : ℕ → ℤ
lowest zero = neg_ℤ (pos (full_scale zero))
lowest (suc k) = pos 0

-- Analog value, "held to": z, or the end that it lies beyond
unfoldable pub held : ℤ → ℤ → ℤ → ℤ
held lo hi z = cond (lt_z z lo) lo (cond (lt_z hi z) hi z)

-- Analog value, "32,767 × f", "65,535 × f"
abbrev pub on_scale : ℕ → Frac → Frac
on_scale format f = frac (pos (full_scale format) *ℤ f.num) f.den

-- Analog value, "round(32,767 × f)", "round(65,535 × f)", before it is held
abbrev pub rounded_of : ℕ → Frac → ℤ
rounded_of format f = nearest (on_scale format f)

-- Analog value, "code"
unfoldable pub code_of : ℕ → ℤ → ℤ → ℤ → ℤ
code_of format start end r = held (lowest format) (pos (full_scale format)) (rounded_of format (fraction start end r))

-- K7, "the fraction before the code is held to its ends": whether a half decided
unfoldable pub code_half : ℕ → ℤ → ℤ → ℤ → Bool
code_half format start end r = halfway (on_scale format (fraction start end r))

-- the code with its mark
unfoldable pub coded_of : ℕ → ℤ → ℤ → ℤ → Coded
coded_of format start end r = record { code = code_of format start end r; half = code_half format start end r }

-- a code within the ends of its format
pub record CodeFits (format : ℕ) (code : ℤ) : Type 0 where
  pub low : lowest format ≤ℤ code
  pub high : code ≤ℤ pos (full_scale format)
