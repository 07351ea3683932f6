-- What a float is worth: every finite float is exactly one fraction. Paper 01, opening: "A fraction in a statement is a pair of whole
-- numbers, the lower above zero; two are compared by cross-multiplying". Assumes nothing.
use Rattle.std.specs.Prelude.{ℕ, suc, ◌*◌, Bool, true, false, ℤ, pos, negsuc, neg_ℤ, Float}
use Rattle.integers.specs.Fraction.{Frac, frac}
use Rattle.std.specs.Float.{nan, inf, fin}
use Rattle.std.specs.Float.Ieee.{up, down}
use Rattle.std.specs.Float.Ieee.Exact.{HasValue}

-- a size with its sign, true for below zero
abbrev pub signed : Bool → ℕ → ℤ
signed false n = pos n
signed true n = neg_ℤ (pos n)

-- a float is m * 2 ^ e with its sign; a NaN and an infinity are worth nothing, so their lower number is 0 and they are the same as no fraction
abbrev pub value_of : Float → Frac
value_of nan = frac (pos 0) 0
value_of (inf s) = frac (pos 0) 0
value_of (fin s m e) = frac (signed s (m * up e)) (down e)

-- x is finite and exactly z / c, for a c above 0; a zero is +0
abbrev pub Is : Float → ℤ → ℕ → Type 0
Is x (pos n) c = HasValue x false n c
Is x (negsuc n) c = HasValue x true (suc n) c
