-- The engine's one rounding and one remainder: for every n and every d above 0, `round_div n d` is the whole number nearest to n / d,
-- and at a half the one farther from zero; `halved n d` says that it was a half. Paper 01, opening: "Round"; paper 02, K7.
-- A divisor that is not above 0 gives 0, and no half. Assumes nothing.
use Rattle.std.specs.Prelude.{zero, suc, ◌+◌, ◌-◌, ◌*◌, ◌/◌, ◌%◌, Bool, false, eqb, ℤ, pos, negsuc, neg_ℤ, nat_abs}
use Rattle.integers.specs.declared.Rounded.{Rounded}

-- Opening, "round": to the nearest whole number, halves away from zero
unfoldable pub round_div : ℤ → ℤ → ℤ
round_div n (negsuc d) = pos 0
round_div (pos n) (pos d) = pos ((2 * n + d) / (2 * d))
round_div (negsuc n) (pos d) = neg_ℤ (pos ((2 * suc n + d) / (2 * d)))

-- K7, "an exact half": n / d lies exactly between two whole numbers, 2 |n| is d more than a multiple of 2 d
unfoldable pub halved : ℤ → ℤ → Bool
halved n (negsuc d) = false
halved n (pos zero) = false
halved n (pos (suc d)) = eqb ((2 * nat_abs n) % (2 * suc d)) (suc d)

-- K7, "the rounding itself shall also say so": the value and its mark together
unfoldable pub rounding : ℤ → ℤ → Rounded
rounding n d = record { value = round_div n d; half = halved n d }

-- From telegram to result, step 2, "d modulo R, from 0 to R − 1"
unfoldable pub floor_mod : ℤ → ℤ → ℤ
floor_mod z (negsuc r) = pos 0
floor_mod z (pos zero) = pos 0
floor_mod (pos a) (pos (suc r)) = pos (a % suc r)
floor_mod (negsuc a) (pos (suc r)) = pos (r - a % suc r)
