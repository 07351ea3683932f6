-- The other rounding, halves upward, for one law alone: what the mark of a half says of it. The engine does not use it. Request K7. Assumes nothing.
use Rattle.std.specs.Prelude.{◌≡◌, true, false, not, ◌↔◌, zero, suc, ◌*◌, ◌≤◌, T, ℤ, pos, negsuc, nat_abs, ◌+ℤ◌, ◌-ℤ◌, ◌*ℤ◌}
use Rattle.std.specs.Int.Signed.{non_neg, shr_z}
use Rattle.integers.specs.Fraction.{Frac}
use Rattle.integers.specs.Round.{round_div, halved}

-- to the nearest whole number, halves upward: n / d + 1/2 rounded down, which is what `shr_z` does; 0 where d is not above 0
unfoldable pub round_up : ℤ → ℤ → ℤ
round_up n (negsuc d) = pos 0
round_up n (pos zero) = pos 0
round_up n (pos (suc d)) = shr_z (pos 2 *ℤ n +ℤ pos (suc d)) (2 * suc d)

-- the same of a fraction
abbrev pub upward : Frac → ℤ
upward q = round_up q.num (pos q.den)

-- THE LAW OF HALVES: without a half the two agree; they are never more than 1 apart; at a half they differ exactly where n is below 0
pub record LawOfHalves (n d : ℤ) : Type 0 where
  pub same : halved n d ≡ false → round_up n d ≡ round_div n d
  pub near : nat_abs (round_up n d -ℤ round_div n d) ≤ 1
  pub differ : halved n d ≡ true → (round_up n d ≡ round_div n d → ⊥) ↔ T (not (non_neg n))
