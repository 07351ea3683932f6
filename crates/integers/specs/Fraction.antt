-- Fractions as paper 01 has them: a pair of whole numbers, the lower above zero wherever one is used; two are compared by cross-multiplying.
-- Opening: "A fraction in a statement is a pair of whole numbers". Assumes nothing.
use Rattle.std.specs.Prelude.{◌≡◌, Bool, ℕ, ◌+◌, ◌*◌, ◌≤◌, ◌<◌, ℤ, pos, neg_ℤ, nat_abs, ◌-ℤ◌, ◌*ℤ◌}
use Rattle.integers.specs.declared.Rounded.{Rounded}
use Rattle.integers.specs.Round.{round_div, halved, rounding}

pub record Frac : Type 0 where
  pub num : ℤ
  pub den : ℕ

abbrev pub frac : ℤ → ℕ → Frac
frac a b = record { num = a; den = b }

-- two fractions are the same
abbrev pub Same : Frac → Frac → Type 0
Same p q = (0 < p.den) × (0 < q.den) × (p.num *ℤ pos q.den ≡ q.num *ℤ pos p.den)

-- a fraction that is not negative: a slope without sign, a distance, a bound
pub record Ratio : Type 0 where
  pub top : ℕ
  pub low : ℕ

abbrev pub at_most : Ratio → Ratio → Type 0
at_most a b = a.top * b.low ≤ b.top * a.low

-- a whole number, and the negative of a fraction
abbrev pub whole : ℤ → Frac
whole z = frac z 1

abbrev pub minus : Frac → Frac
minus q = frac (neg_ℤ q.num) q.den

-- the whole fraction rounded once
abbrev pub nearest : Frac → ℤ
nearest q = round_div q.num (pos q.den)

-- K7: whether a half decides it, and the value and its mark together
abbrev pub halfway : Frac → Bool
halfway q = halved q.num (pos q.den)

abbrev pub rounded : Frac → Rounded
rounded q = rounding q.num (pos q.den)

-- |u − w| times both lower numbers, and |u − w|
abbrev pub gap : Frac → Frac → ℕ
gap u w = nat_abs (u.num *ℤ pos w.den -ℤ w.num *ℤ pos u.den)

abbrev pub apart : Frac → Frac → Ratio
apart u w = record { top = gap u w; low = u.den * w.den }

-- 1/2 + S/2
abbrev pub allowed : Ratio → Ratio
allowed S = record { top = S.low + S.top; low = 2 * S.low }

-- the whole number r lies within 1/2 + S/2 of u; the lower numbers are above zero, so that the comparison says so
pub record Accurate (r : ℤ) (u : Frac) (S : Ratio) : Type 0 where
  pub near : at_most (apart (whole r) u) (allowed S)
  pub u-low : 0 < u.den
  pub S-low : 0 < S.low
