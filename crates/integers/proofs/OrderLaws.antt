-- The order of fractions, by cross-multiplying: it passes through a whole number, turns over with the sign, and rounding keeps it.
-- Paper 01, opening: "two are compared by cross-multiplying". Assumes nothing.
use Rattle.std.specs.Prelude.{◌≡◌, ℕ, suc, ◌+◌, ◌*◌, ◌/◌, ◌≤◌, ◌<◌, ℤ, pos, negsuc, neg_ℤ, ◌*ℤ◌, ◌≤ℤ◌}
use Rattle.std.proofs.Common.{ap, ap₂, ◌∙◌, subst₂, mul-le-mul_right, arith}
use Rattle.std.proofs.Math.Nat.{mul-div-mul_right}
use Rattle.integers.specs.Int.{P, N}
use Rattle.integers.specs.RingLaws.{var, lit, neg, ◌⊗◌, le, le_in}
use Rattle.integers.specs.Fraction.{Frac, whole, minus, nearest}
use Rattle.integers.specs.Round.{round_div}
use Rattle.integers.proofs.RoundLaws.{round-neg, round_mono}

-- u ≤ w
abbrev pub NotAbove : Frac → Frac → Type 0
NotAbove u w = (u.num *ℤ pos w.den) ≤ℤ (w.num *ℤ pos u.den)

pub not-above-self : (u : Frac) → NotAbove u u
not-above-self u = le (var u.num ⊗ lit u.den) (var u.num ⊗ lit u.den) (omega arith)

-- by a whole number between: nothing has to be cancelled
pub by_whole : (u w : Frac) (y : ℤ) → NotAbove u (whole y) → NotAbove (whole y) w → NotAbove u w
by_whole u w y h k =
    le (var u.num ⊗ lit w.den) (var w.num ⊗ lit u.den)
    (numbers (P u.num) (N u.num) (P w.num) (N w.num) (P y) (N y) u.den w.den
    (omega (arith, le_in (var u.num ⊗ lit 1) (var y ⊗ lit u.den) h))
    (omega (arith, le_in (var y ⊗ lit w.den) (var w.num ⊗ lit 1) k)))
  where
    numbers : (a a' c c' y y' b d : ℕ) → a + y' * b ≤ y * b + a' → y * d + c' ≤ c + y' * d → (a * d + a' * 0) + (c * 0 + c' * b) ≤ (c * b + c' * 0) + (a * 0 + a' * d)
    numbers a a' c c' y y' b d h k = omega (arith, mul-le-mul_right d h, mul-le-mul_right b k)

-- the negatives stand the other way round
pub turned-over : (u w : Frac) → NotAbove u w → NotAbove (minus w) (minus u)
turned-over u w h =
    le (neg (var w.num) ⊗ lit u.den) (neg (var u.num) ⊗ lit w.den)
    (omega (arith, le_in (var u.num ⊗ lit w.den) (var w.num ⊗ lit u.den) h))

-- ---- rounding

-- a fraction multiplied through rounds alike
near_times : (n d k : ℕ) → 0 < k → (2 * (n * k) + d * k) / (2 * (d * k)) ≡ (2 * n + d) / (2 * d)
near_times n d k h =
    let a : 2 * (n * k) + d * k ≡ (2 * n + d) * k = omega arith in
    let b : 2 * (d * k) ≡ (2 * d) * k = omega arith in
    ap₂ (λ (x y : ℕ). x / y) a b ∙ mul-div-mul_right (2 * n + d) (2 * d) h

pub round-times : (n : ℤ) (d k : ℕ) → 0 < k → round_div (n *ℤ pos k) (pos (d * k)) ≡ round_div n (pos d)
unfolding round_div
round-times (pos n) d k h = ap pos (near_times n d k h)
round-times (negsuc n) d k h = round-neg (pos (suc n * k)) (pos (d * k)) ∙ ap (λ (m : ℕ). neg_ℤ (pos m)) (near_times (suc n) d k h)

-- so two fractions with any lower numbers round in their order
pub nearest-mono : (u w : Frac) → 0 < u.den → 0 < w.den → NotAbove u w → nearest u ≤ℤ nearest w
nearest-mono u w hu hw h =
    subst₂ (λ (a b : ℤ). a ≤ℤ b) (round-times u.num u.den w.den hw) (ap (λ (m : ℕ). round_div (w.num *ℤ pos u.den) (pos m)) swap ∙ round-times w.num w.den u.den hu)
    (round_mono (u.num *ℤ pos w.den) (w.num *ℤ pos u.den) (pos (u.den * w.den)) h)
  where
    swap : u.den * w.den ≡ w.den * u.den
    swap = omega arith
