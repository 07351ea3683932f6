-- The laws of `halved`, the mark of a rounding: code sees it in the remainder, a multiple of the divisor and a whole number have none, and the sign does not
-- matter. Request K7. Assumes nothing.
use Rattle.std.specs.Prelude.{◌≡◌, refl, false, ℕ, zero, suc, ◌+◌, ◌*◌, ◌/◌, ◌%◌, ◌≤◌, ◌<◌, eqb, ℤ, pos, negsuc, neg_ℤ, nat_abs, ◌*ℤ◌}
use Rattle.std.proofs.Common.{ap, ◌∙◌, div-add-mod', mod-lt, arith, ne_eqb}
use Rattle.std.proofs.Math.Arith.{digits_mod}
use Rattle.std.specs.Int.Signed.{rem_z}
use Rattle.integers.specs.Int.{P, N}
use Rattle.integers.specs.IntLaws.{neg-P, neg-N}
use Rattle.integers.specs.RingLaws.{abs_neg, abs-times}
use Rattle.integers.specs.Round.{halved, rounding}
use Rattle.integers.proofs.RoundLaws.{round-one}
use Rattle.integers.specs.Fraction.{whole, halfway, rounded}
use Rattle.integers.specs.declared.Rounded.{Rounded}

-- twice a number by twice a divisor leaves twice the rest
double-mod : (a d : ℕ) → 0 < d → (2 * a) % (2 * d) ≡ 2 * (a % d)
double-mod a d h =
    let l : 2 * (a % d) < 2 * d = omega (arith, mod-lt a h) in
    let split : 2 * a ≡ (a / d) * (2 * d) + 2 * (a % d) = omega (arith, div-add-mod' a d) in
    ap (λ (x : ℕ). x % (2 * d)) split ∙ digits_mod (a / d) l

-- a half is where twice the rest is the divisor
half-by-rest : (n : ℤ) (d : ℕ) → halved n (pos (suc d)) ≡ eqb (2 * (nat_abs n % suc d)) (suc d)
unfolding halved
half-by-rest n d = ap (λ (x : ℕ). eqb x (suc d)) (double-mod (nat_abs n) (suc d) (omega arith))

-- the same by the remainder of division toward 0, as code has it
pub half-rest : (n d : ℤ) → N d < P d → halved n d ≡ eqb (2 * (P (rem_z n d) + N (rem_z n d))) (P d)
half-rest n (negsuc d) h = absurd (omega arith)
half-rest n (pos zero) h = absurd (omega arith)
half-rest (pos n) (pos (suc d)) h = half-by-rest (pos n) d ∙ ap (λ (x : ℕ). eqb (2 * x) (suc d)) (omega arith)
half-rest (negsuc n) (pos (suc d)) h =
    half-by-rest (negsuc n) d
    ∙ ap (λ (x : ℕ). eqb (2 * x) (suc d)) (omega (arith, neg-P (pos (suc n % suc d)), neg-N (pos (suc n % suc d))))

pub no-divisor : (n d : ℤ) → P d ≤ N d → halved n d ≡ false
unfolding halved
no-divisor n (negsuc d) h = refl
no-divisor n (pos zero) h = refl
no-divisor n (pos (suc d)) h = absurd (omega arith)

-- ---- what no half decides, and what does not matter to a half

-- a multiple of the divisor
pub multiple-no-half : (n d : ℤ) → halved (n *ℤ d) d ≡ false
multiple-no-half n (negsuc d) = no-divisor (n *ℤ negsuc d) (negsuc d) (omega arith)
multiple-no-half n (pos zero) = no-divisor (n *ℤ pos zero) (pos zero) (omega arith)
multiple-no-half n (pos (suc d)) =
    half-by-rest (n *ℤ pos (suc d)) d
    ∙ ap (λ (x : ℕ). eqb (2 * (x % suc d)) (suc d)) (abs-times n (pos (suc d)))
    ∙ ap (λ (x : ℕ). eqb (2 * x) (suc d)) (none (nat_abs n * suc d) (omega arith))
    ∙ ne_eqb (2 * 0) (suc d) (λ e. omega arith)
  where
    none : (x : ℕ) → x ≡ nat_abs n * suc d + 0 → x % suc d ≡ 0
    none x e = ap (λ (y : ℕ). y % suc d) e ∙ digits_mod (nat_abs n) (omega arith)

-- a whole number
pub whole-no-half : (z : ℤ) → halfway (whole z) ≡ false
unfolding halved
whole-no-half z = ne_eqb ((2 * nat_abs z) % (2 * 1)) 1 (even (nat_abs z))
  where
    even : (a : ℕ) → (2 * a) % (2 * 1) ≡ 1 → ⊥
    even a e = omega arith

pub whole-rounded : (z : ℤ) → ◌≡◌ {A = Rounded} (record { value = z; half = false }) (rounded (whole z))
unfolding rounding
whole-rounded z = rw (round-one z, whole-no-half z)

-- the sign
pub half-neg : (n d : ℤ) → halved (neg_ℤ n) d ≡ halved n d
unfolding halved
half-neg n (negsuc d) = refl
half-neg n (pos zero) = refl
half-neg n (pos (suc d)) = ap (λ (a : ℕ). eqb ((2 * a) % (2 * suc d)) (suc d)) (abs_neg n)
