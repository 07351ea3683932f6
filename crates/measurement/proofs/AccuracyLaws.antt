-- Demand 3's accuracy, for one reading: a result without error lies within 1/2 + S/2 of L(E), and with linearization off within 1/2 (S is 0 there).
-- The scaling rounds once, by at most 1/2; the curve carries that on by at most S times as much and rounds once more. Assumes nothing.
use Rattle.std.specs.Prelude.{None, Some, ◌≡◌, refl, Bool, List, [], ◌∷◌, ℕ, zero, suc, ◌+◌, ◌*◌, ◌≤◌, ◌<◌, ℤ, pos, neg_ℤ, nat_abs, ◌*ℤ◌}
use Rattle.std.proofs.Common.{sym, ap, subst, mul-le-mul_right, le_of_mul-le-mul_right, mul-pos, arith}
use Rattle.std.specs.Int.Signed.{lt_z}
use Rattle.integers.specs.Limit.{Z}
use Rattle.integers.specs.ChoiceLaws.{by-test}
use Rattle.integers.specs.IntLaws.{ints}
use Rattle.integers.specs.RingLaws.{var, lit, ◌⊕◌, ◌⊖◌, ◌⊗◌, ring, abs-ex}
use Rattle.integers.specs.Round.{round_div}
use Rattle.integers.proofs.RoundLaws.{off, round-near, round-one}
use Rattle.measurement.specs.declared.Error.{Error}
use Rattle.measurement.specs.declared.Measured.{Measured}
use Rattle.measurement.specs.declared.Scaling.{Scaling}
use Rattle.integers.specs.Fraction.{Frac, Ratio, at_most, whole, nearest, gap, apart, allowed, Accurate}
use Rattle.measurement.specs.Curve.{Point, curve, linearized_of, one_quadrant, steepest, steepest_from, rising, origin, Ordered}
use Rattle.measurement.proofs.CurveLaws.{Lip, triangle, lip-four, lip-one, steepest-over, steepest-low, four-den, one-den}
use Rattle.measurement.specs.Measure.{scaled_of, exact, error_number, measured, judged_of, used_points, value_of, measured_of, exact_of, exact_curve, distance_of}

-- a fraction rounded is within 1/2 of it
pub nearest-gap : (u : Frac) → 0 < u.den → 2 * gap (whole (nearest u)) u ≤ u.den
unfolding off
nearest-gap u h =
    let q : ℤ = nearest u in
    let d : ℕ = u.den in
    omega (arith, round-near u.num (pos d) (omega (arith, ints)), abs-ex (lit 2 ⊗ (lit d ⊗ var q ⊖ var u.num)), abs-ex (var q ⊗ lit d ⊖ var u.num ⊗ lit 1))

-- v is within 1/2 of E
pub scaled-gap : (d : ℤ) (f g : ℕ) (A : ℤ) → 0 < g → 2 * gap (whole (scaled_of d f g A)) (exact d f g A) ≤ g
unfolding scaled_of
scaled-gap d f g A h =
    let q : ℤ = round_div (d *ℤ pos f) (pos g) in
    rw (ap nat_abs (ring ((var q ⊕ var A) ⊗ lit g ⊖ (var (d *ℤ pos f) ⊕ var A ⊗ lit g) ⊗ lit 1) (var q ⊗ lit g ⊖ var (d *ℤ pos f) ⊗ lit 1) (omega arith)))
    (nearest-gap (record { num = d *ℤ pos f; den = g }) h)

-- a rounding on top of a value that moves no more than S times its place
through : (S : Ratio) (w : ℤ) (E u c : Frac) → 0 < E.den → 0 < u.den → 2 * gap (whole w) E ≤ E.den → Lip S (whole w) E u c →
    at_most (apart (whole (nearest u)) c) (allowed S)
through S w E u c p q near lip =
    let r : ℤ = nearest u in
    numbers S.low S.top E.den u.den c.den (gap (whole r) c) (gap (whole r) u) (gap u c) (gap (whole w) E) p q near lip (triangle (whole r) u c) (nearest-gap u q)
  where
    numbers : (run rise e d c g g₁ g₂ h : ℕ) → 0 < e → 0 < d → 2 * h ≤ e → run * (1 * e) * g₂ ≤ rise * h * (d * c) → g * d ≤ g₁ * c + g₂ * 1 → 2 * g₁ ≤ d →
        g * (2 * run) ≤ (run + rise) * (1 * c)
    numbers run rise e d c g g₁ g₂ h p q near lip tri half =
        le_of_mul-le-mul_right {k = d * e}
        (omega (arith, mul-le-mul_right (2 * run * e) tri, mul-le-mul_right (run * e * c) half, mul-le-mul_right 2 lip, mul-le-mul_right (rise * d * c) near)) (mul-pos q p)

-- with the mode on, the curve is no steeper than S, and its lower numbers are above zero
pub curve-lip : (m : ℕ) (ps : List Point) → Ordered (suc m) ps → (q r : Frac) → Lip (steepest (suc m) ps) q r (curve (suc m) ps q) (curve (suc m) ps r)
unfolding Ordered steepest curve
curve-lip m [] o q r = absurd o
curve-lip zero (p ∷ ps) o q r =
    subst (λ (p : Point). rising p ps → Lip (steepest_from p ps) q r (one_quadrant (p ∷ ps) q) (one_quadrant (p ∷ ps) r)) (sym o.0)
    (λ u. lip-one (steepest_from origin ps) ps u (steepest-over origin ps u) q r) o.1
curve-lip (suc m) (p ∷ ps) o q r = lip-four (steepest_from p ps) p ps o (steepest-over p ps o) q r

pub curve-low : (m : ℕ) (ps : List Point) → Ordered m ps → (q : Frac) → 0 < q.den → 0 < (curve m ps q).den
unfolding Ordered curve
curve-low zero ps o q h = h
curve-low (suc m) [] o q h = absurd o
curve-low (suc zero) (p ∷ ps) o q h = one-den p ps o.1 q h
curve-low (suc (suc m)) (p ∷ ps) o q h = four-den p ps o q h

pub steepest-above : (m : ℕ) (ps : List Point) → Ordered m ps → 0 < (steepest m ps).low
unfolding Ordered steepest
steepest-above zero ps o = omega arith
steepest-above (suc m) [] o = absurd o
steepest-above (suc zero) (p ∷ ps) o = steepest-low p ps o.1
steepest-above (suc (suc m)) (p ∷ ps) o = steepest-low p ps o

-- with the mode off, the bound is 1/2
half : (v : ℤ) (E : Frac) → 2 * gap (whole v) E ≤ E.den → at_most (apart (whole v) E) (allowed (record { top = 0; low = 1 }))
half v E h = omega arith

near-curve : (m : ℕ) (ps : List Point) → Ordered m ps → (d : ℤ) (f g : ℕ) (A : ℤ) → 0 < g →
    at_most (apart (whole (linearized_of m ps (scaled_of d f g A))) (curve m ps (exact d f g A))) (allowed (steepest m ps))
unfolding linearized_of curve steepest
near-curve zero ps o d f g A h = rw (round-one (scaled_of d f g A)) (half (scaled_of d f g A) (exact d f g A) (scaled-gap d f g A h))
near-curve (suc m) ps o d f g A h =
    through (steepest (suc m) ps) (scaled_of d f g A) (exact d f g A) (curve (suc m) ps (whole (scaled_of d f g A))) (curve (suc m) ps (exact d f g A))
    h (curve-low (suc m) ps o (whole (scaled_of d f g A)) (omega arith)) (scaled-gap d f g A h) (curve-lip m ps o (whole (scaled_of d f g A)) (exact d f g A))

-- steps 3 and 4 together
pub accuracy : (m : ℕ) (ps : List Point) → Ordered m ps → (d : ℤ) (f g : ℕ) (A : ℤ) → 0 < g →
    Accurate (linearized_of m ps (scaled_of d f g A)) (curve m ps (exact d f g A)) (steepest m ps)
accuracy m ps o d f g A h =
    record { near = near-curve m ps o d f g A h; u-low = curve-low m ps o (exact d f g A) h; S-low = steepest-above m ps o }

-- without error the result is the value
pub no-error : (b : Bool) (v : ℤ) → (judged_of b v).error ≡ None → (judged_of b v).result ≡ v
unfolding judged_of
no-error b v =
    by-test b (measured (pos 0) (Some Error.ErrorBit)) _ Q (λ _ e. absurd (omega (arith, ap error_number e)))
    (λ _. by-test (lt_z (pos Z) v) (measured (pos 0) (Some Error.AboveRange)) _ Q (λ _ e. absurd (omega (arith, ap error_number e)))
    (λ _. by-test (lt_z v (neg_ℤ (pos Z))) (measured (pos 0) (Some Error.BelowRange)) (measured v None) Q (λ _ e. absurd (omega (arith, ap error_number e))) (λ _ e. refl)))
  where
    Q : Measured → Type 0
    Q m = m.error ≡ None → m.result ≡ v

-- ---- the law

pub reading-accurate : (s : Scaling) (ws : List ℤ) (p : ℕ) (reported : Bool) → 0 < s.divider → Ordered s.linearization (used_points s ws) →
    (measured_of s ws p reported).error ≡ None →
    Accurate (measured_of s ws p reported).result (exact_curve s ws p) (steepest s.linearization (used_points s ws))
unfolding measured_of value_of exact_curve exact_of
reading-accurate s ws p reported h o e =
    subst (λ (r : ℤ). Accurate r (exact_curve s ws p) (steepest s.linearization (used_points s ws))) (sym (no-error reported (value_of s ws p) e))
    (accuracy s.linearization (used_points s ws) o (distance_of p s.offset s.round_loop) s.factor s.divider s.additive h)
